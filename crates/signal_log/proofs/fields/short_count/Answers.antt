use Rattle.std.proofs.Common.{◌∙◌, ◌+◌, ◌++◌, ◌∷◌, [], codes, sym, ap}
use Rattle.std.specs.Fmt.{decimal}
use Rattle.std.proofs.lemmas.Fmt.{decimal_digit}
use Rattle.signal_log.proofs.fields.short_count.Goals as goal

pub returns : goal.returns
returns c =
    let d = c.args.detector in
    let fronts = c.args.counts.0 in
    let rears = c.args.counts.1 in
    sym (ap (λ t. t ++ codes ":" ++ decimal fronts ++ codes ":" ++ decimal rears) (decimal_digit d c.requires.0)
    ∙ ap (λ t. (48 + d) ∷ [] ++ codes ":" ++ t ++ codes ":" ++ decimal rears) (decimal_digit fronts c.requires.1)
    ∙ ap (λ t. (48 + d) ∷ [] ++ codes ":" ++ (48 + fronts) ∷ [] ++ codes ":" ++ t) (decimal_digit rears c.requires.2))
