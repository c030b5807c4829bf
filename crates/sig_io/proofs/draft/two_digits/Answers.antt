use Rattle.std.proofs.Common.{◌∙◌, ◌+◌, ◌/◌, ◌%◌, ◌++◌, ◌∷◌, [], ap, arith}
use Rattle.std.proofs.lemmas.Fmt.{decimal_digit, decimal_step}
use Rattle.sig_io.proofs.draft.two_digits.Goals as goal

pub returns : goal.returns
returns c =
    let n = c.args.n in
    decimal_step n c.requires.0 (omega (arith, c.requires.1))
    ∙ ap (λ tens. tens ++ (48 + n % 10) ∷ []) (decimal_digit (n / 10) (omega (arith, c.requires.1)))
