use Rattle.std.proofs.Common.{◌∙◌, ◌-◌, ap, drop, rules, sym, take}
use Rattle.std.specs.Prelude.{filter}
use Rattle.site_check.specs.Spots.{first_spot, is_name}
use Rattle.site_check.proofs.NamedTokens.{named_nowhere, named_there}
use Rattle.site_check.proofs.spots.name_spot.Goals as goal

pub returns-in-Some : goal.returns-in-Some
returns-in-Some c =
    let text = c.args.text.now in
    let name = c.args.name.now in
    let ts = c.as_slice-tokens.result.now in
    let same = c.as_slice-tokens.ensures.items in
    let r = c.statement_range-range.result in
    let at = c.statement_range-range.ensures.range text c.args.program.now c.requires same in
    c.place_spot.ensures
    ∙ (sym (named_there text ts r.0 r.1 c.args.line c.in-Some.place name c.statement_range-range.ensures.within c.in-Some.ensures)
    ∙ (ap (λ us. first_spot text c.args.line (filter (is_name c.args.line name) (take (r.1 - r.0) (drop r.0 us)))) same
    ∙ sym (ap (λ us. first_spot text c.args.line (filter (is_name c.args.line name) us)) at)))

pub returns-in-None : goal.returns-in-None
returns-in-None c =
    let text = c.args.text.now in
    let name = c.args.name.now in
    let ts = c.as_slice-tokens.result.now in
    let same = c.as_slice-tokens.ensures.items in
    let r = c.statement_range-range.result in
    let at = c.statement_range-range.ensures.range text c.args.program.now c.requires same in
    search (
      rules,
      sym (named_nowhere text ts r.0 r.1 c.args.line name c.statement_range-range.ensures.within c.in-None.ensures)
          ∙ (ap (λ us. first_spot text c.args.line (filter (is_name c.args.line name) (take (r.1 - r.0) (drop r.0 us)))) same
          ∙ sym (ap (λ us. first_spot text c.args.line (filter (is_name c.args.line name) us)) at)),
    )
