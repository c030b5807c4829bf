use Rattle.std.proofs.Common.{sym, ap, ◌∙◌, length, arith, ◌-◌}
use Rattle.std.specs.Prelude.{unwrap_or}
use Rattle.std.proofs.lemmas.List.{get_or_default}
use Rattle.vap_code.specs.declared.Instr.TheVariants.{Tick, Ret}
use Rattle.vap_code.specs.Valid.{goes_on}
use Rattle.code_verify.proofs.Brought.{jumped_unwrap, jumped_low, height_jumped}
use Rattle.code_verify.proofs.tables.height_after.Goals as goal

pub returns-else-goes_on-clause-exact : goal.returns-else-goes_on-clause-exact
returns-else-goes_on-clause-exact c =
    let is = c.unwrap_or.ensures ∙ ap (λ o. unwrap_or o 0) c.requires.brought ∙
    jumped_unwrap c.args.instrs.now c.args.heights.now (length c.args.heights.now) in
    is ∙ height_jumped c.args.instrs.now c.args.starts.now c.args.heights.now (sym c.begins.ensures ∙ c.if-begins.false)
    (ap goes_on (get_or_default c.args.instrs.now (length c.args.heights.now - 1) Ret (Tick 0) (omega (arith, c.requires.inside))) ∙
    sym c.goes_on.ensures ∙ c.if-goes_on.false)

pub returns-else-goes_on-clause-low : goal.returns-else-goes_on-clause-low
returns-else-goes_on-clause-low c =
    omega (
      arith,
      jumped_low c.args.instrs.now c.args.heights.now (length c.args.heights.now) c.requires.low,
      c.unwrap_or.ensures ∙ ap (λ o. unwrap_or o 0) c.requires.brought ∙ jumped_unwrap c.args.instrs.now c.args.heights.now (length c.args.heights.now),
    )
