use Rattle.std.proofs.Common.{◌≡◌, ◌∙◌, ◌<◌, ℕ, ◌∷◌, Option, None, ap, arith, get_or, length}
use Rattle.std.proofs.lemmas.List.{length-set}
use Rattle.log_sums.proofs.Added.{set_rest, set_shown}
use Rattle.report_seen.specs.declared.lost.Asking.{Asking}
use Rattle.report_seen.specs.Lost.{asked_for}
use Rattle.report_seen.proofs.Losing.{asked_then}
use Rattle.report_seen.proofs.lost.ask.Goals as goal

pub loop-group-preserved : goal.loop-group-preserved
loop-group-preserved c =
    let before = c.loop-group.invariant in
    let xs = c.loop-group.asked in
    let i = c.from-at.result in
    let at = c.from-at.ensures in
    let inside : i < length xs = omega (arith, at, before.size, c.loop-group-test.true, c.len-group-end.ensures.at_most, c.len-group-end.ensures.len) in
    record {
      size = length-set xs i c.asked_after.result ∙ before.size;
      done = λ earlier asked g less.
          set_shown (Option Asking) xs i g c.asked_after.result None (λ x. x ≡ asked_for g (c.args.rec.now ∷ earlier)) inside
          (λ same. asked_then c.args.rec.now earlier c.loop-group.group g c.refused_start.result (get_or xs i None) c.asked_after.result
          (same ∙ at) c.refused_start.ensures (ap (λ (k : ℕ). get_or xs k None) at ∙ before.left c.loop-group.group (omega arith) ∙ asked c.loop-group.group (omega (arith, c.loop-group-test.true, c.len-group-end.ensures.len)))
          c.asked_after.ensures)
          (λ under. before.done earlier asked g (omega (arith, at, under))) (omega (arith, at, less));
      left = λ g behind. set_rest (Option Asking) xs i g c.asked_after.result None (omega (arith, at, behind)) ∙ before.left g (omega (arith, behind));
    }

pub returns : goal.returns
returns c earlier asked g inside = c.loop-group.invariant.done earlier asked g (omega (arith, inside, c.loop-group-test.false, c.len-group-end.ensures.len))
