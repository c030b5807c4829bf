use Rattle.std.proofs.Common.{◌≤◌, ◌+◌, ◌∙◌, ℕ, false, ap, arith, get_or, sym}
use Rattle.std.specs.Prelude.{if◌then◌else◌}
use Rattle.log_sums.proofs.Fits.{where_true}
use Rattle.log_sums.proofs.Serving.{fronts_more, fronts_whole}
use Rattle.log_sums.proofs.serves.fronts_at.Goals as goal

pub loop-place-preserved : goal.loop-place-preserved
loop-place-preserved c =
    let before = c.loop-place.invariant in
    let p = c.loop-place.place in
    let detectors = c.args.detectors.now in
    let chosen = get_or detectors c.from.result false in
    let more = c.counted-sum.result in
    let few : more ≤ 4294967295 = rw c.counted-sum.ensures (where_true chosen c.get-fronts.result.0 4294967295 (omega arith)) in
    record {
      sum = ap (λ (s : ℕ). s + more) before.sum ∙ sym (fronts_more detectors c.args.frame.now p chosen more
          (ap (λ (k : ℕ). get_or detectors k false) c.from.ensures)
          (c.counted-sum.ensures ∙ ap (λ (x : ℕ × ℕ). if chosen then x.0 else 0) c.get-fronts.ensures.item));
      most = omega (arith, before.most, few);
    }

pub returns-clause-fronts : goal.returns-clause-fronts
returns-clause-fronts c =
    c.loop-place.invariant.sum
    ∙ fronts_whole c.args.detectors.now c.args.frame.now c.loop-place.place (omega (arith, c.loop-place-test.false, c.loop-place.auto.place-end))

pub returns-clause-few : goal.returns-clause-few
returns-clause-few c = omega (arith, c.loop-place.invariant.most, c.loop-place.auto.place-end)
