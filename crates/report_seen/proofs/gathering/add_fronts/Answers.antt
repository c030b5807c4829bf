use Rattle.std.proofs.Common.{◌≡◌, ◌∙◌, ◌++◌, length, ap, arith}
use Rattle.std.proofs.lemmas.List.{take_all}
use Rattle.report_seen.specs.Gathered.{fronts_from}
use Rattle.report_seen.proofs.Marks.{fronts_more}
use Rattle.report_seen.proofs.gathering.add_fronts.Goals as goal

pub loop-place-preserved : goal.loop-place-preserved
loop-place-preserved c =
    let size = c.get-count.ensures.length in
    record {
      put = fronts_more _ _ c.args.fronts.now.items c.args.second c.args.frame.now c.loop-place.place (omega (arith, size, c.loop-place-test.true))
          (rw c.get-count.ensures.item at c.in_ok-add_front.ensures) c.loop-place.invariant.put;
      size = λ some. size;
    }

pub returns : goal.returns
returns c =
    let size : length c.args.frame.now ≡ 64 = c.loop-place.invariant.size (omega (arith, c.loop-place-test.false)) in
    c.loop-place.invariant.put
    ∙ ap (λ xs. c.args.fronts.now.items ++ fronts_from c.args.second 1 xs)
    (take_all c.loop-place.place c.args.frame.now (omega (arith, size, c.loop-place-test.false)))
