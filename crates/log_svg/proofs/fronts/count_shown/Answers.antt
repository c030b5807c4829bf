use Rattle.std.proofs.Common.{arith, refl}
use Rattle.log_svg.specs.Covers.{spans_in}
use Rattle.log_svg.specs.Marks.{shown_to}
use Rattle.log_svg.proofs.Shown.{shown_more}
use Rattle.log_svg.proofs.fronts.count_shown.Goals as goal

pub loop-place-init : goal.loop-place-init
unfolding shown_to
loop-place-init c = record { count = refl; few = omega arith }

pub loop-place-preserved : goal.loop-place-preserved
loop-place-preserved c = record {
  count = omega (arith, shown_more c.args.marks.now (spans_in c.args.covers.now) c.loop-place.place, c.row_count-count.ensures.count);
  few = omega arith;
}
