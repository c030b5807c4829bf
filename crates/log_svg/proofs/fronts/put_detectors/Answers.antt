use Rattle.std.proofs.Common.{arith, refl}
use Rattle.sig_io.proofs.Drafts.{nothing, then}
use Rattle.log_svg.specs.Covers.{spans_in}
use Rattle.log_svg.specs.Marks.{detectors_text, shown_to}
use Rattle.log_svg.proofs.Shown.{detectors_more, shown_more}
use Rattle.log_svg.proofs.fronts.put_detectors.Goals as goal

pub loop-place-init : goal.loop-place-init
unfolding detectors_text shown_to
loop-place-init g c = record {
  puts = nothing;
  shown = refl;
  few = omega arith;
}

pub loop-place-preserved : goal.loop-place-preserved
loop-place-preserved g c =
    let i = c.loop-place.invariant in
    record {
      puts = rw detectors_more (then i.puts (rw i.shown at c.put_shown.ensures));
      shown = omega (arith, shown_more c.args.marks.now (spans_in c.args.covers.now) c.loop-place.place, c.row_count-shown.ensures.count);
      few = omega arith;
    }
