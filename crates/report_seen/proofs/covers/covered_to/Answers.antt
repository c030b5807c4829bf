use Rattle.std.proofs.Common.{refl}
use Rattle.report_seen.specs.Letters.{covered_to}
use Rattle.report_seen.proofs.Blocks.{covered_more}
use Rattle.report_seen.proofs.covers.covered_to.Goals as goal

pub loop-place-init : goal.loop-place-init
unfolding covered_to
loop-place-init c = record { row = refl; end = c.requires.end }

pub loop-place-preserved : goal.loop-place-preserved
loop-place-preserved c = record {
  row = rw covered_more (rw c.loop-place.invariant.row at c.with_letter-filled.ensures.row);
  end = c.with_letter-filled.ensures.end;
}
