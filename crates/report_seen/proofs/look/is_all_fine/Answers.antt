use Rattle.std.proofs.Common.{refl}
use Rattle.report_seen.specs.Look.{fine_to}
use Rattle.report_seen.proofs.Options.{fine_more}
use Rattle.report_seen.proofs.look.is_all_fine.Goals as goal

pub loop-place-init : goal.loop-place-init
unfolding fine_to
loop-place-init c = refl

pub loop-place-preserved : goal.loop-place-preserved
loop-place-preserved c = rw fine_more (rw c.loop-place.invariant at c.and_fine-fine.ensures)
