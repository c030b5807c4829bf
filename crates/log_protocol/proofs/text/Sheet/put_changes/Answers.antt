use Rattle.sig_io.proofs.Drafts.{nothing, then}
use Rattle.log_protocol.proofs.Gathered.{gather_more}
use Rattle.log_protocol.proofs.text.Sheet.put_changes.Goals as goal

pub loop-to-init : goal.loop-to-init
loop-to-init g c = nothing

pub loop-to-preserved : goal.loop-to-preserved
loop-to-preserved g c = rw gather_more (then c.loop-to.invariant c.put_changes_to.ensures)
