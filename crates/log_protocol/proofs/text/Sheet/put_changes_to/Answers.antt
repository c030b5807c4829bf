use Rattle.sig_io.proofs.Drafts.{nothing, then}
use Rattle.log_protocol.proofs.Gathered.{gather_more}
use Rattle.log_protocol.proofs.text.Sheet.put_changes_to.Goals as goal

pub loop-from-init : goal.loop-from-init
loop-from-init g c = nothing

pub loop-from-preserved : goal.loop-from-preserved
loop-from-preserved g c = rw gather_more (then c.loop-from.invariant c.put_change.ensures)
