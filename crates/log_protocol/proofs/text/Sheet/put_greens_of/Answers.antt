use Rattle.sig_io.proofs.Drafts.{nothing, then}
use Rattle.log_protocol.proofs.Gathered.{gather_more}
use Rattle.log_protocol.proofs.text.Sheet.put_greens_of.Goals as goal

pub loop-i-init : goal.loop-i-init
loop-i-init g c = nothing

pub loop-i-preserved : goal.loop-i-preserved
loop-i-preserved g c = rw gather_more (then c.loop-i.invariant c.put_greens.ensures)
