use Rattle.sig_io.proofs.Drafts.{nothing, then}
use Rattle.log_protocol.proofs.Gathered.{gather_more}
use Rattle.log_protocol.proofs.text.Sheet.put_all_greens.Goals as goal

pub loop-g-init : goal.loop-g-init
loop-g-init g c = nothing

pub loop-g-preserved : goal.loop-g-preserved
loop-g-preserved g c = rw gather_more (then c.loop-g.invariant c.put_greens_of.ensures)
