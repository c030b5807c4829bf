use Rattle.sig_io.proofs.Drafts.{same_put, then}
use Rattle.trace_told.specs.Became.{turn_of}
use Rattle.trace_told.proofs.Refused.{item_more}
use Rattle.trace_told.proofs.became.put_turns.Goals as goal

pub loop-i-preserved : goal.loop-i-preserved
loop-i-preserved g c =
    same_put (item_more (turn_of c.args.plan.now c.args.group.0) c.args.turns.now c.loop-i.i c.get.result c.get.ensures)
    (then c.loop-i.invariant c.put_turn_of.ensures)
