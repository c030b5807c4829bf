use Rattle.program_advice.proofs.EachPart.{parts_more}
use Rattle.program_advice.proofs.wanted.put_each.Goals as goal

pub loop-kind-preserved : goal.loop-kind-preserved
loop-kind-preserved c =
    parts_more c.args.kinds.now c.loop-kind.kind-index _ c.args.text.now.items c.loop-kind.text.items c.put_kind.new.text.items
    c.loop-kind-test.true c.loop-kind.invariant c.in_ok-put_kind.ensures
