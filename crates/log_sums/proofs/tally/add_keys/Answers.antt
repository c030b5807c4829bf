use Rattle.std.proofs.lemmas.List.{take_all, take_more}
use Rattle.log_sums.proofs.tally.add_keys.Goals as goal

pub loop-item-init : goal.loop-item-init
loop-item-init g c = λ a from n is. record { keys_are = is.keys_are; each = is.each }

pub loop-item-preserved : goal.loop-item-preserved
loop-item-preserved g c = λ a from n is.
    let before = c.loop-item.invariant a from n is in
    let more = c.in_ok-add_key.ensures a from n _ before in
    rw (take_more c.args.items.now c.loop-item.item-index c.item-item.result c.loop-item-test.true, ← c.item-item.is) more

pub returns : goal.returns
returns g c = λ a from n is.
    rw (take_all c.loop-item.item-index c.args.items.now c.loop-item-test.false) at (c.loop-item.invariant a from n is)
