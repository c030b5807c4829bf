use Rattle.std.proofs.Common.{◌∙◌, sym}
use Rattle.log_sums.proofs.Seen.{await_known, await_new}
use Rattle.log_sums.proofs.tally.add_key.Goals as goal

pub returns-then-has_tally : goal.returns-then-has_tally
returns-then-has_tally g c = λ a from n seen is.
    let has = rw c.as_slice.ensures.value at (sym c.has_tally.ensures ∙ c.if-has_tally.true) in
    await_known g.row.K.Denot g.K.Key.code a from n seen c.args.tallies.now.items c.args.key c.code.result c.code.ensures has is

pub returns-in-Ok : goal.returns-in-Ok
returns-in-Ok g c = λ a from n seen is.
    let none = rw c.as_slice.ensures.value at (sym c.has_tally.ensures ∙ c.if-has_tally.false) in
    rw c.in-Ok.ensures.items
    (await_new g.row.K.Denot g.K.Key.code a from n seen c.args.tallies.now.items c.args.key c.none.result c.code.result c.code.ensures none c.none.ensures is)
