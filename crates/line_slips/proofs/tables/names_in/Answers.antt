use Rattle.std.proofs.Common.{take, ap, sym, ◌∙◌}
use Rattle.line_slips.specs.TableSlips.{names_in}
use Rattle.line_slips.proofs.Somewhere.{names_end, names_more}
use Rattle.line_slips.proofs.tables.names_in.Goals as goal

pub returns-then-begins_with_number : goal.returns-then-begins_with_number
unfolding names_in
returns-then-begins_with_number c =
    c.split_at.ensures.front
    ∙ ap (λ n. take n c.args.row.now) (sym (names_end c.args.row.now c.split_at.result.1.now c.loop-i.i c.loop-i-test.true
    c.split_at.ensures.back c.loop-i.invariant c.if-begins_with_number.ensures))

pub loop-i-preserved : goal.loop-i-preserved
loop-i-preserved c =
    names_more c.args.row.now c.split_at.result.1.now c.loop-i.i c.loop-i-test.true c.split_at.ensures.back
    c.loop-i.invariant c.if-begins_with_number.ensures
