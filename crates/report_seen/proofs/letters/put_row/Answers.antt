use Rattle.std.proofs.Common.{arith}
use Rattle.std.proofs.lemmas.List.{take_all}
use Rattle.report_seen.specs.Letters.{group_row}
use Rattle.sig_io.proofs.Drafts.{then}
use Rattle.report_seen.proofs.letters.put_row.Goals as goal

pub returns : goal.returns
unfolding group_row
returns g c =
    rw (take_all c.loop-span.span-index c.args.spans.now (omega (arith, c.loop-span-test.false))) at
    (then c.loop-span.invariant c.put.ensures)
