use Rattle.std.proofs.Common.{◌∙◌, sym}
use Rattle.det_stream.proofs.EntryLemmas.{empty_judged, empty_frame, zero_counts}
use Rattle.det_stream.proofs.ReadLemmas.{no_sums}
use Rattle.det_stream.proofs.entries.read_entries.Goals as goal

pub returns-then-is_empty-clause-judged : goal.returns-then-is_empty-clause-judged
returns-then-is_empty-clause-judged c = empty_judged c.args.line.now (sym c.is_empty.ensures ∙ c.if-is_empty.true)

pub returns-then-is_empty-clause-frame : goal.returns-then-is_empty-clause-frame
returns-then-is_empty-clause-frame c = c.clear.ensures ∙ empty_frame c.args.line.now (sym c.is_empty.ensures ∙ c.if-is_empty.true)

pub returns-then-is_empty-clause-counts : goal.returns-then-is_empty-clause-counts
returns-then-is_empty-clause-counts c = rw c.clear.ensures (zero_counts 99)

pub returns-then-is_empty-clause-sum : goal.returns-then-is_empty-clause-sum
returns-then-is_empty-clause-sum c = rw c.clear.ensures (no_sums c.args.totals.now).sum
