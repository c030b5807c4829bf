use Rattle.std.proofs.Common.{◌∙◌, sym}
use Rattle.det_stream.proofs.EntryLemmas.{no_numbers, are_numbers}
use Rattle.det_stream.proofs.entries.entry_numbers.Goals as goal

pub returns-then-not-are_numbers : goal.returns-then-not-are_numbers
returns-then-not-are_numbers c = no_numbers c.args.entry.now _ _ _ c.in-Some.ensures (sym c.are_numbers.ensures ∙ c.if-not-are_numbers.true)

pub returns : goal.returns
returns c = are_numbers c.args.entry.now _ _ _ c.in-Some.ensures (sym c.are_numbers.ensures ∙ c.if-not-are_numbers.false)
