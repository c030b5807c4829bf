use Rattle.std.proofs.Common.{ℕ, List}
use Rattle.sig_tables.specs.Held.{empties}
use Rattle.tenth_tables.specs.Held.{ReadsPairs}
use Rattle.tenth_tables.proofs.intergreens_reader.take_pairs.Given as goal

abbrev pub invariant-loop-listed : goal.invariant-loop-listed
invariant-loop-listed l =
    (text : List ℕ) → ReadsPairs l.plan text l.fn.records l.fn.listed.cells.items l.fn.listed.pairs.items →
    ReadsPairs l.plan text l.records l.listed.cells.items l.listed.pairs.items

abbrev pub decreases-loop-listed : goal.decreases-loop-listed
decreases-loop-listed l = empties l.listed.cells.items
