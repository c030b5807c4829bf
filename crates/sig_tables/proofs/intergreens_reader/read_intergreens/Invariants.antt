use Rattle.sig_tables.specs.Held.{empties}
use Rattle.sig_tables.proofs.PairsRead.{ReadsPairs}
use Rattle.sig_tables.proofs.intergreens_reader.read_intergreens.Given as goal

abbrev pub invariant-loop-listed : goal.invariant-loop-listed
invariant-loop-listed l = ReadsPairs l.plan l.fn.bytes l.records l.listed.cells.items l.listed.pairs.items

abbrev pub decreases-loop-listed : goal.decreases-loop-listed
decreases-loop-listed l = empties l.listed.cells.items
