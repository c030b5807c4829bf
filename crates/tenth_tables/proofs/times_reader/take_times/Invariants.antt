use Rattle.std.proofs.Common.{ℕ, List}
use Rattle.sig_tables.specs.Held.{empties}
use Rattle.tenth_tables.specs.Held.{ReadsTimes}
use Rattle.tenth_tables.proofs.times_reader.take_times.Given as goal

abbrev pub invariant-loop-held : goal.invariant-loop-held
invariant-loop-held l =
    (text : List ℕ) → ReadsTimes l.plan l.fields text l.fn.records l.fn.held → ReadsTimes l.plan l.fields text l.records l.held

abbrev pub decreases-loop-held : goal.decreases-loop-held
decreases-loop-held l = empties l.held
