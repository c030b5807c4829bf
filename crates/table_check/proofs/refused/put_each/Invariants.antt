use Rattle.std.proofs.Common.{ℕ, List}
use Rattle.table_check.specs.Passed.{HasPassed}
use Rattle.table_check.proofs.refused.put_each.Given as goal

abbrev pub invariant-loop-number : goal.invariant-loop-number
invariant-loop-number l =
    (text : List ℕ) → HasPassed l.plan l.table text l.fn.rows l.fields 2 l.fn.seen l.fn.refused.items →
    HasPassed l.plan l.table text l.rows l.fields l.number l.seen l.refused.items
