use Rattle.std.proofs.Common.{◌≡◌, ◌+◌, ◌≤◌, ◌++◌, drop}
use Rattle.table_check.specs.Lines.{begins_of_rest, record_begins}
use Rattle.table_check.proofs.lines.record_begins.Given as goal

-- the records so far, and then those of what is left
abbrev pub invariant-loop-b : goal.invariant-loop-b
invariant-loop-b l =
    (l.at.line ≤ l.b-index + 1) × (l.at.before ≤ l.b-index)
    × (record_begins l.text ≡ l.begins.items ++ begins_of_rest l.quoted l.at l.begun (drop l.b-index l.text))
