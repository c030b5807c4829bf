use Rattle.std.proofs.Common.{◌≡◌, ◌-◌, ◌≤◌, ◌++◌, take, drop, map}
use Rattle.table_check.specs.Lines.{records_of}
use Rattle.table_check.proofs.Pieces.{rest_of}
use Rattle.table_check.proofs.lines.records_in.Given as goal

-- the records so far, and then those of the piece that has begun and of what is left
abbrev pub invariant-loop-i : goal.invariant-loop-i
invariant-loop-i l =
    (l.from ≤ l.i)
    × (records_of l.text ≡
    map (λ r. r.now) l.records.items ++ rest_of (take (l.i - l.from) (drop l.from l.text)) l.quoted (drop l.i l.text))
