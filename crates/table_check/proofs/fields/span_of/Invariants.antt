use Rattle.std.proofs.Common.{◌≡◌, ◌≤◌, drop}
use Rattle.std.specs.List.{slice_get}
use Rattle.table_check.specs.Fields.{spans_of, spans_of_rest}
use Rattle.table_check.proofs.fields.span_of.Given as goal

-- the field is so many behind the one that has begun
abbrev pub invariant-loop-i : goal.invariant-loop-i
invariant-loop-i l =
    (l.from ≤ l.i) × (slice_get (spans_of l.row) l.place ≡ slice_get (spans_of_rest l.quoted l.from l.i (drop l.i l.row)) l.left)
