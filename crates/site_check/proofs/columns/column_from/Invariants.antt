use Rattle.site_check.proofs.ByteColumns.{IsColumn}
use Rattle.site_check.proofs.columns.column_from.Given as goal

-- the bytes that were passed
abbrev pub invariant-loop-i : goal.invariant-loop-i
invariant-loop-i l = IsColumn l.text l.column l.i
