use Rattle.site_check.proofs.ByteColumns.{AreKept}
use Rattle.site_check.proofs.columns.columns_in.Given as goal

-- the steps that were passed
abbrev pub invariant-loop-step : goal.invariant-loop-step
invariant-loop-step l = AreKept l.text l.columns.items l.column l.step
