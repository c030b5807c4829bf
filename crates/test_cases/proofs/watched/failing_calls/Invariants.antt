use Rattle.std.proofs.Common.{◌<◌, ℕ, false, Ok}
use Rattle.test_cases.proofs.watched.failing_calls.Given as goal

-- the calls so far failed, and no run was done before them
abbrev pub invariant-loop-call : goal.invariant-loop-call
invariant-loop-call g l = (call : ℕ) → call < l.call → goal.F-post g l.is_done_before call (Ok false)
