use Rattle.std.proofs.Common.{◌≡◌, take}
use Rattle.program_advice.specs.Open.{opened_by}
use Rattle.program_advice.proofs.open.opened_by.Given as goal

-- what is open so far
abbrev pub invariant-loop-token : goal.invariant-loop-token
invariant-loop-token l = l.opened ≡ opened_by (take l.token-index l.tokens)
