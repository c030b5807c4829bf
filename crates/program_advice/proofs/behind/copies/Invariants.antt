use Rattle.std.proofs.Common.{◌≡◌, take}
use Rattle.program_advice.proofs.behind.copies.Given as goal

-- so far copied
abbrev pub invariant-loop-token : goal.invariant-loop-token
invariant-loop-token l = l.list.items ≡ take l.token-index l.tokens
