use Rattle.std.proofs.Common.{◌≡◌, take}
use Rattle.program_advice.specs.Stands.{AreStanding}
use Rattle.program_advice.proofs.behind.those_standing.Given as goal

-- so far told
abbrev pub invariant-loop-kind : goal.invariant-loop-kind
invariant-loop-kind l = record {
  same : l.tokens.items ≡ l.fn.tokens.items;
  told : AreStanding l.fn.tokens.items (take l.kind-index l.kinds) l.told.items;
}
