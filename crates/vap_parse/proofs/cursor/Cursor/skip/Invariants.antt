use Rattle.std.proofs.Common.{◌≡◌, ◌+◌, ◌≤◌, length}
use Rattle.vap_parse.specs.Input.{skip}
use Rattle.vap_parse.proofs.cursor.Cursor.skip.Given as goal

-- what is left is skipped as the whole is
abbrev pub invariant-loop-self : goal.invariant-loop-self
invariant-loop-self l = record {
  goes_on : skip l.self-inside.tokens.now l.depth l.self-inside.operators ≡ skip l.fn.self.rest 0 l.fn.self.operators;
  room : l.depth + length l.self-inside.tokens.now ≤ length l.fn.self.rest;
}

abbrev pub decreases-loop-self : goal.decreases-loop-self
decreases-loop-self l = length l.self-inside.tokens.now
