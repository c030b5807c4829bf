use Rattle.std.proofs.Common.{◌≡◌, ◌+◌, ◌-◌, ◌≤◌, List, ◌++◌, length}
use Rattle.vap_lex.specs.declared.token.Token.{Token}
use Rattle.std.specs.List.{All}
use Rattle.vap_lex.specs.Kept.{IsKept, HasLine}
use Rattle.vap_lex.specs.Tokens.{Scans, End, line_at, start_of}
use Rattle.vap_lex.proofs.scan.tokens.Given as goal

-- what stands behind the place completes the tokens
abbrev pub invariant-loop-place : goal.invariant-loop-place
invariant-loop-place l = record {
  within : l.place ≤ length l.bytes;
  line : l.line ≡ line_at l.bytes l.place;
  at_most : l.line ≤ l.place + 1;
  goes_on : (ts : List Token) (e : End) → Scans l.bytes l.place ts e → Scans l.bytes (start_of l.bytes) (l.tokens.items ++ ts) e;
  kept : All IsKept l.tokens.items;
  lines : All (λ t. HasLine (length l.bytes) t) l.tokens.items;
}

abbrev pub decreases-loop-place : goal.decreases-loop-place
decreases-loop-place l = length l.bytes - l.place
