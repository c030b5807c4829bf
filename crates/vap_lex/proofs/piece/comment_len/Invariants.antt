use Rattle.std.proofs.Common.{◌≡◌, ◌+◌, ◌≤◌, length}
use Rattle.std.specs.Option.{option_map}
use Rattle.vap_lex.specs.Piece.{comment_len}
use Rattle.vap_lex.proofs.piece.comment_len.Given as goal

abbrev pub invariant-loop-rest : goal.invariant-loop-rest
invariant-loop-rest l = record { goes_on : comment_len l.fn.bytes ≡ option_map (λ n. n + l.passed) (comment_len l.rest); room : l.passed + length l.rest ≤ length l.fn.bytes }

abbrev pub decreases-loop-rest : goal.decreases-loop-rest
decreases-loop-rest l = length l.rest
