use Rattle.std.proofs.Common.{◌≡◌, ◌+◌, ◌-◌, ◌*◌, ◌≤◌, drop}
use Rattle.std.specs.Prelude.{fold}
use Rattle.vap_lex.specs.Piece.{decimal}
use Rattle.vap_lex.proofs.piece.number.Given as goal

abbrev pub invariant-loop-digit : goal.invariant-loop-digit
invariant-loop-digit l = record { goes_on : fold (λ n d. n * 10 + (d - 48)) l.value (drop l.digit-index l.digits) ≡ decimal l.digits; small : l.value ≤ 2147483647 }
