use Rattle.std.proofs.Common.{◌≡◌, ◌<◌, ◌≤◌, ℕ, length, get_or}
use Rattle.sig_types.specs.Turns.{is_on, shown}
use Rattle.junction_calls.specs.Masked.{turn_number}
use Rattle.junction_calls.proofs.mask.turns_of.Given as goal

abbrev pub invariant-loop-g : goal.invariant-loop-g
invariant-loop-g l = record {
  size : length l.turns ≡ 64;
  filled : (p : ℕ) → p < l.g → get_or l.turns p 0 ≡ turn_number (is_on (shown l.natural p));
  rest : (p : ℕ) → l.g ≤ p → get_or l.turns p 0 ≡ 0;
}
