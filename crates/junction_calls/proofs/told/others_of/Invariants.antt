use Rattle.std.proofs.Common.{◌≡◌, ◌<◌, ◌≤◌, ℕ, length, get_or, Some}
use Rattle.std.specs.List.{slice_get}
use Rattle.sig_types.specs.declared.refused.TurnRefusal.{TurnRefusal}
use Rattle.junction_calls.specs.Numbers.{other_number}
use Rattle.junction_calls.proofs.told.others_of.Given as goal

abbrev pub invariant-loop-i : goal.invariant-loop-i
invariant-loop-i l = record {
  size : length l.others ≡ 64;
  filled : (p : ℕ) (turn : TurnRefusal) → p < l.i → slice_get l.turns p ≡ Some turn → get_or l.others p 0 ≡ other_number turn.other;
  rest : (p : ℕ) → l.i ≤ p → get_or l.others p 0 ≡ 0;
}
