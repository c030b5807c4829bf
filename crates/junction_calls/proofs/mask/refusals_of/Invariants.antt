use Rattle.std.proofs.Common.{◌≡◌, ◌<◌, ◌≤◌, ℕ, length, get_or}
use Rattle.sig_types.specs.Turns.{History}
use Rattle.sig_guard.specs.Alone.{turn_refusal}
use Rattle.sig_guard.specs.Stands.{StandsFor as GuardStands, rules}
use Rattle.sig_guard.specs.Step.{natural_picture}
use Rattle.junction_calls.specs.Masked.{refusal_numbers}
use Rattle.junction_calls.proofs.mask.refusals_of.Given as goal

abbrev pub invariant-loop-g : goal.invariant-loop-g
invariant-loop-g l = record {
  sizes : (length l.told_rules ≡ 64) × (length l.told_others ≡ 64);
  filled : (h : History) → GuardStands l.guard h → l.natural ≡ natural_picture (rules l.guard) h →
      (p : ℕ) → p < l.g → (get_or l.told_rules p 0, get_or l.told_others p 0) ≡ refusal_numbers (turn_refusal (rules l.guard) h p);
  rest : (p : ℕ) → l.g ≤ p → (get_or l.told_rules p 0 ≡ 0) × (get_or l.told_others p 0 ≡ 0);
}
