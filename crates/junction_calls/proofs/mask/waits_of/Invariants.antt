use Rattle.std.proofs.Common.{◌≡◌, ◌<◌, ◌≤◌, ℕ, Option, length, get_or}
use Rattle.sig_types.specs.Turns.{History}
use Rattle.sig_guard.specs.Stands.{StandsFor as GuardStands, rules}
use Rattle.sig_guard.specs.Step.{natural_picture}
use Rattle.sig_guard.specs.Waits.{IsWait}
use Rattle.junction_calls.specs.Masked.{wait_number}
use Rattle.junction_calls.proofs.mask.waits_of.Given as goal

abbrev pub invariant-loop-g : goal.invariant-loop-g
invariant-loop-g l = record {
  size : length l.waits ≡ 64;
  filled : (h : History) → GuardStands l.guard h → l.natural ≡ natural_picture (rules l.guard) h →
      (p : ℕ) → p < l.g → (wait : Option ℕ) × IsWait (rules l.guard) h p wait × (get_or l.waits p 0 ≡ wait_number wait);
  rest : (p : ℕ) → l.g ≤ p → get_or l.waits p 0 ≡ 0;
}
