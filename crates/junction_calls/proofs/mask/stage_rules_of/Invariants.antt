use Rattle.std.proofs.Common.{◌≡◌, ◌<◌, ◌≤◌, ℕ, suc, length, get_or}
use Rattle.junction_calls.specs.Masked.{number_of, stage_refusal}
use Rattle.junction_calls.proofs.mask.stage_rules_of.Given as goal

abbrev pub invariant-loop-i : goal.invariant-loop-i
invariant-loop-i l = record {
  size : length l.told ≡ 32;
  filled : (p : ℕ) → p < l.i → get_or l.told p 0 ≡ number_of (stage_refusal l.plan l.place (suc p));
  rest : (p : ℕ) → l.i ≤ p → get_or l.told p 0 ≡ 0;
}
