use Rattle.std.proofs.Common.{◌≡◌, ◌≤◌, ◌<◌, ℕ, true, get_or}
use Rattle.sig_types.specs.declared.aspect.Aspect.TheVariants.{Red}
use Rattle.sig_types.specs.Turns.{same_aspect}
use Rattle.log_judge.proofs.judge.all_stay.Given as goal

abbrev pub invariant-loop-place : goal.invariant-loop-place
invariant-loop-place l = record {
  few : l.others ≤ l.place;
  each : l.others ≡ 0 → (k : ℕ) → k < l.place → same_aspect (get_or l.before k Red) (get_or l.after k Red) ≡ true;
}
