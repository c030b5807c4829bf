use Rattle.std.proofs.Common.{◌≡◌, ℕ, ◌+◌, ◌<◌, ◌≤◌, Some}
use Rattle.sig_guard.specs.Ages.{age_at}
use Rattle.sig_guard.specs.Stands.{kept_rules}
use Rattle.sig_guard.specs.Waits.{IsClearedFrom}
use Rattle.sig_guard.proofs.guard.Guard.cleared_from.Given as goal

abbrev pub invariant-loop-i : goal.invariant-loop-i
invariant-loop-i l = record {
  first : l.first ≤ l.from;
  cleared : (clearing intergreen : ℕ) → clearing < l.i → (kept_rules l.self).between clearing l.g.0 ≡ Some intergreen →
      (age_at l.self.present.ages clearing).last_end + intergreen ≤ l.from + (kept_rules l.self).red_amber l.g.0;
  least : (second : ℕ) → l.first ≤ second → IsClearedFrom (kept_rules l.self) (age_at l.self.present.ages) l.g.0 second → l.from ≤ second;
}
