use Rattle.std.proofs.Common.{◌≡◌, ℕ, ◌≤◌, Bool, length, map, take}
use Rattle.std.specs.Prelude.{filter}
use Rattle.sig_types.specs.declared.refused.TurnRefusal.{TurnRefusal}
use Rattle.log_sums.specs.Early.{TellsEarly}
use Rattle.log_sums.specs.Told.{alone}
use Rattle.log_sums.proofs.early.early_of.Given as goal

abbrev pub invariant-loop-place : goal.invariant-loop-place
invariant-loop-place l = record {
  items : (early : ℕ → Bool) → TellsEarly l.shown l.groups early →
      l.items.items ≡ map alone (filter (λ (r : TurnRefusal). early r.group.0) (take l.place l.turns));
  few : length l.items.items ≤ l.place;
}
