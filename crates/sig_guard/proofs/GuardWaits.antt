-- What a guard keeps of its groups is that of its history.
use Rattle.std.proofs.Common.{◌≡◌, ◌∙◌, ℕ, suc, ◌+◌, ◌-◌, ◌<◌, ◌≤◌, Bool, true, false, Option, Some, None, is_some, length, ap, subst, sym, arith}
use Rattle.sig_types.specs.Turns.{History, Picture, shown, trace, is_on}
use Rattle.sig_types.specs.Rules.{Rules}
use Rattle.sig_types.specs.Words.{least_below}
use Rattle.sig_types.proofs.LastBelow.{IsLeast, least_below-none, least_below-some}
use Rattle.sig_guard.specs.declared.guard.Guard.{Guard}
use Rattle.sig_guard.specs.Ages.{age_at}
use Rattle.sig_guard.specs.Safety.{Sequence}
use Rattle.sig_guard.specs.Step.{natural_picture, is_in_conflict}
use Rattle.sig_guard.specs.Waits.{IsClearedFrom, IsWait, turn_from}
use Rattle.sig_guard.specs.Stands.{kept_rules, HasPast}
use Rattle.sig_guard.proofs.StandsAfter.{length_is, next_is, shows}
use Rattle.sig_guard.proofs.StepKept.{making_of}
use Rattle.sig_guard.proofs.Waits.{Natured, runs_of, may_end_is, end_waits, start_waits, start_never}

pub natured_is : (guard : Guard) (h : History) → HasPast guard h →
    Natured (kept_rules guard) h (age_at guard.present.ages)
natured_is guard h s = record {
  making = making_of (kept_rules guard) h s.history;
  runs = λ g lt. runs_of ((kept_rules guard).red_amber g) ((kept_rules guard).amber g) (age_at guard.present.ages g) (trace h g) (length h - 1)
      (s.present.aged g (omega (arith, lt, guard.pictured)))
      (subst (λ (n : ℕ). Sequence ((kept_rules guard).red_amber g) ((kept_rules guard).amber g) (trace h g) n) (length_is guard h s) (s.safe.sequence g lt));
}

-- the wait of an end, of a start, and of a start that never comes, by what a guard keeps
module _ (guard : Guard) (h : History) (g : ℕ) (natural : Picture) (s : HasPast guard h) (lt : g < (kept_rules guard).count)
    (nature : natural ≡ natural_picture (kept_rules guard) h) (from : ℕ)
    (from_is : from ≡ turn_from (kept_rules guard) g (age_at guard.present.ages g) (shown guard.present.picture g)) where
  abbrev r : Rules
  r = kept_rules guard

  natured : Natured r h (age_at guard.present.ages)
  natured = natured_is guard h s

  first_is : from ≡ turn_from r g (age_at guard.present.ages g) (trace h g (length h - 1))
  first_is = from_is ∙ ap (turn_from r g (age_at guard.present.ages g)) (shows guard h g s)

  on_is : (b : Bool) → is_on (shown natural g) ≡ b → is_on (trace h g (length h - 1)) ≡ b
  on_is b is = sym (may_end_is r h (age_at guard.present.ages) natured g lt) ∙ ap (λ (p : Picture). is_on (shown p g)) (sym nature) ∙ is

  conflict_is : least_below (is_in_conflict r natural g) r.count ≡ least_below (is_in_conflict r (natural_picture r h) g) r.count
  conflict_is = ap (λ (p : Picture). least_below (is_in_conflict r p g) r.count) nature

  pub wait_of_end : (n : ℕ) → is_on (shown natural g) ≡ true → n ≡ from - (guard.present.second + 1) → IsWait r h g (Some n)
  wait_of_end n on n_is =
      let wait : n ≡ turn_from r g (age_at guard.present.ages g) (trace h g (length h - 1)) - suc (length h - 1) =
      n_is ∙ (λ i. first_is i - next_is guard h s i) in
      subst (λ (k : ℕ). IsWait r h g (Some k)) (sym wait) (end_waits r h (age_at guard.present.ages) natured g lt (on_is true on))

  pub wait_of_start : (n until : ℕ) (o : Option ℕ) → is_on (shown natural g) ≡ false → o ≡ least_below (is_in_conflict r natural g) r.count → is_some o ≡ false →
      from ≤ until → IsClearedFrom r (age_at guard.present.ages) g until →
      ((second : ℕ) → from ≤ second → IsClearedFrom r (age_at guard.present.ages) g second → until ≤ second) →
      n ≡ until - (guard.present.second + 1) → IsWait r h g (Some n)
  wait_of_start n until (Some i) off conflict none first cleared least n_is = absurd (cc)
  wait_of_start n until None off conflict none first cleared least n_is =
      let wait : n ≡ until - suc (length h - 1) = n_is ∙ ap (λ k. until - k) (next_is guard h s) in
      subst (λ (k : ℕ). IsWait r h g (Some k)) (sym wait)
      (start_waits r h (age_at guard.present.ages) natured g lt (on_is false off)
      (least_below-none (is_in_conflict r (natural_picture r h) g) r.count (sym conflict_is ∙ sym conflict))
      until (omega (arith, first, first_is)) cleared (λ second le. least second (omega (arith, le, first_is))))

  pub never_starts : (o : Option ℕ) → is_on (shown natural g) ≡ false → o ≡ least_below (is_in_conflict r natural g) r.count → is_some o ≡ true → IsWait r h g None
  never_starts None off conflict some = absurd (cc)
  never_starts (Some i) off conflict some =
      let is : IsLeast (is_in_conflict r (natural_picture r h) g) r.count i =
      least_below-some (is_in_conflict r (natural_picture r h) g) r.count i (sym conflict_is ∙ sym conflict) in
      start_never r h (age_at guard.present.ages) natured g lt (on_is false off) i is.below is.here
