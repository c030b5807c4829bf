-- The beginnings of a history.
use Rattle.std.proofs.Common.{◌≡◌, ℕ, zero, suc, ◌+◌, ◌≤◌, ◌↔◌, [], ◌∷◌, length, take, get_or, refl, arith, inl, inr, ap, subst, ◌∙◌, Option}
use Rattle.std.proofs.lemmas.Bool.{cases_lt}
use Rattle.std.proofs.lemmas.List.{get_or-take}
use Rattle.sig_types.specs.declared.aspect.Aspect.TheVariants.{Red}
use Rattle.sig_types.specs.declared.aspect.Rule.{Rule}
use Rattle.sig_types.specs.Turns.{Picture, History, trace}
use Rattle.sig_types.specs.Rules.{Rules, IsTwoWay}
use Rattle.pua_model.specs.Plan.{group_number}
use Rattle.sig_guard.specs.Safety.{IsHistory, Safe}
use Rattle.sig_audit.specs.declared.verdict.Verdict.{Verdict}
use Rattle.sig_audit.specs.declared.verdict.Verdict.TheVariants as verdict
use Rattle.sig_audit.specs.Verdict.{IsVerdict, BreaksFirst, up_to}
use Rattle.sig_audit.proofs.NewRules.{safe_keeps, keeps_not_breaks}
use Rattle.sig_audit.proofs.VerdictLaws.{safe_front}
use Rattle.log_judge.specs.Breaches.{breaches}
use Rattle.log_judge.proofs.SafeNone.{part_has_none}
use Rattle.log_judge.proofs.NoneSafe.{none_safe}
use Rattle.laws.specs.BreachesAndVerdicts.{audited, IsFirst}

pub front_length : (k : ℕ) (h : History) → k ≤ length h → length (take k h) ≡ k
front_length zero h le = refl
front_length (suc k) [] le = absurd (omega arith)
front_length (suc k) (p ∷ h) le = ap suc (front_length k h (omega arith))

front_twice : (j k : ℕ) (h : History) → j ≤ k → take j (take k h) ≡ take j h
front_twice zero k h le = refl
front_twice (suc j) zero h le = absurd (omega arith)
front_twice (suc j) (suc k) [] le = refl
front_twice (suc j) (suc k) (p ∷ h) le = ap (λ (x : History). p ∷ x) (front_twice j k h (omega arith))

pub front_history : (n k : ℕ) (h : History) → IsHistory n h → 1 ≤ k → k ≤ length h → IsHistory n (take k h)
front_history n k h is one le =
    let long = front_length k h le in
    record {
      begun = omega (arith, long, one);
      sizes = λ t lt. ap length (get_or-take k h t [] (omega (arith, lt, long))) ∙ is.sizes t (omega (arith, lt, long, le));
      all_red = λ g lt. ap (λ (q : Picture). get_or q g Red) (get_or-take k h 0 [] one) ∙ is.all_red g lt;
    }

-- a safe history has none
pub none_of_safe : (r : Rules) (h : History) → IsHistory r.count h → Safe r h → breaches r audited h ≡ []
none_of_safe r h is safe = part_has_none r audited h h 0 is safe (record {
  shows = λ g t lt. ap (trace h g) (from_zero t);
  fits = omega arith;
  whole = λ rested. omega arith;
})
  where
    from_zero : (t : ℕ) → t ≡ 0 + t
    from_zero t = omega arith

-- what the audit calls broken in second t is safe up to before it, and not with it
of_broken : (r : Rules) (h : History) (t : ℕ) (broken : Rule) (g : ℕ) (other : Option ℕ) → IsTwoWay r → IsHistory r.count h →
    BreaksFirst r h t broken g other → (k : ℕ) → 1 ≤ k → k ≤ length h → (breaches r audited (take k h) ≡ []) ↔ (k ≤ t)
of_broken r h t broken g other two_way is breach k one le = (reaches, stays_before)
  where
    reaches : breaches r audited (take k h) ≡ [] → k ≤ t
    reaches none = elim (cases_lt t k) [
      | inr before ↦ before
      | inl later ↦ absurd (
          let long = front_length k h le in
          let safe : Safe r (take k h) = none_safe r (take k h) two_way (front_history r.count k h is one le) none in
          let shorter : Safe r (take (suc t) (take k h)) = safe_front r (take k h) (suc t) (omega arith) (omega (arith, long, later)) safe in
          let here : Safe r (up_to h t) = subst (λ (x : History). Safe r x) (front_twice (suc t) k h (omega (arith, later))) shorter in
          keeps_not_breaks r (up_to h t) g broken other (safe_keeps r (up_to h t) g broken here breach.group) breach.breaks)
    ]

    stays_before : k ≤ t → breaches r audited (take k h) ≡ []
    stays_before before =
        let long = front_length t h (omega (arith, breach.second)) in
        let shorter : Safe r (take k (take t h)) = safe_front r (take t h) k one (omega (arith, long, before)) breach.before in
        let here : Safe r (take k h) = subst (λ (x : History). Safe r x) (front_twice k t h before) shorter in
        none_of_safe r (take k h) (front_history r.count k h is one le) here

pub first_is : (r : Rules) (h : History) (v : Verdict) → IsTwoWay r → IsHistory r.count h → IsVerdict r h v → IsFirst r h v
first_is r h (verdict.Safe n) two_way is judged = none_of_safe r h is judged.0
first_is r h (verdict.Broken second broken group other) two_way is judged =
    of_broken r h second broken group.0 (group_number other) two_way is judged
