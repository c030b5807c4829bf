-- Each history has a verdict, and what the guard makes is judged safe.
use Rattle.std.proofs.Common.{◌≡◌, ◌∙◌, ℕ, zero, suc, ◌+◌, ◌-◌, ◌<◌, Bool, Option, Some, None, List, [], ◌∷◌, ◌++◌, length, take, get_or, replicate, refl, sym, ap, subst, arith, add-one}
use Rattle.std.proofs.lemmas.List.{take_more, length-take-le, length-replicate, get_or-replicate}
use Rattle.sig_types.specs.declared.aspect.Aspect.TheVariants.{Red}
use Rattle.sig_types.specs.declared.aspect.Rule.{Rule}
use Rattle.sig_types.specs.declared.aspect.Rule.TheVariants as rule
use Rattle.sig_types.specs.Rules.{Rules, IsTwoWay}
use Rattle.sig_types.specs.Turns.{Picture, History}
use Rattle.pua_model.specs.Plan.{group_number}
use Rattle.sig_guard.specs.Safety.{IsHistory, Safe}
use Rattle.sig_guard.proofs.LawProofs.{begins_safe, step_keeps_safe}
use Rattle.sig_audit.specs.declared.verdict.Verdict.{Verdict}
use Rattle.sig_audit.specs.declared.verdict.Verdict.TheVariants as verdict
use Rattle.sig_audit.specs.Verdict.{IsVerdict}
use Rattle.sig_audit.specs.NewSecond.{broken_now, IsJudgedNext}
use Rattle.sig_audit.specs.Trial.{made}
use Rattle.sig_audit.specs.Laws.{EachHasVerdict, GuardedIsJudgedSafe}
use Rattle.sig_audit.proofs.NextJudged.{take_all, more_length, first_broken, before_in_order, judged_next, judged_is, breach_stays}
use Rattle.sig_audit.proofs.Trials.{made_length}

-- what is judged of a picture more, where the history before it is safe: the rules are asked in their order
judged : (r : Rules) (h : History) (p : Picture) → length h ≡ suc (length h - 1) → Safe r h → (o : Option Verdict) × IsJudgedNext r h p o
judged r h p len safe = sequence (broken_now r h p rule.Sequence) refl
  where
    kept : Rule → Type 0
    kept e = broken_now r h p e ≡ None

    intergreen : kept rule.Sequence → kept rule.MinGreen → kept rule.MinRed → kept rule.Conflict → (o : Option Verdict) × IsJudgedNext r h p o
    intergreen a b c d = (broken_now r h p rule.Intergreen, judged_next r h p (broken_now r h p rule.Intergreen) len safe a b c d refl)

    conflict : kept rule.Sequence → kept rule.MinGreen → kept rule.MinRed → (o : Option Verdict) → broken_now r h p rule.Conflict ≡ o →
        (o : Option Verdict) × IsJudgedNext r h p o
    conflict a b c None is = intergreen a b c is
    conflict a b c (Some v) is = (
      Some v,
      first_broken r h p rule.Conflict v len safe
          (before_in_order kept 3 (omega arith) (λ _. a) (λ _. b) (λ _. c) (λ lt. absurd (omega arith)) (λ lt. absurd (omega arith))) is,
    )

    min_red : kept rule.Sequence → kept rule.MinGreen → (o : Option Verdict) → broken_now r h p rule.MinRed ≡ o → (o : Option Verdict) × IsJudgedNext r h p o
    min_red a b None is = conflict a b is (broken_now r h p rule.Conflict) refl
    min_red a b (Some v) is = (
      Some v,
      first_broken r h p rule.MinRed v len safe
          (before_in_order kept 2 (omega arith) (λ _. a) (λ _. b) (λ lt. absurd (omega arith)) (λ lt. absurd (omega arith)) (λ lt. absurd (omega arith))) is,
    )

    min_green : kept rule.Sequence → (o : Option Verdict) → broken_now r h p rule.MinGreen ≡ o → (o : Option Verdict) × IsJudgedNext r h p o
    min_green a None is = min_red a is (broken_now r h p rule.MinRed) refl
    min_green a (Some v) is = (
      Some v,
      first_broken r h p rule.MinGreen v len safe
          (before_in_order kept 1 (omega arith) (λ _. a) (λ lt. absurd (omega arith)) (λ lt. absurd (omega arith)) (λ lt. absurd (omega arith))
          (λ lt. absurd (omega arith))) is,
    )

    sequence : (o : Option Verdict) → broken_now r h p rule.Sequence ≡ o → (o : Option Verdict) × IsJudgedNext r h p o
    sequence None is = min_green is (broken_now r h p rule.MinGreen) refl
    sequence (Some v) is = (
      Some v,
      first_broken r h p rule.Sequence v len safe
          (before_in_order kept 0 (omega arith) (λ lt. absurd (omega arith)) (λ lt. absurd (omega arith)) (λ lt. absurd (omega arith))
          (λ lt. absurd (omega arith)) (λ lt. absurd (omega arith))) is,
    )

-- the verdict of a history with a picture more
from_judged : (r : Rules) (h : History) (p : Picture) (n : ℕ) (o : Option Verdict) → length h ≡ n + 1 → IsJudgedNext r h p o → (w : Verdict)
    × IsVerdict r (h ++ p ∷ []) w
from_judged r h p n None long safe = (verdict.Safe (n + 1), (safe, omega (arith, more_length h p, long)))
from_judged r h p n (Some v) long next = (v, judged_is r h p v next)

next_verdict : (r : Rules) (h : History) (p : Picture) (v : Verdict) → length h ≡ suc (length h - 1) → IsVerdict r h v → (w : Verdict)
    × IsVerdict r (h ++ p ∷ []) w
next_verdict r h p (verdict.Safe n) len was = let next = judged r h p len was.0 in from_judged r h p n next.0 was.1 next.1
next_verdict r h p (verdict.Broken second broken group other) len was =
    (verdict.Broken second broken group other, breach_stays r h p second broken group.0 (group_number other) was)

-- the verdict of the first k + 1 seconds
front_verdict : (r : Rules) (h : History) (k : ℕ) → IsHistory r.count h → k < length h → (v : Verdict) × IsVerdict r (take (suc k) h) v
front_verdict r [] zero is lt = absurd (omega arith)
front_verdict r (p ∷ h) zero is lt = let begins = begins_safe r p (is.sizes 0 lt) is.all_red in (verdict.Safe 0, (begins.1, refl))
front_verdict r h (suc k) is lt =
    let before = front_verdict r h k is (omega (arith, lt)) in
    let long : length (take (suc k) h) ≡ suc k = length-take-le (suc k) h (omega (arith, lt)) in
    let next = next_verdict r (take (suc k) h) (get_or h (suc k) []) before.0 (omega (arith, long)) before.1 in
    let more : take (suc (suc k)) h ≡ take (suc k) h ++ get_or h (suc k) [] ∷ [] = ap (λ (n : ℕ). take n h) (sym (add-one (suc k))) ∙
    take_more h (suc k) [] lt in
    (next.0, subst (λ (f : History). IsVerdict r f next.0) (sym more) next.1)

pub each_has_verdict : EachHasVerdict
each_has_verdict r h is =
    let last : suc (length h - 1) ≡ length h = omega (arith, is.begun) in
    let whole = front_verdict r h (length h - 1) is (omega (arith, is.begun)) in
    (whole.0, subst (λ (f : History). IsVerdict r f whole.0) (ap (λ (n : ℕ). take n h) last ∙ take_all h) whole.1)

-- what the guard makes is safe
made_safe : (r : Rules) (wishes : ℕ → List Bool) (n : ℕ) → IsTwoWay r → IsHistory r.count (made r wishes n) × Safe r (made r wishes n)
unfolding made
made_safe r wishes zero two_way = begins_safe r (replicate r.count Red) (length-replicate r.count Red) (λ g lt. get_or-replicate r.count g Red Red lt)
made_safe r wishes (suc n) two_way =
    let before = made_safe r wishes n two_way in
    step_keeps_safe r (made r wishes n) (wishes n) two_way before.0 before.1

pub guarded_is_judged_safe : GuardedIsJudgedSafe
guarded_is_judged_safe r wishes n two_way = ((made_safe r wishes n two_way).1, made_length r wishes n)
