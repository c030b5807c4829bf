-- What is said of a refused turn is so, whatever was before the log.
use Rattle.std.proofs.Common.{◌≡◌, ℕ, zero, suc, ◌+◌, ◌-◌, ◌<◌, ◌≤◌, Bool, true, false, not, ◌&&◌, Option, Some, None, refl, arith, sym, ap, subst, inl, inr, ◌∙◌, if◌then◌else◌, length}
use Rattle.std.proofs.lemmas.Bool.{cases_lt, ltb-false}
use Rattle.sig_types.specs.declared.aspect.Aspect.{Aspect}
use Rattle.sig_types.specs.declared.aspect.Aspect.TheVariants.{Red, RedAmber, Green, Amber}
use Rattle.sig_types.specs.Rules.{Rules}
use Rattle.sig_types.specs.Turns.{History, trace, is_red, is_green, turns_green_at, turns_red_at, ends_at}
use Rattle.sig_types.proofs.LastBelow.{IsLast}
use Rattle.sig_guard.specs.Safety.{IsHistory}
use Rattle.sig_guard.specs.Step.{is_green_short, is_red_short}
use Rattle.sig_guard.proofs.SecondMore.{is_close, close_to_none}
use Rattle.log_judge.specs.declared.find.Terms.{Terms}
use Rattle.log_judge.specs.Past.{since, last_end}
use Rattle.log_judge.specs.Breaches.{is_known}
use Rattle.log_judge.specs.Found.{last_end_with}
use Rattle.log_judge.specs.Explained.{short_now, missed_now}
use Rattle.log_judge.proofs.Answers3.{Sure, sure_missed}
use Rattle.log_judge.proofs.Lasts.{sure_last, last_end_later, last_end_none, last_end_rests, uncleared_by, uncleared_none, lt_shift}
use Rattle.log_judge.proofs.Runs.{IsSince, since_is}
use Rattle.log_judge.proofs.Parts.{IsPart, stays_in, begun, end_in}

-- A log whose last second is m is the end of the whole history, from second o on.
pub record IsEnd (k : Terms) (h whole : History) (o m : ℕ) : Type 0 where
  pub long : length h ≡ suc m
  pub part : IsPart k h whole o
  pub end : length whole ≡ suc (o + m)

no_green_turn : (x y : Aspect) → x ≡ Green → (not (is_green x) && is_green y) ≡ false
no_green_turn x y e = rw e refl

no_red_turn : (x y : Aspect) → x ≡ Red → (not (is_red x) && is_red y) ≡ false
no_red_turn x y e = rw e refl

was_other_green : (x y : Aspect) → (x ≡ Green → ⊥) → y ≡ Green → (not (is_green x) && is_green y) ≡ true
was_other_green Red y ne e = rw e refl
was_other_green RedAmber y ne e = rw e refl
was_other_green Green y ne e = absurd (ne refl)
was_other_green Amber y ne e = rw e refl

was_other_red : (x y : Aspect) → (x ≡ Red → ⊥) → y ≡ Red → (not (is_red x) && is_red y) ≡ true
was_other_red Red y ne e = absurd (ne refl)
was_other_red RedAmber y ne e = rw e refl
was_other_red Green y ne e = rw e refl
was_other_red Amber y ne e = rw e refl

-- what group g shows since then it shows in the whole history
stays : (k : Terms) (h whole : History) (o m g j : ℕ) (x : Aspect) → IsEnd k h whole o m → trace h g m ≡ x → o + since (trace h g) m ≤ j → j ≤ o + m →
    trace whole g j ≡ x
stays k h whole o m g j x is shows lo hi = stays_in k h whole o g m j x is.part (omega (arith, is.long)) shows lo hi

pub green_short : (r : Rules) (k : Terms) (h whole : History) (o m g : ℕ) → IsEnd k h whole o m → IsHistory r.count whole → g < r.count → trace h g m ≡ Green →
    Sure k.rested (short_now k (suc m) (since (trace h g) m) (r.minimum_green g)) (is_green_short r whole g)
green_short r k h whole o m g is history lt shows =
    let at : length whole - 1 ≡ o + m = omega (arith, is.end) in
    rw at (sure_last k (turns_green_at (trace whole g)) o m (since (trace h g) m) (r.minimum_green g) run.at_most none turns)
  where
    run : IsSince (trace h g) m (since (trace h g) m)
    run = since_is (trace h g) m

    none : (j : ℕ) → o + since (trace h g) m < j → j < suc (o + m) → turns_green_at (trace whole g) j ≡ false
    none zero lo hi = refl
    none (suc j) lo hi = no_green_turn (trace whole g j) (trace whole g (suc j)) (stays k h whole o m g j Green is shows (omega (arith, lo)) (omega (arith, hi)))

    turns : is_known k (since (trace h g) m) ≡ true → turns_green_at (trace whole g) (o + since (trace h g) m) ≡ true
    turns known = elim (begun k h whole o g m is.part (omega (arith, is.long)) known) [
      | inl first ↦ absurd (
          let here : trace whole g (o + since (trace h g) m) ≡ Green = stays k h whole o m g (o + since (trace h g) m) Green is shows (omega arith) (omega (arith, run.at_most)) in
          let bad : Red ≡ Green = sym (history.all_red g lt) ∙ rw first at here in
          cc)
      | inr later ↦ (
          let here : trace whole g (suc later.0) ≡ Green = rw (sym later.1.0) at
          (stays k h whole o m g (o + since (trace h g) m) Green is shows (omega arith) (omega (arith, run.at_most))) in
          subst (λ (u : ℕ). turns_green_at (trace whole g) u ≡ true) later.1.0
          (was_other_green (trace whole g later.0) (trace whole g (suc later.0)) (λ e. later.1.1 (e ∙ sym shows)) here))
    ]

pub red_short : (r : Rules) (k : Terms) (h whole : History) (o m g : ℕ) → IsEnd k h whole o m → trace h g m ≡ Red →
    Sure k.rested (short_now k (suc m) (since (trace h g) m) (r.minimum_red g)) (is_red_short r whole g)
red_short r k h whole o m g is shows =
    let at : length whole - 1 ≡ o + m = omega (arith, is.end) in
    rw at (sure_last k (turns_red_at (trace whole g)) o m (since (trace h g) m) (r.minimum_red g) run.at_most none turns)
  where
    run : IsSince (trace h g) m (since (trace h g) m)
    run = since_is (trace h g) m

    none : (j : ℕ) → o + since (trace h g) m < j → j < suc (o + m) → turns_red_at (trace whole g) j ≡ false
    none zero lo hi = absurd (omega (arith, lo))
    none (suc j) lo hi = no_red_turn (trace whole g j) (trace whole g (suc j)) (stays k h whole o m g j Red is shows (omega (arith, lo)) (omega (arith, hi)))

    turns : is_known k (since (trace h g) m) ≡ true → turns_red_at (trace whole g) (o + since (trace h g) m) ≡ true
    turns known = elim (begun k h whole o g m is.part (omega (arith, is.long)) known) [
      | inl first ↦ rw first refl
      | inr later ↦ (
          let here : trace whole g (suc later.0) ≡ Red = rw (sym later.1.0) at
          (stays k h whole o m g (o + since (trace h g) m) Red is shows (omega arith) (omega (arith, run.at_most))) in
          subst (λ (u : ℕ). turns_red_at (trace whole g) u ≡ true) later.1.0
          (was_other_red (trace whole g later.0) (trace whole g (suc later.0)) (λ e. later.1.1 (e ∙ sym shows)) here))
    ]

-- the ends of the part are those of the whole
end_same : (k : Terms) (h whole : History) (o m i j : ℕ) → IsEnd k h whole o m → 1 ≤ j → j ≤ m → ends_at (trace whole i) (o + j) ≡ ends_at (trace h i) j
end_same k h whole o m i zero is one le = absurd (omega (arith, one))
end_same k h whole o m i (suc u) is one le =
    let next : o + suc u ≡ suc (o + u) = omega arith in
    rw (next, is.part.shows i u (omega (arith, le, is.long)), is.part.shows i (suc u) (omega (arith, le, is.long)) ∙ ap (trace whole i) next) refl

-- The trace a is that of group i in the whole history, and one second more, in which it ends where the log says so.
pub record IsMore (h whole : History) (o m i : ℕ) (was now : Aspect) (a : ℕ → Aspect) : Type 0 where
  pub old : (j : ℕ) → j < suc (o + m) → ends_at a j ≡ ends_at (trace whole i) j
  pub new : ends_at a (suc (o + m)) ≡ (is_green was && not (is_green now))

pub uncleared : (k : Terms) (h whole : History) (o m i ra : ℕ) (between : Option ℕ) (was now : Aspect) (a : ℕ → Aspect) → IsEnd k h whole o m →
    IsMore h whole o m i was now a →
    Sure k.rested (missed_now (suc m + ra) between (last_end_with (suc m) was now (last_end k.rested (trace h i) m))) (is_close between ra (suc (o + m)) a)
uncleared k h whole o m i ra between was now a is more =
    go (is_green was && not (is_green now)) refl
  where
    ended : Bool → Option ℕ
    ended c = if c then Some (suc m) else last_end k.rested (trace h i) m

    none_between : between ≡ None → is_close between ra (suc (o + m)) a ≡ false
    none_between e = ap (λ (x : Option ℕ). is_close x ra (suc (o + m)) a) e ∙ close_to_none ra (suc (o + m)) a

    last_of : (c : Bool) → (is_green was && not (is_green now)) ≡ c → (b : ℕ) → ended c ≡ Some b → IsLast (ends_at a) (suc (suc (o + m))) (o + b)
    last_of true e b some =
        let same : suc m ≡ b = cc in
        let at : o + b ≡ suc (o + m) = omega (arith, same) in
        rw at (record { below = omega arith; here = more.new ∙ e; after = λ j lo hi. absurd (omega (arith, lo, hi)) })
    last_of false e b some =
        let found = end_in k h whole o i m b is.part (omega (arith, is.long)) some in
        record {
          below = omega (arith, found.0);
          here = more.old (o + b) (omega (arith, found.0)) ∙ found.1;
          after = λ j lo hi. elim (cases_lt j (suc (o + m))) [
            | inl before ↦ (
                let inside : o + (j - o) ≡ j = omega (arith, lo) in
                more.old j before ∙ ap (ends_at (trace whole i)) (sym inside) ∙ end_same k h whole o m i (j - o) is (omega (arith, lo)) (omega (arith, before))
                ∙ last_end_later k.rested (trace h i) m b (j - o) some (omega (arith, lo)) (omega (arith, before)))
            | inr last ↦ (let at : j ≡ suc (o + m) = omega (arith, last, hi) in rw at (more.new ∙ e))
          ];
        }

    none_of : (c : Bool) → (is_green was && not (is_green now)) ≡ c → ended c ≡ None → (j : ℕ) → o < j → j < suc (suc (o + m)) → ends_at a j ≡ false
    none_of true e none j lo hi = absurd (cc)
    none_of false e none j lo hi = elim (cases_lt j (suc (o + m))) [
      | inl before ↦ (
          let inside : o + (j - o) ≡ j = omega (arith, lo) in
          more.old j before ∙ ap (ends_at (trace whole i)) (sym inside) ∙ end_same k h whole o m i (j - o) is (omega (arith, lo)) (omega (arith, before))
          ∙ last_end_none k.rested (trace h i) m (j - o) none (omega (arith, lo)) (omega (arith, before)))
      | inr last ↦ (let at : j ≡ suc (o + m) = omega (arith, last, hi) in rw at (more.new ∙ e))
    ]

    rests : (c : Bool) → ended c ≡ None → k.rested ≡ true → ⊥
    rests true none rested = cc
    rests false none rested = last_end_rests (trace h i) m (rw rested at none)

    go : (c : Bool) → (is_green was && not (is_green now)) ≡ c →
        Sure k.rested (missed_now (suc m + ra) between (if c then Some (suc m) else last_end k.rested (trace h i) m)) (is_close between ra (suc (o + m)) a)
    go c e = sure_missed k.rested (suc m + ra) between (ended c) (is_close between ra (suc (o + m)) a) none_between
        (λ z b pair some. ap (λ (x : Option ℕ). is_close x ra (suc (o + m)) a) pair ∙ uncleared_by a ra (suc (o + m)) (o + b) z (last_of c e b some)
        ∙ lt_shift o (suc m + ra) (b + z) (suc (o + m) + ra) (o + b + z) (omega arith) (omega arith))
        (λ z pair none late. ap (λ (x : Option ℕ). is_close x ra (suc (o + m)) a) pair
        ∙ uncleared_none a ra (suc (o + m)) o z (none_of c e none) (let most = ltb-false (suc m + ra) z late in omega (arith, most)))
        (λ rested none. rests c none rested)
