-- The last turn and the last end of a whole history, from what a part of it shows.
use Rattle.std.proofs.Common.{◌≡◌, ℕ, zero, suc, ◌+◌, ◌<◌, ◌≤◌, Bool, true, false, not, ◌&&◌, Option, Some, None, is_some, refl, arith, sym, ap, inl, inr, ◌∙◌, nat_lt}
use Rattle.std.proofs.lemmas.Bool.{cases_lt, cases_eq, and_from, and_parts, ltb-false, lt-ltb, le-ltb, eqb-true}
use Rattle.sig_types.specs.declared.aspect.Aspect.{Aspect}
use Rattle.sig_types.specs.Turns.{ends_at}
use Rattle.sig_types.specs.Words.{last_below, least_below, or_here}
use Rattle.sig_types.proofs.LastBelow.{IsLast, last_below-at, last_below-some, last_below-never, least_below-at, least_below-none, IsLeast, least_below-some}
use Rattle.sig_guard.specs.Step.{is_short}
use Rattle.sig_guard.proofs.SecondMore.{is_close}
use Rattle.log_judge.specs.declared.find.Terms.{Terms}
use Rattle.log_judge.specs.Past.{last_end}
use Rattle.log_judge.specs.Breaches.{is_known}
use Rattle.log_judge.specs.Explained.{short_now, is_at}
use Rattle.log_judge.proofs.Answers3.{Sure, sure_short}
use Rattle.log_judge.proofs.Runs.{clash}

pub lt_shift : (o a b x y : ℕ) → x ≡ o + a → y ≡ o + b → nat_lt x y ≡ nat_lt a b
lt_shift o a b x y ex ey = elim (cases_lt a b) [
  | inl lt ↦ lt-ltb x y (omega (arith, lt, ex, ey)) ∙ sym (lt-ltb a b lt)
  | inr ge ↦ le-ltb x y (omega (arith, ge, ex, ey)) ∙ sym (le-ltb a b ge)
]

-- A turn in S of a part that begins in o, if it is known, and none after it: whether it is too young.
pub sure_last : (k : Terms) (p : ℕ → Bool) (o m s least : ℕ) → s ≤ m → ((j : ℕ) → o + s < j → j < suc (o + m) → p j ≡ false) →
    (is_known k s ≡ true → p (o + s) ≡ true) →
    Sure k.rested (short_now k (suc m) s least) (is_short least (last_below p (suc (o + m))) (suc (o + m)))
sure_last k p o m s least le none turns = sure_short k (suc m) s least _ late early
  where
    early : is_known k s ≡ true → is_short least (last_below p (suc (o + m))) (suc (o + m)) ≡ nat_lt (suc m) (s + least)
    early known =
        let last : last_below p (suc (o + m)) ≡ Some (o + s) = last_below-at p (suc (o + m)) (o + s) (turns known) (omega (arith, le)) none in
        ap (λ (u : Option ℕ). is_short least u (suc (o + m))) last
        ∙ lt_shift o (suc m) (s + least) (suc (o + m)) (o + s + least) (omega arith) (omega arith)

    late : nat_lt (suc m) (s + least) ≡ false → is_short least (last_below p (suc (o + m))) (suc (o + m)) ≡ false
    late over = go (last_below p (suc (o + m))) refl
      where
        go : (u : Option ℕ) → last_below p (suc (o + m)) ≡ u → is_short least u (suc (o + m)) ≡ false
        go None e = refl
        go (Some u) e = (
            let is : IsLast p (suc (o + m)) u = last_below-some p (suc (o + m)) u e in
            let most : s + least ≤ suc m = ltb-false (suc m) (s + least) over in
            elim (cases_lt (o + s) u) [
              | inl after ↦ absurd (clash _ is.here (none u after is.below))
              | inr before ↦ le-ltb (suc (o + m)) (u + least) (omega (arith, before, most))
            ])

-- the last end of a trace: none comes after it
pub last_end_later : (rested : Bool) (c : ℕ → Aspect) (m b j : ℕ) → last_end rested c m ≡ Some b → b < j → j ≤ m → ends_at c j ≡ false
last_end_later rested c zero b j e lt le = absurd (omega (arith, lt, le))
last_end_later rested c (suc m) b j e lt le = go (λ (h : last_end rested c m ≡ Some b) (l : j ≤ m). last_end_later rested c m b j h lt l) (ends_at c (suc m)) refl
  where
    go : (last_end rested c m ≡ Some b → j ≤ m → ends_at c j ≡ false) → (x : Bool) → ends_at c (suc m) ≡ x → ends_at c j ≡ false
    go rest true is = absurd (
        let here : Some (suc m) ≡ Some b = (let w : last_end rested c (suc m) ≡ Some (suc m) = rw is refl in sym w ∙ e) in
        let same : suc m ≡ b = cc in
        omega (arith, same, lt, le))
    go rest false is = elim (cases_eq j (suc m)) [
      | inl same ↦ rw same is
      | inr ne ↦ rest (rw is at e) (omega (arith, le, ne))
    ]

pub last_end_none : (rested : Bool) (c : ℕ → Aspect) (m j : ℕ) → last_end rested c m ≡ None → 1 ≤ j → j ≤ m → ends_at c j ≡ false
last_end_none rested c zero j e lt le = absurd (omega (arith, lt, le))
last_end_none rested c (suc m) j e lt le = go (λ (h : last_end rested c m ≡ None) (l : j ≤ m). last_end_none rested c m j h lt l) (ends_at c (suc m)) refl
  where
    go : (last_end rested c m ≡ None → j ≤ m → ends_at c j ≡ false) → (x : Bool) → ends_at c (suc m) ≡ x → ends_at c j ≡ false
    go rest true is = absurd (
        let w : last_end rested c (suc m) ≡ Some (suc m) = rw is refl in
        let here : Some (suc m) ≡ None = sym w ∙ e in
        cc)
    go rest false is = elim (cases_eq j (suc m)) [
      | inl same ↦ rw same is
      | inr ne ↦ rest (rw is at e) (omega (arith, le, ne))
    ]

pub last_end_rests : (c : ℕ → Aspect) (m : ℕ) → last_end true c m ≡ None → ⊥
last_end_rests c zero e = cc
last_end_rests c (suc m) e = go (λ (h : last_end true c m ≡ None). last_end_rests c m h) (ends_at c (suc m)) refl
  where
    go : (last_end true c m ≡ None → ⊥) → (x : Bool) → ends_at c (suc m) ≡ x → ⊥
    go rest true is = (
        let w : last_end true c (suc m) ≡ Some (suc m) = rw is refl in
        let here : Some (suc m) ≡ None = sym w ∙ e in
        cc)
    go rest false is = rest (rw is at e)

away : (e c : Bool) → c ≡ false → (e && c) ≡ false
away true c h = h
away false c h = refl

-- of all ends the last one decides whether a green comes too soon
pub uncleared_by : (a : ℕ → Aspect) (ra t b z : ℕ) → IsLast (ends_at a) (suc t) b → is_close (Some z) ra t a ≡ nat_lt (t + ra) (b + z)
uncleared_by a ra t b z is = go (nat_lt (t + ra) (b + z)) refl
  where
    go : (c : Bool) → nat_lt (t + ra) (b + z) ≡ c → is_close (Some z) ra t a ≡ c
    go true early = ap is_some (last_below-at (λ j. ends_at a j && nat_lt (t + ra) (j + z)) (suc t) b
        (and_from (ends_at a b) (nat_lt (t + ra) (b + z)) is.here early) is.below
        (λ j lo hi. ap (λ (e : Bool). e && nat_lt (t + ra) (j + z)) (is.after j lo hi)))
    go false late = ap is_some (last_below-never (λ j. ends_at a j && nat_lt (t + ra) (j + z)) (suc t)
        (λ j hi. elim (cases_lt b j) [
          | inl after ↦ ap (λ (e : Bool). e && nat_lt (t + ra) (j + z)) (is.after j after hi)
          | inr before ↦ away (ends_at a j) (nat_lt (t + ra) (j + z))
              (le-ltb (t + ra) (j + z) (let most = ltb-false (t + ra) (b + z) late in omega (arith, most, before)))
        ]))

-- where each end is early enough none decides
pub uncleared_none : (a : ℕ → Aspect) (ra t o z : ℕ) → ((j : ℕ) → o < j → j < suc t → ends_at a j ≡ false) → o + z ≤ t + ra → is_close (Some z) ra t a ≡ false
uncleared_none a ra t o z none far = ap is_some (last_below-never (λ j. ends_at a j && nat_lt (t + ra) (j + z)) (suc t)
    (λ j hi. elim (cases_lt o j) [
      | inl after ↦ ap (λ (e : Bool). e && nat_lt (t + ra) (j + z)) (none j after hi)
      | inr before ↦ away (ends_at a j) (nat_lt (t + ra) (j + z)) (le-ltb (t + ra) (j + z) (omega (arith, far, before)))
    ]))

-- the least of the numbers below n that pass
pub least_agree : (p q : ℕ → Bool) (n : ℕ) → ((j : ℕ) → j < n → p j ≡ q j) → least_below p n ≡ least_below q n
unfolding least_below
least_agree p q zero same = refl
least_agree p q (suc n) same = rw (least_agree p q n (λ j lt. same j (omega (arith, lt))), same n (omega arith)) refl

-- no number below n passes
abbrev pub none_below : (ℕ → Bool) → ℕ → Bool
none_below p zero = true
none_below p (suc n) = none_below p n && not (p n)

none_is : (p : ℕ → Bool) (n : ℕ) → none_below p n ≡ true → (j : ℕ) → j < n → p j ≡ false
none_is p zero h j lt = absurd (omega (arith, lt))
none_is p (suc n) h j lt = (
    let parts = and_parts (none_below p n) (not (p n)) h in
    elim (cases_eq j n) [
      | inl same ↦ rw same (off (p n) parts.1)
      | inr ne ↦ none_is p n parts.0 j (omega (arith, lt, ne))
    ])
  where
    off : (b : Bool) → not b ≡ true → b ≡ false
    off true e = absurd (cc)
    off false e = refl

some_is : (p : ℕ → Bool) (n : ℕ) → ((j : ℕ) → j < n → p j ≡ false) → none_below p n ≡ true
some_is p zero h = refl
some_is p (suc n) h = and_from (none_below p n) (not (p n)) (some_is p n (λ j lt. h j (omega (arith, lt)))) (rw (h n (omega arith)) refl)

-- before the least none passes
least_before : (p : ℕ → Bool) (n j l : ℕ) → least_below p n ≡ Some j → l < j → p l ≡ false
unfolding least_below
least_before p zero j l e lt = absurd (cc)
least_before p (suc n) j l e lt = go (λ (h : least_below p n ≡ Some j). least_before p n j l h lt) (least_below p n) refl (p n) refl e
  where
    go : (least_below p n ≡ Some j → p l ≡ false) → (o : Option ℕ) → least_below p n ≡ o → (b : Bool) → p n ≡ b → or_here o b n ≡ Some j → p l ≡ false
    go rest (Some i) is b at h = rest (is ∙ h)
    go rest None is true at h = (let same : n ≡ j = cc in least_below-none p n is l (omega (arith, same, lt)))
    go rest None is false at h = absurd (cc)

-- i is the least that passes
pub at_least : (p : ℕ → Bool) (n i : ℕ) → i < n → is_at (least_below p n) i ≡ true → (none_below p i && p i) ≡ true
at_least p n i lt h = go (least_below p n) refl h
  where
    go : (o : Option ℕ) → least_below p n ≡ o → is_at o i ≡ true → (none_below p i && p i) ≡ true
    go None e h = absurd (cc)
    go (Some j) e h = (
        let same : j ≡ i = eqb-true j i h in
        let is : IsLeast p n j = least_below-some p n j e in
        rw (← same) (and_from (none_below p j) (p j) (some_is p j (λ l lo. least_before p n j l e lo)) is.here))

pub least_at : (p : ℕ → Bool) (n i : ℕ) → i < n → (none_below p i && p i) ≡ true → least_below p n ≡ Some i
least_at p n i lt h = (
    let parts = and_parts (none_below p i) (p i) h in
    least_below-at p n i parts.1 lt (none_is p i parts.0))
