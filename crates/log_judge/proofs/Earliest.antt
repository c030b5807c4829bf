-- What a rule refuses where no further turn is wished.
use Rattle.std.proofs.Common.{◌≡◌, ◌∙◌, ℕ, zero, suc, ◌+◌, ◌-◌, ◌<◌, ◌≤◌, Bool, true, false, not, ◌&&◌, Option, Some, is_some, nat_lt, ◌==◌, if◌then◌else◌, [], ◌∷◌, length, get_or, refl, arith, sym, ap, inl, inr}
use Rattle.std.proofs.lemmas.Bool.{cases_lt, and_from, eqb-true, eqb-false, ltb-false, lt-ltb, le-ltb}
use Rattle.std.proofs.Math.ListN.{length-append}
use Rattle.std.proofs.Math.Seq.{get_or-append_seam}
use Rattle.sig_types.specs.declared.aspect.Aspect.{Aspect}
use Rattle.sig_types.specs.declared.aspect.Aspect.TheVariants.{Red, RedAmber, Green, Amber}
use Rattle.sig_types.specs.Turns.{History, trace, is_green, is_red, starts_at, turns_green_at, turns_red_at, ends_at}
use Rattle.sig_types.specs.Words.{last_below}
use Rattle.sig_types.specs.Rules.{Rules}
use Rattle.sig_types.proofs.LastBelow.{IsLast, last_below-at, last_below-some, last_below-never}
use Rattle.sig_guard.specs.Step.{natural, shows_by_nature, natural_picture}
use Rattle.sig_guard.proofs.SecondMore.{is_close}
use Rattle.sig_guard.proofs.Agree.{AgreeBelow, starts_at-agree, turns_green_at-agree, turns_red_at-agree, ends_at-agree}
use Rattle.sig_guard.proofs.Pictures.{trace-append_old, trace-append_new, natural_below-shown}
use Rattle.sig_guard.proofs.StepKept.{natural_picture-size}
use Rattle.log_judge.specs.Refused.{still, HasSize, EarliestAfterAmber, EarliestAfterRedAmber, EarliestEnd, EarliestStart, EarliestCleared}

-- the history goes on
still-length : (r : Rules) (h : History) (k : ℕ) → length (still r h k) ≡ length h + k
still-length r h zero = omega arith
still-length r h (suc k) =
    length-append (still r h k) (natural_picture r (still r h k) ∷ []) ∙ omega (arith, still-length r h k)

still-size : (r : Rules) (h : History) (k : ℕ) → HasSize r.count h → length (get_or (still r h k) (length h + k - 1) []) ≡ r.count
still-size r h zero sized = (let at : length h + 0 - 1 ≡ length h - 1 = omega arith in rw at (sized.1 (length h - 1) (omega (arith, sized.0))))
still-size r h (suc k) sized =
    let n = still-length r h k in
    let at : length h + suc k - 1 ≡ length (still r h k) = omega (arith, n) in
    let last : length (still r h k) - 1 ≡ length h + k - 1 = omega (arith, n) in
    rw (at, get_or-append_seam (still r h k) (natural_picture r (still r h k)) [] [])
    (natural_picture-size r (still r h k) (record {
      len = omega (arith, n, sized.0);
      size = ap (λ (t : ℕ). length (get_or (still r h k) t [])) last ∙ still-size r h k sized;
    }))

still-old : (r : Rules) (h : History) (g k : ℕ) → AgreeBelow (length h) (trace h g) (trace (still r h k) g)
still-old r h g zero = record { at = λ t lt. refl }
still-old r h g (suc k) =
    let before = still-old r h g k in
    let next = trace-append_old (still r h k) (natural_picture r (still r h k)) g (length (still r h k)) refl in
    record { at = λ t lt. before.at t lt ∙ next.at t (omega (arith, lt, still-length r h k)) }

-- each second after the history shows the group as by nature
still-new : (r : Rules) (h : History) (g k : ℕ) → HasSize r.count h → g < r.count →
    trace (still r h (suc k)) g (length h + k)
    ≡ shows_by_nature r (still r h k) g
still-new r h g k sized lt =
    let n = still-length r h k in
    let last : length (still r h k) - 1 ≡ length h + k - 1 = omega (arith, n) in
    ap (λ (t : ℕ). trace (still r h (suc k)) g t) (sym n)
    ∙ trace-append_new (still r h k) (natural_picture r (still r h k)) g (length (still r h k)) refl
    ∙ natural_below-shown r (still r h k) r.count g
    (let size = ap (λ (t : ℕ). length (get_or (still r h k) t [])) last ∙ still-size r h k sized in omega (arith, size)) lt

-- what red and green do by nature
pub stays_red : (b c : Bool) (x : Aspect) → x ≡ Red → natural b c x ≡ Red
stays_red b c Red h = refl
stays_red b c RedAmber h = absurd (cc)
stays_red b c Green h = absurd (cc)
stays_red b c Amber h = absurd (cc)

stays_green : (b c : Bool) (x : Aspect) → x ≡ Green → natural b c x ≡ Green
stays_green b c Red h = absurd (cc)
stays_green b c RedAmber h = absurd (cc)
stays_green b c Green h = refl
stays_green b c Amber h = absurd (cc)

-- a red or green goes on
goes_on : (r : Rules) (h : History) (g : ℕ) (x : Aspect) → HasSize r.count h → g < r.count → trace h g (length h - 1) ≡ x →
    ((b c : Bool) (y : Aspect) → y ≡ x → natural b c y ≡ x) →
    (k j : ℕ) → length h ≤ suc j → j < length h + k → trace (still r h k) g j ≡ x
goes_on r h g x sized lt last stays zero j lo hi =
    (let at : j ≡ length h - 1 = omega (arith, lo, hi) in rw at last)
goes_on r h g x sized lt last stays (suc k) j lo hi = elim (cases_lt j (length h + k)) [
  | inl before ↦ (
      let next = trace-append_old (still r h k) (natural_picture r (still r h k)) g (length (still r h k)) refl in
      sym (next.at j (omega (arith, before, still-length r h k))) ∙ goes_on r h g x sized lt last stays k j lo before)
  | inr now ↦ (
      let at : j ≡ length h + k = omega (arith, now, hi) in
      let n = still-length r h k in
      let was : trace (still r h k) g (length (still r h k) - 1) ≡ x =
      goes_on r h g x sized lt last stays k (length (still r h k) - 1) (omega (arith, n, sized.0)) (omega (arith, n, sized.0)) in
      ap (λ (t : ℕ). trace (still r h (suc k)) g t) at ∙ still-new r h g k sized lt
      ∙ stays _ _ (trace (still r h k) g (length (still r h k) - 1)) was)
]

-- the last turn stays the last
pub last_green : (r : Rules) (h : History) (g u k : ℕ) → HasSize r.count h → g < r.count → trace h g (length h - 1) ≡ Green →
    last_below (turns_green_at (trace h g)) (length h) ≡ Some u → last_below (turns_green_at (trace (still r h k) g)) (length h + k) ≡ Some u
last_green r h g u k sized lt green last =
    let is : IsLast (turns_green_at (trace h g)) (length h) u = last_below-some (turns_green_at (trace h g)) (length h) u last in
    last_below-at (turns_green_at (trace (still r h k) g)) (length h + k) u
    (sym (turns_green_at-agree (length h) (trace h g) (trace (still r h k) g) (still-old r h g k) u is.below) ∙ is.here) (omega (arith, is.below))
    (λ j lo hi. elim (cases_lt j (length h)) [
      | inl old ↦ sym (turns_green_at-agree (length h) (trace h g) (trace (still r h k) g) (still-old r h g k) j old) ∙ is.after j lo old
      | inr new ↦ later j new hi
    ])
  where
    later : (j : ℕ) → length h ≤ j → j < length h + k → turns_green_at (trace (still r h k) g) j ≡ false
    later zero lo hi = refl
    later (suc j) lo hi = rw (goes_on r h g Green sized lt green stays_green k j lo (omega (arith, hi))) refl

pub last_red : (r : Rules) (h : History) (g u k : ℕ) → HasSize r.count h → g < r.count → trace h g (length h - 1) ≡ Red →
    last_below (turns_red_at (trace h g)) (length h) ≡ Some u → last_below (turns_red_at (trace (still r h k) g)) (length h + k) ≡ Some u
last_red r h g u k sized lt red last =
    let is : IsLast (turns_red_at (trace h g)) (length h) u = last_below-some (turns_red_at (trace h g)) (length h) u last in
    last_below-at (turns_red_at (trace (still r h k) g)) (length h + k) u
    (sym (turns_red_at-agree (length h) (trace h g) (trace (still r h k) g) (still-old r h g k) u is.below) ∙ is.here) (omega (arith, is.below))
    (λ j lo hi. elim (cases_lt j (length h)) [
      | inl old ↦ sym (turns_red_at-agree (length h) (trace h g) (trace (still r h k) g) (still-old r h g k) j old) ∙ is.after j lo old
      | inr new ↦ later j new hi
    ])
  where
    later : (j : ℕ) → length h ≤ j → j < length h + k → turns_red_at (trace (still r h k) g) j ≡ false
    later zero lo hi = absurd (omega (arith, lo, sized.0))
    later (suc j) lo hi = rw (goes_on r h g Red sized lt red stays_red k j lo (omega (arith, hi))) refl

-- the second after the last of the history that goes on
after_last : (r : Rules) (h : History) (k : ℕ) → 1 ≤ length h → suc (length (still r h k) - 1) ≡ length h + k
after_last r h k some = omega (arith, still-length r h k, some)

pub earliest_end : EarliestEnd
earliest_end r h g u k sized lt green last =
    rw (after_last r h k sized.0, last_green r h g u k sized lt green last) refl

pub earliest_start : EarliestStart
earliest_start r h g u k sized lt red last =
    rw (after_last r h k sized.0, last_red r h g u k sized lt red last) refl

-- no group ends by nature
green_before : (x y : Aspect) → (x ≡ Green → y ≡ Green) → (is_green x && not (is_green y)) ≡ false
green_before Red y h = refl
green_before RedAmber y h = refl
green_before Green y h = rw (h refl) refl
green_before Amber y h = refl

no_end : (r : Rules) (h : History) (i k j : ℕ) → HasSize r.count h → i < r.count → length h ≤ suc j → suc j < length h + k →
    ends_at (trace (still r h k) i) (suc j) ≡ false
no_end r h i zero j sized lt lo hi = absurd (omega (arith, lo, hi))
no_end r h i (suc k) j sized lt lo hi =
    let n = still-length r h k in
    let next = trace-append_old (still r h k) (natural_picture r (still r h k)) i (length (still r h k)) refl in
    elim (cases_lt (suc j) (length h + k)) [
      | inl before ↦ sym (ends_at-agree (length (still r h k)) (trace (still r h k) i) (trace (still r h (suc k)) i) next (suc j) (omega (arith, before, n)))
          ∙ no_end r h i k j sized lt lo before
      | inr now ↦ (
          let at : suc j ≡ length h + k = omega (arith, now, hi) in
          let was : j ≡ length (still r h k) - 1 = omega (arith, at, n) in
          green_before (trace (still r h (suc k)) i j) (trace (still r h (suc k)) i (suc j)) (λ green.
          ap (λ (t : ℕ). trace (still r h (suc k)) i t) at ∙ still-new r h i k sized lt
          ∙ stays_green _ _ (trace (still r h k) i (length (still r h k) - 1))
          (ap (λ (t : ℕ). trace (still r h k) i t) (sym was) ∙ next.at j (omega (arith, was, at, n)) ∙ green)))
    ]

far : (e c : Bool) → c ≡ false → (e && c) ≡ false
far true c h = h
far false c h = refl

-- of an intergreen and a red-amber
cleared : (r : Rules) (h : History) (i b z ra k : ℕ) → HasSize r.count h → i < r.count → last_below (ends_at (trace h i)) (length h) ≡ Some b →
    is_close (Some z) ra (length h + k) (trace (still r h (suc k)) i) ≡ nat_lt (length h + k + ra) (b + z)
cleared r h i b z ra k sized lt last = go (nat_lt (length h + k + ra) (b + z)) refl
  where
    is : IsLast (ends_at (trace h i)) (length h) b
    is = last_below-some (ends_at (trace h i)) (length h) b last

    old : (j : ℕ) → j < length h → ends_at (trace h i) j ≡ ends_at (trace (still r h (suc k)) i) j
    old = ends_at-agree (length h) (trace h i) (trace (still r h (suc k)) i) (still-old r h i (suc k))

    none_after : (j : ℕ) → b < j → j < suc (length h + k) → ends_at (trace (still r h (suc k)) i) j ≡ false
    none_after zero lo hi = absurd (omega (arith, lo))
    none_after (suc j) lo hi = elim (cases_lt (suc j) (length h)) [
      | inl before ↦ sym (old (suc j) before) ∙ is.after (suc j) lo before
      | inr new ↦ no_end r h i (suc k) j sized lt new (omega (arith, hi))
    ]

    go : (c : Bool) → nat_lt (length h + k + ra) (b + z) ≡ c → is_close (Some z) ra (length h + k) (trace (still r h (suc k)) i) ≡ c
    go true early = ap is_some (last_below-at (λ j. ends_at (trace (still r h (suc k)) i) j && nat_lt (length h + k + ra) (j + z)) (suc (length h + k)) b
        (and_from (ends_at (trace (still r h (suc k)) i) b) (nat_lt (length h + k + ra) (b + z)) (sym (old b is.below) ∙ is.here) early) (omega (arith, is.below))
        (λ j lo hi. ap (λ (e : Bool). e && nat_lt (length h + k + ra) (j + z)) (none_after j lo hi)))
    go false late = ap is_some (last_below-never (λ j. ends_at (trace (still r h (suc k)) i) j && nat_lt (length h + k + ra) (j + z)) (suc (length h + k))
        (λ j hi. elim (cases_lt b j) [
          | inl after ↦ ap (λ (e : Bool). e && nat_lt (length h + k + ra) (j + z)) (none_after j after hi)
          | inr before ↦ far (ends_at (trace (still r h (suc k)) i) j) (nat_lt (length h + k + ra) (j + z))
              (le-ltb (length h + k + ra) (j + z) (let most = ltb-false (length h + k + ra) (b + z) late in omega (arith, most, before)))
        ]))

pub earliest_cleared : EarliestCleared
earliest_cleared r h g i b z k sized lt between last =
    ap (λ (o : Option ℕ). is_close o (r.red_amber g) (suc (length (still r h k) - 1)) (trace (still r h (suc k)) i)) between
    ∙ ap (λ (t : ℕ). is_close (Some z) (r.red_amber g) t (trace (still r h (suc k)) i)) (after_last r h k sized.0)
    ∙ cleared r h i b z (r.red_amber g) k sized lt last

-- ---- red_amber

by_red_amber : (b c : Bool) (x : Aspect) → x ≡ RedAmber → natural b c x ≡ (if b then Green else RedAmber)
by_red_amber b c Red h = absurd (cc)
by_red_amber b c RedAmber h = refl
by_red_amber b c Green h = absurd (cc)
by_red_amber b c Amber h = absurd (cc)

-- it is over just when its time has passed
red_amber_over : (b : Bool) (a m : ℕ) → (a == m) ≡ b → m ≤ a → (if b then Green else RedAmber) ≡ (if nat_lt (m + 1) (a + 1) then RedAmber else Green)
red_amber_over true a m same le = let is : a ≡ m = eqb-true a m same in rw (le-ltb (m + 1) (a + 1) (omega (arith, is))) refl
red_amber_over false a m other le = elim (cases_lt m a) [
  | inl lt ↦ rw (lt-ltb (m + 1) (a + 1) (omega (arith, lt))) refl
  | inr ge ↦ absurd (eqb-false a m other (omega (arith, le, ge)))
]

red_amber_before : (c : Bool) → is_red (if c then RedAmber else Green) ≡ false
red_amber_before true = refl
red_amber_before false = refl

no_turn_red_amber : (a : ℕ → Aspect) (t : ℕ) → 1 ≤ t → is_red (a (t - 1)) ≡ false → starts_at a t ≡ false
no_turn_red_amber a zero some is = absurd (omega (arith, some))
no_turn_red_amber a (suc t) some is =
    let at : suc t - 1 ≡ t = omega arith in
    let here : is_red (a t) ≡ false = ap (λ (x : ℕ). is_red (a x)) (sym at) ∙ is in
    rw here refl

-- the red-amber since s of a history that goes on
record Going_red_amber (r : Rules) (h : History) (g s k : ℕ) : Type 0 where
  turn : last_below (starts_at (trace (still r h k) g)) (length h + k) ≡ Some s
  shows : trace (still r h k) g (length h + k - 1) ≡ (if nat_lt (length h + k) (s + r.red_amber g + 1) then RedAmber else Green)

going_red_amber : (r : Rules) (h : History) (g s k : ℕ) → HasSize r.count h → g < r.count → trace h g (length h - 1) ≡ RedAmber →
    last_below (starts_at (trace h g)) (length h) ≡ Some s → length h ≤ s + r.red_amber g → Going_red_amber r h g s k
going_red_amber r h g s zero sized lt shown last long =
    let at : length h + 0 ≡ length h = omega arith in
    record {
      turn = rw at last;
      shows = rw (at, lt-ltb (length h) (s + r.red_amber g + 1) (omega (arith, long))) shown;
    }
going_red_amber r h g s (suc k) sized lt shown last long =
    let before = going_red_amber r h g s k sized lt shown last long in
    let n = still-length r h k in
    let m = length h + k in
    let due = s + r.red_amber g in
    let here : suc (length (still r h k) - 1) ≡ m = after_last r h k sized.0 in
    let last_at : length (still r h k) - 1 ≡ m - 1 = omega (arith, n) in
    let next = trace-append_old (still r h k) (natural_picture r (still r h k)) g (length (still r h k)) refl in
    let is : IsLast (starts_at (trace (still r h k) g)) m s = last_below-some (starts_at (trace (still r h k) g)) m s before.turn in
    let agree : (j : ℕ) → j < m → starts_at (trace (still r h k) g) j ≡ starts_at (trace (still r h (suc k)) g) j
    = λ j below. starts_at-agree (length (still r h k)) (trace (still r h k) g) (trace (still r h (suc k)) g) next j (omega (arith, below, n)) in
    let kept : trace (still r h (suc k)) g (m - 1) ≡ (if nat_lt m (due + 1) then RedAmber else Green)
    = sym (next.at (m - 1) (omega (arith, n, sized.0))) ∙ before.shows in
    let up : length h + suc k ≡ m + 1 = omega arith in
    let now : length h + suc k - 1 ≡ m = omega arith in
    let was : trace (still r h k) g (length (still r h k) - 1) ≡ (if nat_lt m (due + 1) then RedAmber else Green)
    = ap (λ (t : ℕ). trace (still r h k) g t) last_at ∙ before.shows in
    record {
      turn = rw up (last_below-at (starts_at (trace (still r h (suc k)) g)) (m + 1) s (sym (agree s is.below) ∙ is.here) (omega (arith, is.below))
          (λ j lo hi. elim (cases_lt j m) [
            | inl old ↦ sym (agree j old) ∙ is.after j lo old
            | inr new ↦ (
                let at : j ≡ m = omega (arith, new, hi) in
                rw at (no_turn_red_amber (trace (still r h (suc k)) g) m (omega (arith, sized.0))
                (ap is_red kept ∙ red_amber_before (nat_lt m (due + 1)))))
          ]));
      shows = rw (now, up) (still-new r h g k sized lt ∙ elim (cases_lt m (due + 1)) [
        | inl early ↦ (
            let red : trace (still r h k) g (length (still r h k) - 1) ≡ RedAmber = was ∙ rw (lt-ltb m (due + 1) early) refl in
            by_red_amber _ _ (trace (still r h k) g (length (still r h k) - 1)) red
            ∙ rw (here, before.turn) (red_amber_over (due == m) due m refl (omega (arith, early))))
        | inr late ↦ (
            let done : trace (still r h k) g (length (still r h k) - 1) ≡ Green = was ∙ rw (le-ltb m (due + 1) late) refl in
            stays_green _ _ (trace (still r h k) g (length (still r h k) - 1)) done
            ∙ rw (le-ltb (m + 1) (due + 1) (omega (arith, late))) refl)
      ]);
    }

not_red_amber : (c : Bool) → not (is_green (if c then RedAmber else Green)) ≡ c
not_red_amber true = refl
not_red_amber false = refl

pub earliest_after_red_amber : EarliestAfterRedAmber
earliest_after_red_amber r h g s k sized lt shown last long =
    let going = going_red_amber r h g s k sized lt shown last long in
    let at : length (still r h k) - 1 ≡ length h + k - 1 = omega (arith, still-length r h k) in
    rw (at, going.shows) (not_red_amber (nat_lt (length h + k) (s + r.red_amber g + 1)))

-- ---- amber

by_amber : (b c : Bool) (x : Aspect) → x ≡ Amber → natural b c x ≡ (if c then Red else Amber)
by_amber b c Red h = absurd (cc)
by_amber b c RedAmber h = absurd (cc)
by_amber b c Green h = absurd (cc)
by_amber b c Amber h = refl

-- it is over just when its time has passed
amber_over : (b : Bool) (a m : ℕ) → (a == m) ≡ b → m ≤ a → (if b then Red else Amber) ≡ (if nat_lt (m + 1) (a + 1) then Amber else Red)
amber_over true a m same le = let is : a ≡ m = eqb-true a m same in rw (le-ltb (m + 1) (a + 1) (omega (arith, is))) refl
amber_over false a m other le = elim (cases_lt m a) [
  | inl lt ↦ rw (lt-ltb (m + 1) (a + 1) (omega (arith, lt))) refl
  | inr ge ↦ absurd (eqb-false a m other (omega (arith, le, ge)))
]

amber_before : (c : Bool) → is_green (if c then Amber else Red) ≡ false
amber_before true = refl
amber_before false = refl

no_turn_amber : (a : ℕ → Aspect) (t : ℕ) → 1 ≤ t → is_green (a (t - 1)) ≡ false → ends_at a t ≡ false
no_turn_amber a zero some is = absurd (omega (arith, some))
no_turn_amber a (suc t) some is =
    let at : suc t - 1 ≡ t = omega arith in
    let here : is_green (a t) ≡ false = ap (λ (x : ℕ). is_green (a x)) (sym at) ∙ is in
    rw here refl

-- the amber since s of a history that goes on
record Going_amber (r : Rules) (h : History) (g s k : ℕ) : Type 0 where
  turn : last_below (ends_at (trace (still r h k) g)) (length h + k) ≡ Some s
  shows : trace (still r h k) g (length h + k - 1) ≡ (if nat_lt (length h + k) (s + r.amber g + 1) then Amber else Red)

going_amber : (r : Rules) (h : History) (g s k : ℕ) → HasSize r.count h → g < r.count → trace h g (length h - 1) ≡ Amber →
    last_below (ends_at (trace h g)) (length h) ≡ Some s → length h ≤ s + r.amber g → Going_amber r h g s k
going_amber r h g s zero sized lt shown last long =
    let at : length h + 0 ≡ length h = omega arith in
    record {
      turn = rw at last;
      shows = rw (at, lt-ltb (length h) (s + r.amber g + 1) (omega (arith, long))) shown;
    }
going_amber r h g s (suc k) sized lt shown last long =
    let before = going_amber r h g s k sized lt shown last long in
    let n = still-length r h k in
    let m = length h + k in
    let due = s + r.amber g in
    let here : suc (length (still r h k) - 1) ≡ m = after_last r h k sized.0 in
    let last_at : length (still r h k) - 1 ≡ m - 1 = omega (arith, n) in
    let next = trace-append_old (still r h k) (natural_picture r (still r h k)) g (length (still r h k)) refl in
    let is : IsLast (ends_at (trace (still r h k) g)) m s = last_below-some (ends_at (trace (still r h k) g)) m s before.turn in
    let agree : (j : ℕ) → j < m → ends_at (trace (still r h k) g) j ≡ ends_at (trace (still r h (suc k)) g) j
    = λ j below. ends_at-agree (length (still r h k)) (trace (still r h k) g) (trace (still r h (suc k)) g) next j (omega (arith, below, n)) in
    let kept : trace (still r h (suc k)) g (m - 1) ≡ (if nat_lt m (due + 1) then Amber else Red)
    = sym (next.at (m - 1) (omega (arith, n, sized.0))) ∙ before.shows in
    let up : length h + suc k ≡ m + 1 = omega arith in
    let now : length h + suc k - 1 ≡ m = omega arith in
    let was : trace (still r h k) g (length (still r h k) - 1) ≡ (if nat_lt m (due + 1) then Amber else Red)
    = ap (λ (t : ℕ). trace (still r h k) g t) last_at ∙ before.shows in
    record {
      turn = rw up (last_below-at (ends_at (trace (still r h (suc k)) g)) (m + 1) s (sym (agree s is.below) ∙ is.here) (omega (arith, is.below))
          (λ j lo hi. elim (cases_lt j m) [
            | inl old ↦ sym (agree j old) ∙ is.after j lo old
            | inr new ↦ (
                let at : j ≡ m = omega (arith, new, hi) in
                rw at (no_turn_amber (trace (still r h (suc k)) g) m (omega (arith, sized.0))
                (ap is_green kept ∙ amber_before (nat_lt m (due + 1)))))
          ]));
      shows = rw (now, up) (still-new r h g k sized lt ∙ elim (cases_lt m (due + 1)) [
        | inl early ↦ (
            let red : trace (still r h k) g (length (still r h k) - 1) ≡ Amber = was ∙ rw (lt-ltb m (due + 1) early) refl in
            by_amber _ _ (trace (still r h k) g (length (still r h k) - 1)) red
            ∙ rw (here, before.turn) (amber_over (due == m) due m refl (omega (arith, early))))
        | inr late ↦ (
            let done : trace (still r h k) g (length (still r h k) - 1) ≡ Red = was ∙ rw (le-ltb m (due + 1) late) refl in
            stays_red _ _ (trace (still r h k) g (length (still r h k) - 1)) done
            ∙ rw (le-ltb (m + 1) (due + 1) (omega (arith, late))) refl)
      ]);
    }

not_amber : (c : Bool) → not (is_red (if c then Amber else Red)) ≡ c
not_amber true = refl
not_amber false = refl

pub earliest_after_amber : EarliestAfterAmber
earliest_after_amber r h g e k sized lt shown last long =
    let going = going_amber r h g e k sized lt shown last long in
    let at : length (still r h k) - 1 ≡ length h + k - 1 = omega (arith, still-length r h k) in
    rw (at, going.shows) (not_amber (nat_lt (length h + k) (e + r.amber g + 1)))
