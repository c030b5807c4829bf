-- A part without a breach has a past with which it is safe.
use Rattle.std.proofs.Common.{◌≡◌, ℕ, zero, suc, ◌+◌, ◌-◌, ◌<◌, ◌≤◌, max, Bool, true, false, not, ◌&&◌, ◌||◌, Option, Some, None, is_some, refl, arith, sym, inl, inr, ap, ◌∙◌, subst, [], ◌∷◌, ◌++◌, length, get_or, nat_lt, nat_le, if◌then◌else◌}
use Rattle.std.proofs.Math.ListN.{length-append}
use Rattle.std.proofs.lemmas.Bool.{cases_eq, cases_lt, cases_order, and_from, and_parts, or_cases, le-leb, lt-ltb, ltb-false}
use Rattle.std.proofs.lemmas.List.{get_or_append_left, get_or-append-add}
use Rattle.sig_types.specs.declared.aspect.Aspect.{Aspect}
use Rattle.sig_types.specs.declared.aspect.Aspect.TheVariants.{Red, RedAmber, Green, Amber}
use Rattle.sig_types.specs.FirstRefused.{first_reason}
use Rattle.sig_types.specs.Rules.{Rules, IsTwoWay}
use Rattle.sig_types.specs.Turns.{Picture, History, shown, trace, is_green, is_on, ends_at}
use Rattle.sig_types.specs.Words.{tabulate, or_here}
use Rattle.sig_guard.specs.Safety.{IsHistory}
use Rattle.sig_guard.proofs.SequenceKept.{green_is}
use Rattle.log_judge.specs.declared.breach.Breach.{Breach}
use Rattle.log_judge.specs.declared.breach.Breach.TheVariants.{Hidden}
use Rattle.log_judge.specs.declared.opening.Latest.{Latest}
use Rattle.log_judge.specs.declared.opening.Opening.{Opening}
use Rattle.log_judge.specs.Past.{since, last_end, first_over, first_green}
use Rattle.log_judge.specs.Breaches.{is_pair, are_both_on, is_red_amber, latest_green, due_green, opening_of, too_soon, breaches}
use Rattle.log_judge.specs.Laws.{AmbersApart, HasSafePast}
use Rattle.log_judge.specs.Opening.{is_amber, shown_first, ended_before, lacks, green_before, green_behind, soon_after, needed, too_soon_after, soon_before, soon_behind, is_behind}
use Rattle.log_judge.specs.Refused.{HasSize}
use Rattle.log_judge.proofs.Back.{Back, IsBack, aspect_back, back_red, Phase, phase, in_amber, in_green, in_red_amber, in_red, Move, move_of, goes_on, starts, starts_green, turns_green, ends, Joined, Keeps, keeps_before}
use Rattle.log_judge.proofs.NoneSafe.{at_rest, after_red_amber, never_both, none_safe}
use Rattle.log_judge.proofs.Openings.{IsOver, not_over, is_over, FirstRun, first_run}
use Rattle.log_judge.proofs.Parts.{none_red_amber, none_amber, none_green, none_red, none_running, none_if, pair_is, red_amber_is}
use Rattle.log_judge.proofs.PastOne.{unknown, Shows, shows_of, past_back, past_is, past_first, Taken, keeps_behind, red_amber_at_end, amber_at_end}
use Rattle.log_judge.proofs.Runs.{IsSince, since_is, last_end_is, ends_next, clash}
use Rattle.log_judge.proofs.Told.{tab_length, tab_at}
use Rattle.log_judge.proofs.Tests.{HasNone, NoneAfter, NoneLast, has_none, none_has, none_conflict, none_too_soon, too_soon_none, when_none}

-- A history of unknown past without a breach, behind a past of F seconds that is taken of each group.
pub record Whole (r : Rules) (h whole : History) (first : ℕ) (x : ℕ → Back) : Type 0 where
  pub two_way : IsTwoWay r
  pub ambers : AmbersApart r
  pub none : HasNone r unknown h
  pub some : 1 ≤ length h
  pub long : length whole ≡ first + length h
  pub taken : (g : ℕ) → g < r.count →
      Taken (r.red_amber g) (r.amber g) (r.minimum_green g) (r.minimum_red g) (x g) first (length h - 1) (trace h g) (trace whole g)
  pub far : (i g z : ℕ) → i < r.count → g < r.count → r.between i g ≡ Some z → (x g).red_amber + z ≤ first

-- what the hidden tests say
option_none : (b c : Option Breach) → first_reason (b ∷ c ∷ []) ≡ None → (b ≡ None) × (c ≡ None)
option_none None None h = (refl, refl)
option_none None (Some c) h = absurd (cc)
option_none (Some b) c h = absurd (cc)

then_none : (b : Bool) (o : Option Breach) → (if b then o else None) ≡ None → b ≡ true → o ≡ None
then_none true o h e = h
then_none false o h e = absurd (cc)

soon_none : (r : Rules) (g i t z : ℕ) (green : Option Latest) (y : Opening) (between : Option ℕ) (x : Latest) (e : ℕ) →
    too_soon_after r unknown g i t green y between ≡ None → between ≡ Some z → green ≡ Some x → ended_before (r.amber i + 0) y t ≡ Some e →
    needed r unknown g z + x.before ≤ x.second + e
soon_none r g i t z green y between x e none is is' is'' =
    let here : soon_after g i (needed r unknown g z) (Some x) (Some e) ≡ None =
    sym (ap (λ (o : Option ℕ). soon_after g i (needed r unknown g z) (Some x) o) is'')
    ∙ sym (ap (λ (o : Option Latest). soon_after g i (needed r unknown g z) o (ended_before (r.amber i + 0) y t)) is')
    ∙ sym (ap (λ (o : Option ℕ). too_soon_after r unknown g i t green y o) is) ∙ none in
    ltb-false (x.second + e) (needed r unknown g z + x.before)
    (when_none (nat_lt (x.second + e) (needed r unknown g z + x.before)) (Hidden x.second (record { 0 = g }) (record { 0 = i }) e x.before (needed r unknown g z)) here)

abbrev at_place : ℕ → ℕ → Latest
at_place second before = record { second = second; before = before }

-- the first turn to green comes no later than any
none_yet : (a : ℕ → Aspect) (m j : ℕ) → first_green a m ≡ None → j < m → (not (is_green (a j)) && is_green (a (suc j))) ≡ true → ⊥
none_yet a zero j none lt turns = omega (arith, lt)
none_yet a (suc m) j none lt turns =
    go (λ (e : first_green a m ≡ None) (lt' : j < m). none_yet a m j e lt' turns) (first_green a m) refl (not (is_green (a m)) && is_green (a (suc m))) refl none
  where
    go : (first_green a m ≡ None → j < m → ⊥) → (o : Option ℕ) → first_green a m ≡ o → (b : Bool) → (not (is_green (a m)) && is_green (a (suc m))) ≡ b →
        or_here o b (suc m) ≡ None → ⊥
    go rest (Some y) e b same h = cc
    go rest None e true same h = cc
    go rest None e false same h = elim (cases_eq j m) [
      | inl at ↦ clash (not (is_green (a m)) && is_green (a (suc m))) (subst (λ (u : ℕ). (not (is_green (a u)) && is_green (a (suc u))) ≡ true) at turns) same
      | inr ne ↦ rest e (omega (arith, lt, ne))
    ]

first_green_le : (a : ℕ → Aspect) (m w : ℕ) → first_green a m ≡ Some w → w ≤ m
first_green_le a zero w e = absurd (cc)
first_green_le a (suc m) w e =
    go (λ (h : first_green a m ≡ Some w). first_green_le a m w h) (first_green a m) refl (not (is_green (a m)) && is_green (a (suc m))) e
  where
    go : (first_green a m ≡ Some w → w ≤ m) → (o : Option ℕ) → first_green a m ≡ o → (b : Bool) → or_here o b (suc m) ≡ Some w → w ≤ suc m
    go rest (Some v) is b h = (let le = rest (is ∙ h) in omega (arith, le))
    go rest None is true h = (let same : suc m ≡ w = cc in omega (arith, same))
    go rest None is false h = absurd (cc)

first_at_most : (a : ℕ → Aspect) (m j y : ℕ) → first_green a m ≡ Some y → j < m → (not (is_green (a j)) && is_green (a (suc j))) ≡ true → y ≤ suc j
first_at_most a zero j y e lt turns = absurd (omega (arith, lt))
first_at_most a (suc m) j y e lt turns =
    go (λ (h : first_green a m ≡ Some y) (lt' : j < m). first_at_most a m j y h lt' turns) (first_green a m) refl (not (is_green (a m)) && is_green (a (suc m))) refl e
  where
    go : (first_green a m ≡ Some y → j < m → y ≤ suc j) → (o : Option ℕ) → first_green a m ≡ o → (b : Bool) →
        (not (is_green (a m)) && is_green (a (suc m))) ≡ b → or_here o b (suc m) ≡ Some y → y ≤ suc j
    go rest (Some w) is b same h = elim (cases_lt j m) [
      | inl before ↦ rest (is ∙ h) before
      | inr last ↦ (let le = first_green_le a m w is in let at : w ≡ y = cc in omega (arith, le, at, lt, last))
    ]
    go rest None is true same h = (let at : suc m ≡ y = cc in elim (cases_lt j m) [
      | inl before ↦ absurd (none_yet a m j is before turns)
      | inr last ↦ omega (arith, at, last)
    ])
    go rest None is false same h = absurd (cc)

turn_found : (a : ℕ → Aspect) (m j : ℕ) → j < m → (not (is_green (a j)) && is_green (a (suc j))) ≡ true → (y : ℕ) × ((first_green a m ≡ Some y) × (y ≤ suc j))
turn_found a m j lt turns = go (first_green a m) refl
  where
    go : (o : Option ℕ) → first_green a m ≡ o → (y : ℕ) × ((first_green a m ≡ Some y) × (y ≤ suc j))
    go None e = absurd (none_yet a m j e lt turns)
    go (Some y) e = (y, (e, first_at_most a m j y e lt turns))

-- the last end of a trace is no earlier than any that it shows
end_after : (rested : Bool) (a : ℕ → Aspect) (t w : ℕ) → ends_at a (suc w) ≡ true → suc w ≤ t → (e : ℕ) × ((last_end rested a t ≡ Some e) × (suc w ≤ e))
end_after rested a zero w at_end le = absurd (omega (arith, le))
end_after rested a (suc t) w at_end le = go (λ (lt : suc w ≤ t). end_after rested a t w at_end lt) (ends_at a (suc t)) refl
  where
    go : (suc w ≤ t → (e : ℕ) × ((last_end rested a t ≡ Some e) × (suc w ≤ e))) → (c : Bool) → ends_at a (suc t) ≡ c →
        (e : ℕ) × ((last_end rested a (suc t) ≡ Some e) × (suc w ≤ e))
    go rest true is = (suc t, (ends_next a t is rested, le))
    go rest false is = elim (cases_eq w t) [
      | inl same ↦ absurd (clash (ends_at a (suc t)) (subst (λ (u : ℕ). ends_at a (suc u) ≡ true) same at_end) is)
      | inr ne ↦ (let earlier = rest (omega (arith, le, ne)) in (earlier.0, (rw is earlier.1.0, earlier.1.1)))
    ]

-- What stands of one group, g, whose first aspect is w.
amber_short : (r : Rules) (h : History) (g : ℕ) → HasNone r unknown h → g < r.count → trace h g 0 ≡ Amber →
    shown_first (first_over (trace h g) (length h - 1)) (suc (length h - 1)) ≤ r.amber g
amber_short r h g none lt first = go (first_over (trace h g) (length h - 1)) refl
  where
    shows : Shows (r.red_amber g) (r.amber g) (r.minimum_green g) (r.minimum_red g) (trace h g) (length h - 1)
    shows = shows_of r h g none lt

    since_zero : (t : ℕ) → ((u : ℕ) → u ≤ t → trace h g u ≡ trace h g 0) → since (trace h g) t ≡ 0
    since_zero t stays =
        let run : IsSince (trace h g) t (since (trace h g) t) = since_is (trace h g) t in
        elim (cases_eq (since (trace h g) t) 0) [
          | inl zero_second ↦ zero_second
          | inr later ↦ absurd (run.began (since (trace h g) t - 1) (omega (arith, later))
              (stays (since (trace h g) t - 1) (omega (arith, run.at_most)) ∙ sym (stays t (omega arith))))
        ]

    go : (o : Option ℕ) → first_over (trace h g) (length h - 1) ≡ o → shown_first o (suc (length h - 1)) ≤ r.amber g
    go None e =
        let none_over = not_over (trace h g) (length h - 1) in
        let began = since_zero (length h - 1) (λ u le. none_over u e le) in
        let most = shows.last_amber (none_over (length h - 1) e (omega arith) ∙ first) in
        omega (arith, began, most)
    go (Some zero) e = (let is = is_over (trace h g) (length h - 1) 0 e in absurd (omega (arith, is.later)))
    go (Some (suc v)) e =
        let is : IsOver (trace h g) (length h - 1) (suc v) = is_over (trace h g) (length h - 1) (suc v) e in
        let began = since_zero v (λ u le. is.stays u (omega (arith, le))) in
        let two = shows.amber v (omega (arith, is.at_most)) (is.stays v (omega arith) ∙ first) (λ same. is.other (same ∙ sym first)) in
        let most = two.1 in
        omega (arith, began, most)

-- the end of a group that is amber first
ended_is : (r : Rules) (h : History) (i : ℕ) → HasNone r unknown h → i < r.count → trace h i 0 ≡ Amber →
    ended_before (r.amber i + 0) (opening_of r unknown (trace h i) i (length h - 1)) (suc (length h - 1))
    ≡ Some (r.amber i + 0 - shown_first (first_over (trace h i) (length h - 1)) (suc (length h - 1)))
ended_is r h i none lt first =
    let short = amber_short r h i none lt first in
    let n = shown_first (first_over (trace h i) (length h - 1)) (suc (length h - 1)) in
    let fits : nat_le n (r.amber i + 0) ≡ true = le-leb n (r.amber i + 0) (omega (arith, short)) in
    rw (first, fits) refl

amber_back : (r : Rules) (h whole : History) (first i : ℕ) (x : ℕ → Back) → Whole r h whole first x → i < r.count → trace h i 0 ≡ Amber →
    (x i).amber ≡ suc (r.amber i + 0 - shown_first (first_over (trace h i) (length h - 1)) (suc (length h - 1)))
amber_back r h whole first i x all lt amber =
    let taken = all.taken i lt in
    let here : x i ≡ past_back (r.red_amber i) (r.amber i) (r.minimum_green i) Amber (first_over (trace h i) (length h - 1)) (length h - 1) =
    taken.is ∙ ap (λ (w : Aspect). past_back (r.red_amber i) (r.amber i) (r.minimum_green i) w (first_over (trace h i) (length h - 1)) (length h - 1)) amber in
    let at = ap (λ (y : Back). y.amber) here in
    omega (arith, at)

-- a group that was amber in its past is amber first
amber_before : (r : Rules) (h whole : History) (first i : ℕ) (x : ℕ → Back) → Whole r h whole first x → i < r.count → 1 ≤ (x i).amber → trace h i 0 ≡ Amber
amber_before r h whole first i x all lt one = go (trace h i 0) refl
  where
    none_of : (w : Aspect) → trace h i 0 ≡ w →
        (past_back (r.red_amber i) (r.amber i) (r.minimum_green i) w (first_over (trace h i) (length h - 1)) (length h - 1)).amber ≡ 0 → ⊥
    none_of w e none =
        let here = (all.taken i lt).is in
        let at : (x i).amber ≡ 0 = ap (λ (y : Back). y.amber) here
        ∙ ap (λ (v : Aspect). (past_back (r.red_amber i) (r.amber i) (r.minimum_green i) v (first_over (trace h i) (length h - 1)) (length h - 1)).amber) e ∙ none in
        omega (arith, one, at)

    go : (w : Aspect) → trace h i 0 ≡ w → trace h i 0 ≡ Amber
    go Red e = absurd (none_of Red e refl)
    go RedAmber e = absurd (none_of RedAmber e refl)
    go Green e = absurd (none_of Green e refl)
    go Amber e = e

-- no two of them conflict
pub hidden_test : (r : Rules) (h : History) (g i : ℕ) → HasNone r unknown h → g < r.count → i < r.count →
    ((if is_behind r unknown g i (suc (length h - 1)) (opening_of r unknown (trace h g) g (length h - 1)) (opening_of r unknown (trace h i) i (length h - 1))
    then soon_before r unknown g i (suc (length h - 1)) (opening_of r unknown (trace h g) g (length h - 1)) (opening_of r unknown (trace h i) i (length h - 1)) else None) ≡ None)
    × (soon_behind r unknown g i (suc (length h - 1)) (opening_of r unknown (trace h g) g (length h - 1)) (opening_of r unknown (trace h i) i (length h - 1)) ≡ None)
hidden_test r h g i none lt lt' = option_none _ _ (none.last.hidden g i lt lt')

amber_first_none : (r : Rules) (h : History) (g i z : ℕ) → HasNone r unknown h → AmbersApart r → g < r.count → i < r.count → r.between i g ≡ Some z →
    trace h g 0 ≡ Amber → trace h i 0 ≡ Amber →
    soon_before r unknown g i (suc (length h - 1)) (opening_of r unknown (trace h g) g (length h - 1)) (opening_of r unknown (trace h i) i (length h - 1)) ≡ None → ⊥
amber_first_none r h g i z none ambers lt lt' between first first' none_before =
    let n = shown_first (first_over (trace h i) (length h - 1)) (suc (length h - 1)) in
    let run : FirstRun (trace h i) (length h - 1) n = first_run (trace h i) (length h - 1) in
    let short = amber_short r h i none lt' first' in
    let before = max (r.minimum_green g) 1 + lacks (r.amber g - 0) (first_over (trace h g) (length h - 1)) in
    let green : green_before (r.minimum_green g) (r.amber g - 0) (first_over (trace h g) (length h - 1)) (trace h g 0) ≡ Some (at_place 0 before) =
    ap (λ (w : Aspect). green_before (r.minimum_green g) (r.amber g - 0) (first_over (trace h g) (length h - 1)) w) first in
    let far = soon_none r g i (suc (length h - 1)) z _ (opening_of r unknown (trace h i) i (length h - 1)) (r.between i g) (at_place 0 before) (r.amber i + 0 - n)
    none_before between green (ended_is r h i none lt' first') in
    let apart = ambers i g z (record { clearing_of_site = lt'; entering_of_site = lt; listed = between }) in
    omega (arith, far, apart, run.some, short)

not_both : (r : Rules) (h : History) (g i : ℕ) → IsTwoWay r → HasNone r unknown h → AmbersApart r → g < r.count → i < r.count → (z z' : ℕ) →
    r.between i g ≡ Some z → r.between g i ≡ Some z' → trace h g 0 ≡ Amber → trace h i 0 ≡ Amber → ⊥
not_both r h g i two_way none ambers lt lt' z z' between between' first first' = elim (cases_order g i) [
  | inl same ↦ (let bad : Some z ≡ None = sym between ∙ ap (λ (k : ℕ). r.between i k) same ∙ two_way.other i lt' in cc)
  | inr other ↦ elim other [
    | inl below ↦ ordered g i z z' lt lt' below between between' first first'
    | inr above ↦ ordered i g z' z lt' lt above between' between first' first
  ]
]
  where
    some_of : (o : Option Breach) → (o ≡ None → ⊥) → is_some o ≡ true
    some_of None other = absurd (other refl)
    some_of (Some b) other = refl

    ordered : (g i z z' : ℕ) → g < r.count → i < r.count → g < i → r.between i g ≡ Some z → r.between g i ≡ Some z' → trace h g 0 ≡ Amber → trace h i 0 ≡ Amber → ⊥
    ordered g i z z' lt lt' below between between' first first' =
        let other = some_of (soon_before r unknown i g (suc (length h - 1)) (opening_of r unknown (trace h i) i (length h - 1)) (opening_of r unknown (trace h g) g (length h - 1)))
        (amber_first_none r h i g z' none ambers lt' lt between' first' first) in
        let behind : is_behind r unknown g i (suc (length h - 1)) (opening_of r unknown (trace h g) g (length h - 1)) (opening_of r unknown (trace h i) i (length h - 1)) ≡ true =
        ap (λ (b : Bool). if b then nat_lt g i && is_some (soon_before r unknown i g (suc (length h - 1)) (opening_of r unknown (trace h i) i (length h - 1)) (opening_of r unknown (trace h g) g (length h - 1))) else true)
        (ap is_amber first)
        ∙ and_from (nat_lt g i) _ (lt-ltb g i below) other in
        amber_first_none r h g i z none ambers lt lt' between first first' (then_none _ _ (hidden_test r h g i none lt lt').0 behind)

-- of a group that is not amber first, the green before second 0
before_test : (r : Rules) (h : History) (g i : ℕ) → HasNone r unknown h → g < r.count → i < r.count → is_amber (trace h g 0) ≡ false →
    soon_before r unknown g i (suc (length h - 1)) (opening_of r unknown (trace h g) g (length h - 1)) (opening_of r unknown (trace h i) i (length h - 1)) ≡ None
before_test r h g i none lt lt' other =
    then_none _ _ (hidden_test r h g i none lt lt').0
    (ap (λ (b : Bool). if b then nat_lt g i && is_some (soon_before r unknown i g (suc (length h - 1)) (opening_of r unknown (trace h i) i (length h - 1)) (opening_of r unknown (trace h g) g (length h - 1))) else true) other)

-- the green of g behind second 0 waits for the end of i before it
waits_behind : (r : Rules) (h whole : History) (first g i z : ℕ) (x : ℕ → Back) (y : ℕ) → Whole r h whole first x → g < r.count → i < r.count → r.between i g ≡ Some z →
    1 ≤ (x i).amber → green_behind (first_green (trace h g) (length h - 1)) (due_green r unknown (trace h g) g (length h - 1)) ≡ Some (at_place y 0) →
    max z (r.red_amber g) + 1 ≤ y + (x i).amber
waits_behind r h whole first g i z x y all lt lt' between one green =
    let amber = amber_before r h whole first i x all lt' one in
    let back = amber_back r h whole first i x all lt' amber in
    let far = soon_none r g i (suc (length h - 1)) z _ (opening_of r unknown (trace h i) i (length h - 1)) (r.between i g) (at_place y 0) _
    (hidden_test r h g i all.none lt lt').1 between green (ended_is r h i all.none lt' amber) in
    omega (arith, far, back)

-- what moves in the past
move_green : (ra : ℕ) (x : Back) (c : ℕ) (w w' : Aspect) → Move ra x c w w' → not (is_green w) ≡ true → is_green w' ≡ true → suc c ≡ x.green
move_green ra x c w w' (goes_on same) off on =
    let here : w ≡ Green = same ∙ green_is w' on in
    absurd (let bad : not (is_green Green) ≡ true = rw here at off in cc)
move_green ra x c w w' (starts at e e') off on = absurd (let bad : is_green RedAmber ≡ true = rw e' at on in cc)
move_green ra x c w w' (starts_green at at' time e e') off on = at'
move_green ra x c w w' (turns_green at e e') off on = at
move_green ra x c w w' (ends at e e') off on = absurd (let bad : is_green Amber ≡ true = rw e' at on in cc)

move_end : (ra : ℕ) (x : Back) (c : ℕ) (w w' : Aspect) → Move ra x c w w' → is_green w ≡ true → not (is_green w') ≡ true → suc c ≡ x.amber
move_end ra x c w w' (goes_on same) on off =
    let here : w' ≡ Green = sym same ∙ green_is w on in
    absurd (let bad : not (is_green Green) ≡ true = rw here at off in cc)
move_end ra x c w w' (starts at e e') on off = absurd (let bad : is_green Red ≡ true = rw e at on in cc)
move_end ra x c w w' (starts_green at at' time e e') on off = absurd (let bad : is_green Red ≡ true = rw e at on in cc)
move_end ra x c w w' (turns_green at e e') on off = absurd (let bad : is_green RedAmber ≡ true = rw e at on in cc)
move_end ra x c w w' (ends at e e') on off = at

moved_at : (r : Rules) (h whole : History) (first g t c : ℕ) (x : ℕ → Back) → Whole r h whole first x → g < r.count → t + suc c ≡ first →
    Move (r.red_amber g) (x g) c (trace whole g t) (trace whole g (suc t))
moved_at r h whole first g t c x all lt sum =
    let taken = all.taken g lt in
    let was : trace whole g t ≡ aspect_back (x g) (suc c) = taken.joined.before t (suc c) sum in
    let now : trace whole g (suc t) ≡ aspect_back (x g) c = taken.joined.before (suc t) c (omega (arith, sum)) in
    subst (λ (w : Aspect). Move (r.red_amber g) (x g) c w (trace whole g (suc t))) (sym was)
    (subst (λ (w : Aspect). Move (r.red_amber g) (x g) c (aspect_back (x g) (suc c)) w) (sym now)
    (move_of (r.red_amber g) (r.minimum_green g) (x g) c (aspect_back (x g) (suc c)) (aspect_back (x g) c) taken.back
    (phase (r.red_amber g) (r.minimum_green g) (x g) (suc c) taken.back) (phase (r.red_amber g) (r.minimum_green g) (x g) c taken.back)))

-- an end of the past is that before an amber
end_before : (r : Rules) (h whole : History) (first i u : ℕ) (x : ℕ → Back) → Whole r h whole first x → i < r.count → u < first →
    ends_at (trace whole i) (suc u) ≡ true → u + (x i).amber ≡ first
end_before r h whole first i u x all lt before ends_here =
    let parts = and_parts (is_green (trace whole i u)) (not (is_green (trace whole i (suc u)))) ends_here in
    let at = move_end (r.red_amber i) (x i) (first - suc u) (trace whole i u) (trace whole i (suc u))
    (moved_at r h whole first i u (first - suc u) x all lt (omega (arith, before))) parts.0 parts.1 in
    omega (arith, at, before)

-- and a turn to green that of the green before second 0
green_begins : (r : Rules) (h whole : History) (first g t : ℕ) (x : ℕ → Back) → Whole r h whole first x → g < r.count → t < first →
    (not (is_green (trace whole g t)) && is_green (trace whole g (suc t))) ≡ true → t + (x g).green ≡ first
green_begins r h whole first g t x all lt before turns =
    let parts = and_parts (not (is_green (trace whole g t))) (is_green (trace whole g (suc t))) turns in
    let at = move_green (r.red_amber g) (x g) (first - suc t) (trace whole g t) (trace whole g (suc t))
    (moved_at r h whole first g t (first - suc t) x all lt (omega (arith, before))) parts.0 parts.1 in
    omega (arith, at, before)

back_is : (r : Rules) (h whole : History) (first g : ℕ) (x : ℕ → Back) (w : Aspect) (o : Option ℕ) → Whole r h whole first x → g < r.count →
    trace h g 0 ≡ w → first_over (trace h g) (length h - 1) ≡ o →
    x g ≡ past_back (r.red_amber g) (r.amber g) (r.minimum_green g) w o (length h - 1)
back_is r h whole first g x w o all lt e e' =
    (all.taken g lt).is
    ∙ ap (λ (v : Aspect). past_back (r.red_amber g) (r.amber g) (r.minimum_green g) v (first_over (trace h g) (length h - 1)) (length h - 1)) e
    ∙ ap (λ (p : Option ℕ). past_back (r.red_amber g) (r.amber g) (r.minimum_green g) w p (length h - 1)) e'

-- The green before second 0 waits for the end of i before it.
green_first_waits : (r : Rules) (h whole : History) (first g i z : ℕ) (x : ℕ → Back) → Whole r h whole first x → g < r.count → i < r.count →
    r.between i g ≡ Some z → 1 ≤ (x i).amber → trace h g 0 ≡ Green → max z (r.red_amber g) + (x g).green ≤ (x i).amber
green_first_waits r h whole first g i z x all lt lt' between one green =
    let amber = amber_before r h whole first i x all lt' one in
    let back = amber_back r h whole first i x all lt' amber in
    let before = lacks (r.minimum_green g) (first_over (trace h g) (length h - 1)) in
    let is_green_before : green_before (r.minimum_green g) (r.amber g - 0) (first_over (trace h g) (length h - 1)) (trace h g 0) ≡ Some (at_place 0 before) =
    ap (λ (w : Aspect). green_before (r.minimum_green g) (r.amber g - 0) (first_over (trace h g) (length h - 1)) w) green in
    let far = soon_none r g i (suc (length h - 1)) z _ (opening_of r unknown (trace h i) i (length h - 1)) (r.between i g) (at_place 0 before) _
    (before_test r h g i all.none lt lt' (ap is_amber green)) between is_green_before (ended_is r h i all.none lt' amber) in
    let own = ap (λ (y : Back). y.green) (back_is r h whole first g x Green (first_over (trace h g) (length h - 1)) all lt green refl) in
    omega (arith, far, back, own)

-- a group that is on before second 0 started after the end of another one
start_after : (r : Rules) (h whole : History) (first g i z : ℕ) (x : ℕ → Back) → Whole r h whole first x → g < r.count → i < r.count →
    r.between i g ≡ Some z → 1 ≤ (x i).amber → (x g).amber ≡ 0 → (x g).red_amber ≤ (x i).amber
start_after r h whole first g i z x all lt lt' between one none_amber = by_aspect (trace h g 0) refl
  where
    by_over : trace h g 0 ≡ RedAmber → (o : Option ℕ) → first_over (trace h g) (length h - 1) ≡ o → (x g).red_amber ≤ (x i).amber
    by_over is None e =
        let own = ap (λ (y : Back). y.red_amber) (back_is r h whole first g x RedAmber None all lt is e) in
        omega (arith, own, one)
    by_over is (Some zero) e = (let over = is_over (trace h g) (length h - 1) 0 e in absurd (omega (arith, over.later)))
    by_over is (Some (suc v)) e =
        let over : IsOver (trace h g) (length h - 1) (suc v) = is_over (trace h g) (length h - 1) (suc v) e in
        let in_time : v < length h - 1 = omega (arith, over.at_most) in
        let was : trace h g v ≡ RedAmber = over.stays v (omega arith) ∙ is in
        let now : trace h g (suc v) ≡ Green = after_red_amber (trace h g (suc v)) (rw was at ((all.none.after v in_time).step g lt))
        (λ same. over.other (same ∙ sym is)) in
        let turn = turn_found (trace h g) (length h - 1) v in_time (rw (was, now) refl) in
        let far = waits_behind r h whole first g i z x turn.0 all lt lt' between one
        (ap (λ (p : Option ℕ). green_behind p (due_green r unknown (trace h g) g (length h - 1))) turn.1.0) in
        let le = turn.1.1 in
        let own = ap (λ (y : Back). y.red_amber) (back_is r h whole first g x RedAmber (Some (suc v)) all lt is e) in
        omega (arith, own, far, le, one)

    by_aspect : (w : Aspect) → trace h g 0 ≡ w → (x g).red_amber ≤ (x i).amber
    by_aspect Red is =
        let own = ap (λ (y : Back). y.red_amber) (back_is r h whole first g x Red (first_over (trace h g) (length h - 1)) all lt is refl) in
        omega (arith, own)
    by_aspect RedAmber is = by_over is (first_over (trace h g) (length h - 1)) refl
    by_aspect Green is =
        let far = green_first_waits r h whole first g i z x all lt lt' between one is in
        let taken = all.taken g lt in
        let own = ap (λ (y : Back). y.green) (back_is r h whole first g x Green (first_over (trace h g) (length h - 1)) all lt is refl) in
        let full = taken.back.full_red_amber (omega (arith, own)) in
        omega (arith, far, full)
    by_aspect Amber is = absurd (
        let own = ap (λ (y : Back). y.amber) (back_is r h whole first g x Amber (first_over (trace h g) (length h - 1)) all lt is refl) in
        omega (arith, own, none_amber))

green_first_is : (r : Rules) (h whole : History) (first g : ℕ) (x : ℕ → Back) → Whole r h whole first x → g < r.count → (x g).amber ≡ 0 → 1 ≤ (x g).green →
    trace h g 0 ≡ Green
green_first_is r h whole first g x all lt none one = by_aspect (trace h g 0) refl
  where
    by_aspect : (w : Aspect) → trace h g 0 ≡ w → trace h g 0 ≡ Green
    by_aspect Red is = absurd (
        let own = ap (λ (y : Back). y.green) (back_is r h whole first g x Red (first_over (trace h g) (length h - 1)) all lt is refl) in
        omega (arith, own, one))
    by_aspect RedAmber is = absurd (
        let own = ap (λ (y : Back). y.green) (back_is r h whole first g x RedAmber (first_over (trace h g) (length h - 1)) all lt is refl) in
        omega (arith, own, one))
    by_aspect Green is = is
    by_aspect Amber is = absurd (
        let own = ap (λ (y : Back). y.amber) (back_is r h whole first g x Amber (first_over (trace h g) (length h - 1)) all lt is refl) in
        omega (arith, own, none))

-- conflicts
on_back : (ra mg b : ℕ) (x : Back) (w : Aspect) → IsBack ra mg x → Phase x b w → is_on w ≡ true → (x.amber ≤ b) × (b < x.red_amber)
on_back ra mg b x w is (in_amber lt e) on = absurd (let bad : is_on Amber ≡ true = rw e at on in cc)
on_back ra mg b x w is (in_green ge lt e) on = (ge, (let le = is.green_le in omega (arith, lt, le)))
on_back ra mg b x w is (in_red_amber ge lt e) on = ((let le = is.amber_le in omega (arith, ge, le)), lt)
on_back ra mg b x w is (in_red ge e) on = absurd (let bad : is_on Red ≡ true = rw e at on in cc)

back_on : (b : ℕ) (x : Back) (w : Aspect) → Phase x b w → x.amber ≤ b → b < x.red_amber → is_on w ≡ true
back_on b x w (in_amber lt e) le lt' = absurd (omega (arith, lt, le))
back_on b x w (in_green ge lt e) le lt' = ap is_on e
back_on b x w (in_red_amber ge lt e) le lt' = ap is_on e
back_on b x w (in_red ge e) le lt' = absurd (omega (arith, ge, lt'))

both_listed : (r : Rules) (g i : ℕ) → IsTwoWay r → g < r.count → i < r.count → is_pair r g i ≡ true →
    (z : ℕ) × ((z' : ℕ) × ((r.between i g ≡ Some z) × (r.between g i ≡ Some z')))
both_listed r g i two_way lt lt' pair =
    elim (or_cases (is_some (r.between g i)) (is_some (r.between i g)) (and_parts (nat_lt g i) (is_some (r.between g i) || is_some (r.between i g)) pair).1) [
      | inl one ↦ (
          let there = pair_is (r.between g i) one in
          let back = pair_is (r.between i g) (two_way.both g i there.0 lt lt' there.1) in
          (back.0, (there.0, (back.1, there.1))))
      | inr other ↦ (
          let back = pair_is (r.between i g) other in
          let there = pair_is (r.between g i) (two_way.both i g back.0 lt' lt back.1) in
          (back.0, (there.0, (back.1, there.1))))
    ]

never_in : (r : Rules) (h whole : History) (first g i t : ℕ) (x : ℕ → Back) → Whole r h whole first x → g < r.count → i < r.count → is_pair r g i ≡ true →
    t ≤ first + (length h - 1) → first ≤ t → is_on (trace whole g t) ≡ true → is_on (trace whole i t) ≡ true → ⊥
never_in r h whole first g i t x all lt lt' pair le ge on on' =
    never_both r unknown h g i (length h - 1 - (t - first)) (t - first) all.none lt lt' pair (omega (arith, le, ge))
    (ap is_on (sym ((all.taken g lt).joined.behind t (t - first) (omega (arith, ge)) (omega (arith, le)))) ∙ on)
    (ap is_on (sym ((all.taken i lt').joined.behind t (t - first) (omega (arith, ge)) (omega (arith, le)))) ∙ on')

never : (r : Rules) (h whole : History) (first g i t : ℕ) (x : ℕ → Back) → Whole r h whole first x → g < r.count → i < r.count → is_pair r g i ≡ true →
    t ≤ first + (length h - 1) → is_on (trace whole g t) ≡ true → is_on (trace whole i t) ≡ true → ⊥
never r h whole first g i t x all lt lt' pair le on on' = elim (cases_lt t first) [
  | inr ge ↦ never_in r h whole first g i t x all lt lt' pair le ge on on'
  | inl before ↦ past (on_of g lt before on) (on_of i lt' before on')
]
  where
    on_of : (k : ℕ) → k < r.count → t < first → is_on (trace whole k t) ≡ true → ((x k).amber ≤ first - t) × (first - t < (x k).red_amber)
    on_of k lt before on =
        let taken = all.taken k lt in
        on_back (r.red_amber k) (r.minimum_green k) (first - t) (x k) (aspect_back (x k) (first - t)) taken.back
        (phase (r.red_amber k) (r.minimum_green k) (x k) (first - t) taken.back)
        (ap is_on (sym (taken.joined.before t (first - t) (omega (arith, before)))) ∙ on)

    on_first : (k : ℕ) → k < r.count → (x k).amber ≡ 0 → 1 ≤ (x k).red_amber → is_on (trace whole k first) ≡ true
    on_first k lt none one =
        let taken = all.taken k lt in
        ap is_on (taken.joined.before first 0 (omega arith))
        ∙ back_on 0 (x k) (aspect_back (x k) 0) (phase (r.red_amber k) (r.minimum_green k) (x k) 0 taken.back) (omega (arith, none)) (omega (arith, one))

    past : ((x g).amber ≤ first - t) × (first - t < (x g).red_amber) → ((x i).amber ≤ first - t) × (first - t < (x i).red_amber) → ⊥
    past own other =
        let listed = both_listed r g i all.two_way lt lt' pair in
        let own_le = own.0 in
        let own_lt = own.1 in
        let other_le = other.0 in
        let other_lt = other.1 in
        elim (cases_eq (x g).amber 0) [
          | inl none ↦ elim (cases_eq (x i).amber 0) [
            | inl none' ↦ never_in r h whole first g i first x all lt lt' pair (omega arith) (omega arith)
                (on_first g lt none (omega (arith, own_lt))) (on_first i lt' none' (omega (arith, other_lt)))
            | inr some' ↦ (let after = start_after r h whole first g i listed.0 x all lt lt' listed.1.1.0 (omega (arith, some')) none in
                omega (arith, after, other_le, own_lt))
          ]
          | inr some ↦ elim (cases_eq (x i).amber 0) [
            | inl none' ↦ (let after = start_after r h whole first i g listed.1.0 x all lt' lt listed.1.1.1 (omega (arith, some)) none' in
                omega (arith, after, own_le, other_lt))
            | inr some' ↦ not_both r h g i all.two_way all.none all.ambers lt lt' listed.0 listed.1.0 listed.1.1.0 listed.1.1.1
                (amber_before r h whole first g x all lt (omega (arith, some))) (amber_before r h whole first i x all lt' (omega (arith, some')))
          ]
        ]

-- intergreens
any_end : (r : Rules) (h whole : History) (first i t u : ℕ) (x : ℕ → Back) → Whole r h whole first x → i < r.count → first ≤ u → t ≤ length h - 1 →
    suc u ≤ first + t → ends_at (trace whole i) (suc u) ≡ true → (e : ℕ) × ((last_end false (trace h i) t ≡ Some e) × (suc u ≤ first + e))
any_end r h whole first i t u x all lt ge in_time le ends_here =
    let taken = all.taken i lt in
    let was : trace whole i u ≡ trace h i (u - first) = taken.joined.behind u (u - first) (omega (arith, ge)) (omega (arith, le, in_time)) in
    let now : trace whole i (suc u) ≡ trace h i (suc (u - first)) =
    taken.joined.behind (suc u) (suc (u - first)) (omega (arith, ge)) (omega (arith, le, in_time)) in
    let parts = and_parts (is_green (trace whole i u)) (not (is_green (trace whole i (suc u)))) ends_here in
    let here : ends_at (trace h i) (suc (u - first)) ≡ true =
    and_from (is_green (trace h i (u - first))) (not (is_green (trace h i (suc (u - first)))))
    (ap is_green (sym was) ∙ parts.0) (ap (λ (w : Aspect). not (is_green w)) (sym now) ∙ parts.1) in
    let found = end_after false (trace h i) t (u - first) here (omega (arith, le, ge)) in
    let late = found.1.1 in
    (found.0, (found.1.0, omega (arith, late, ge)))

cleared : (r : Rules) (h whole : History) (first g i z e t : ℕ) (x : ℕ → Back) → Whole r h whole first x → g < r.count → i < r.count →
    r.between i g ≡ Some z → t < first + (length h - 1) → (not (is_green (trace whole g t)) && is_green (trace whole g (suc t))) ≡ true →
    last_end true (trace whole i) (suc t) ≡ Some e → e + z ≤ suc t
cleared r h whole first g i z e t x all lt lt' between in_time turns last =
    let is = last_end_is true (trace whole i) (suc t) e last in
    let far = all.far i g z lt' lt between in
    elim (cases_lt t first) [
      | inl before ↦ (
          let begins = green_begins r h whole first g t x all lt before turns in
          let le = (all.taken g lt).back.green_le in
          elim is.1 [
            | inl rests ↦ omega (arith, rests.0, far, begins, le)
            | inr shown ↦ in_past shown.0 (omega (arith, is.0, shown.1.0)) shown.1.0 before begins shown.1.1
          ])
      | inr behind ↦ (elim is.1 [
        | inl rests ↦ omega (arith, rests.0, far, behind)
        | inr shown ↦ in_part shown.0 (omega (arith, is.0, shown.1.0)) shown.1.0 behind shown.1.1
      ])
    ]
  where
    in_past : (u : ℕ) → u ≤ t → e ≡ suc u → t < first → t + (x g).green ≡ first → ends_at (trace whole i) (suc u) ≡ true → e + z ≤ suc t
    in_past u le at before begins ends_here =
        let ended = end_before r h whole first i u x all lt' (omega (arith, le, before)) ends_here in
        elim (cases_eq (x g).amber 0) [
          | inl none ↦ (
              let green = green_first_is r h whole first g x all lt none (omega (arith, begins, before)) in
              let waits = green_first_waits r h whole first g i z x all lt lt' between (omega (arith, ended, le, before)) green in
              omega (arith, at, begins, ended, waits))
          | inr some ↦ absurd (
              let back = pair_is (r.between g i) (all.two_way.both i g z lt' lt between) in
              not_both r h g i all.two_way all.none all.ambers lt lt' z back.0 between back.1
              (amber_before r h whole first g x all lt (omega (arith, some))) (amber_before r h whole first i x all lt' (omega (arith, ended, le, before))))
        ]

    in_part : (u : ℕ) → u ≤ t → e ≡ suc u → first ≤ t → ends_at (trace whole i) (suc u) ≡ true → e + z ≤ suc t
    in_part u le at behind ends_here =
        let inside : t - first < length h - 1 = omega (arith, in_time, behind) in
        let was : trace whole g t ≡ trace h g (t - first) = (all.taken g lt).joined.behind t (t - first) (omega (arith, behind)) (omega (arith, inside)) in
        let now : trace whole g (suc t) ≡ trace h g (suc (t - first)) = (all.taken g lt).joined.behind (suc t) (suc (t - first)) (omega (arith, behind)) (omega (arith, inside)) in
        let parts = and_parts (not (is_green (trace whole g t))) (is_green (trace whole g (suc t))) turns in
        let turned : (not (is_green (trace h g (t - first))) && is_green (trace h g (suc (t - first)))) ≡ true =
        and_from (not (is_green (trace h g (t - first)))) (is_green (trace h g (suc (t - first))))
        (ap (λ (w : Aspect). not (is_green w)) (sym was) ∙ parts.0) (ap is_green (sym now) ∙ parts.1) in
        elim (cases_lt u first) [
          | inl before ↦ (
              let ended = end_before r h whole first i u x all lt' before ends_here in
              let turn = turn_found (trace h g) (length h - 1) (t - first) inside turned in
              let waits = waits_behind r h whole first g i z x turn.0 all lt lt' between (omega (arith, ended, before))
              (ap (λ (p : Option ℕ). green_behind p (due_green r unknown (trace h g) g (length h - 1))) turn.1.0) in
              let early = turn.1.1 in
              omega (arith, at, ended, waits, early, behind))
          | inr after ↦ (
              let found = any_end r h whole first i (suc (t - first)) u x all lt' after (omega (arith, inside)) (omega (arith, le, behind)) ends_here in
              let here : too_soon g i (suc (t - first)) (Some z) (Some found.0) ≡ None =
              sym (ap (λ (o : Option ℕ). too_soon g i (suc (t - first)) o (Some found.0)) between)
              ∙ sym (ap (λ (o : Option ℕ). too_soon g i (suc (t - first)) (r.between i g) o) found.1.0)
              ∙ sym (ap (λ (c : Bool). if c then too_soon g i (suc (t - first)) (r.between i g) (last_end false (trace h i) (suc (t - first))) else None) turned)
              ∙ (all.none.after (t - first) inside).intergreen g i lt lt' in
              let far = too_soon_none g i (suc (t - first)) z found.0 here in
              let late = found.1.1 in
              omega (arith, at, far, late, behind))
        ]

-- and a green that is still to come
will_be_cleared : (r : Rules) (h whole : History) (first g i z e : ℕ) (x : ℕ → Back) → Whole r h whole first x → g < r.count → i < r.count →
    r.between i g ≡ Some z → is_red_amber (trace whole g (first + (length h - 1))) ≡ true → last_end true (trace whole i) (first + (length h - 1)) ≡ Some e →
    e + z ≤ latest_green r at_rest (trace whole g) g (first + (length h - 1))
will_be_cleared r h whole first g i z e x all lt lt' between amber last =
    let is = last_end_is true (trace whole i) (first + (length h - 1)) e last in
    let far = all.far i g z lt' lt between in
    elim is.1 [
      | inl rests ↦ omega (arith, rests.0, far)
      | inr shown ↦ shows_end shown.0 shown.1.0 (omega (arith, is.0, shown.1.0)) shown.1.1
    ]
  where
    was : trace whole g (first + (length h - 1)) ≡ trace h g (length h - 1)
    was = (all.taken g lt).joined.behind (first + (length h - 1)) (length h - 1) refl (omega arith)

    amber_here : is_red_amber (trace h g (length h - 1)) ≡ true
    amber_here = ap is_red_amber (sym was) ∙ amber

    began : since (trace whole g) (first + (length h - 1)) ≡ first + since (trace h g) (length h - 1)
    began = red_amber_at_end (r.red_amber g) (r.amber g) (r.minimum_green g) (r.minimum_red g) (x g) first (length h - 1) (trace h g) (trace whole g)
        (shows_of r h g all.none lt) (all.taken g lt) (red_amber_is (trace h g (length h - 1)) amber_here)

    due_now : due_green r unknown (trace h g) g (length h - 1) ≡ Some (latest_green r unknown (trace h g) g (length h - 1))
    due_now = ap (λ (b : Bool). if b then Some (latest_green r unknown (trace h g) g (length h - 1)) else None) amber_here

    no_later : (y : ℕ) → first_green (trace h g) (length h - 1) ≡ Some y → y ≤ length h - 1
    no_later y e = first_green_le (trace h g) (length h - 1) y e

    shows_end : (u : ℕ) → e ≡ suc u → suc u ≤ first + (length h - 1) → ends_at (trace whole i) (suc u) ≡ true →
        e + z ≤ latest_green r at_rest (trace whole g) g (first + (length h - 1))
    shows_end u at le ends_here = elim (cases_lt u first) [
      | inl before ↦ (
          let ended = end_before r h whole first i u x all lt' before ends_here in
          by_green u at before ended (first_green (trace h g) (length h - 1)) refl)
      | inr after ↦ (
          let found = any_end r h whole first i (length h - 1) u x all lt' after (omega arith) le ends_here in
          let due = latest_green r unknown (trace h g) g (length h - 1) in
          let here : too_soon g i due (Some z) (Some found.0) ≡ None =
          sym (ap (λ (o : Option ℕ). too_soon g i due o (Some found.0)) between)
          ∙ sym (ap (λ (o : Option ℕ). too_soon g i due (r.between i g) o) found.1.0)
          ∙ sym (ap (λ (c : Bool). if c then too_soon g i due (r.between i g) (last_end false (trace h i) (length h - 1)) else None) amber_here)
          ∙ all.none.last.pending g i lt lt' in
          let far = too_soon_none g i due z found.0 here in
          let late = found.1.1 in
          omega (arith, at, far, late, began))
    ]
      where
        by_green : (u : ℕ) → e ≡ suc u → u < first → u + (x i).amber ≡ first → (o : Option ℕ) → first_green (trace h g) (length h - 1) ≡ o →
            e + z ≤ latest_green r at_rest (trace whole g) g (first + (length h - 1))
        by_green u at before ended (Some y) is =
            let waits = waits_behind r h whole first g i z x y all lt lt' between (omega (arith, ended, before))
            (ap (λ (p : Option ℕ). green_behind p (due_green r unknown (trace h g) g (length h - 1))) is) in
            let le = no_later y is in
            omega (arith, at, ended, waits, le)
        by_green u at before ended None is =
            let waits = waits_behind r h whole first g i z x (latest_green r unknown (trace h g) g (length h - 1)) all lt lt' between (omega (arith, ended, before))
            (ap (λ (p : Option ℕ). green_behind p (due_green r unknown (trace h g) g (length h - 1))) is
            ∙ ap (λ (p : Option ℕ). green_behind None p) due_now) in
            omega (arith, at, ended, waits, began)

-- no test finds a breach of the whole
kept : (r : Rules) (h whole : History) (first g t : ℕ) (x : ℕ → Back) → Whole r h whole first x → g < r.count → t < first + (length h - 1) →
    Keeps (r.red_amber g) (r.amber g) (r.minimum_green g) (r.minimum_red g) (trace whole g) t
kept r h whole first g t x all lt in_time =
    let taken = all.taken g lt in
    elim (cases_lt t first) [
      | inl before ↦ keeps_before (r.red_amber g) (r.amber g) (r.minimum_green g) (r.minimum_red g) (x g) first (length h - 1) t (first - suc t)
          (trace h g) (trace whole g) taken.back taken.joined taken.long (omega (arith, before))
      | inr behind ↦ (
          let inside : first + (t - first) ≡ t = omega (arith, behind) in
          subst (λ (u : ℕ). Keeps (r.red_amber g) (r.amber g) (r.minimum_green g) (r.minimum_red g) (trace whole g) u) inside
          (keeps_behind (r.red_amber g) (r.amber g) (r.minimum_green g) (r.minimum_red g) (x g) first (length h - 1) (t - first) (trace h g) (trace whole g)
          (shows_of r h g all.none lt) taken (omega (arith, in_time, behind))))
    ]

none_after_in : (r : Rules) (h whole : History) (first t : ℕ) (x : ℕ → Back) → Whole r h whole first x → t < first + (length h - 1) → NoneAfter r at_rest whole t
none_after_in r h whole first t x all in_time = record {
  step = λ g lt. (kept r h whole first g t x all lt in_time).step;
  red_amber = λ g lt. (let keeps = kept r h whole first g t x all lt in_time in
      none_red_amber at_rest g (r.red_amber g) (since (trace whole g) t) (suc t) (trace whole g t) (trace whole g (suc t))
      (λ is off. (let at = keeps.red_amber is off in (λ known. omega (arith, at), omega (arith, at)))) keeps.no_red_amber);
  amber = λ g lt. (let keeps = kept r h whole first g t x all lt in_time in
      none_amber at_rest g (r.amber g) (since (trace whole g) t) (suc t) (trace whole g t) (trace whole g (suc t))
      (λ is off. (let at = keeps.amber is off in (λ known. omega (arith, at), omega (arith, at)))) keeps.no_amber);
  green = λ g lt. (let keeps = kept r h whole first g t x all lt in_time in
      none_green at_rest g (r.minimum_green g) (since (trace whole g) t) (suc t) (trace whole g t) (trace whole g (suc t)) (λ is off known. keeps.green is off));
  red = λ g lt. (let keeps = kept r h whole first g t x all lt in_time in
      none_red at_rest g (r.minimum_red g) (since (trace whole g) t) (suc t) (trace whole g t) (trace whole g (suc t)) (λ is on known. keeps.red is on));
  conflict = λ g i lt lt'. none_conflict r (not (are_both_on (trace whole g) (trace whole i) (suc t))) (trace whole g) (trace whole i) g i t
      (λ pair both. (let on = and_parts (is_on (trace whole g t)) (is_on (trace whole i t)) both in
      never r h whole first g i t x all lt lt' pair (omega (arith, in_time)) on.0 on.1));
  intergreen = λ g i lt lt'. none_if (not (is_green (trace whole g t)) && is_green (trace whole g (suc t)))
      (too_soon g i (suc t) (r.between i g) (last_end true (trace whole i) (suc t)))
      (λ turn. none_too_soon g i (suc t) (r.between i g) (last_end true (trace whole i) (suc t))
      (λ z e between last. cleared r h whole first g i z e t x all lt lt' between in_time turn last));
}

none_last_in : (r : Rules) (h whole : History) (first : ℕ) (x : ℕ → Back) → Whole r h whole first x → NoneLast r at_rest whole (first + (length h - 1))
none_last_in r h whole first x all = record {
  running = λ g lt. none_running r at_rest (trace whole g) g (first + (length h - 1)) (trace whole g (first + (length h - 1)))
      (λ is. (
      let shows = shows_of r h g all.none lt in
      let here = sym ((all.taken g lt).joined.behind (first + (length h - 1)) (length h - 1) refl (omega arith)) ∙ is in
      let began = red_amber_at_end (r.red_amber g) (r.amber g) (r.minimum_green g) (r.minimum_red g) (x g) first (length h - 1) (trace h g) (trace whole g) shows (all.taken g lt) here in
      let most = shows.last_red_amber here in
      omega (arith, began, most)))
      (λ is. amber_at_end (r.red_amber g) (r.amber g) (r.minimum_green g) (r.minimum_red g) (x g) first (length h - 1) (trace h g) (trace whole g)
      (shows_of r h g all.none lt) (all.taken g lt) (sym ((all.taken g lt).joined.behind (first + (length h - 1)) (length h - 1) refl (omega arith)) ∙ is));
  conflict = λ g i lt lt'. none_conflict r true (trace whole g) (trace whole i) g i (first + (length h - 1))
      (λ pair both. (let on = and_parts (is_on (trace whole g (first + (length h - 1)))) (is_on (trace whole i (first + (length h - 1)))) both in
      never r h whole first g i (first + (length h - 1)) x all lt lt' pair (omega arith) on.0 on.1));
  pending = λ g i lt lt'. none_if (is_red_amber (trace whole g (first + (length h - 1))))
      (too_soon g i (latest_green r at_rest (trace whole g) g (first + (length h - 1))) (r.between i g) (last_end true (trace whole i) (first + (length h - 1))))
      (λ amber. none_too_soon g i (latest_green r at_rest (trace whole g) g (first + (length h - 1))) (r.between i g) (last_end true (trace whole i) (first + (length h - 1)))
      (λ z e between last. will_be_cleared r h whole first g i z e x all lt lt' between amber last));
  hidden = λ g i lt lt'. refl;
}

whole_none : (r : Rules) (h whole : History) (first : ℕ) (x : ℕ → Back) → Whole r h whole first x → breaches r at_rest whole ≡ []
whole_none r h whole first x all =
    let last : length whole - 1 ≡ first + (length h - 1) = omega (arith, all.long, all.some) in
    none_has r at_rest whole (record {
      after = λ t lt. none_after_in r h whole first t x all (omega (arith, lt, last));
      last = subst (λ (n : ℕ). NoneLast r at_rest whole n) (sym last) (none_last_in r h whole first x all);
    })

-- the past of all groups
bound : (f : ℕ → ℕ) (n : ℕ) → (b : ℕ) × ((k : ℕ) → k < n → f k ≤ b)
bound f zero = (0, λ k lt. absurd (omega (arith, lt)))
bound f (suc n) =
    let rest = bound f n in (
      max rest.0 (f n),
      λ k lt. elim (cases_eq k n) [
        | inl same ↦ (let at : f k ≡ f n = ap f same in omega (arith, at))
        | inr ne ↦ (let le = rest.1 k (omega (arith, lt, ne)) in omega (arith, le))
      ],
    )

abbrev seconds_of : Option ℕ → ℕ
seconds_of None = 0
seconds_of (Some z) = z

abbrev picture_back : ℕ → (ℕ → Back) → ℕ → Picture
picture_back n x b = tabulate (λ g. aspect_back (x g) b) n

abbrev front_of : ℕ → (ℕ → Back) → ℕ → History
front_of n x first = tabulate (λ t. picture_back n x (first - t)) first

front_shows : (n first g t : ℕ) (x : ℕ → Back) (h : History) → g < n → t < first → trace (front_of n x first ++ h) g t ≡ aspect_back (x g) (first - t)
front_shows n first g t x h lt before =
    let long = tab_length (λ t. picture_back n x (first - t)) first in
    ap (λ (p : Picture). get_or p g Red)
    (get_or_append_left (front_of n x first) h [] t (omega (arith, before, long)) ∙ tab_at (λ t. picture_back n x (first - t)) first t [] before)
    ∙ tab_at (λ g. aspect_back (x g) (first - t)) n g Red lt

part_shows : (n first g j : ℕ) (x : ℕ → Back) (h : History) → trace (front_of n x first ++ h) g (first + j) ≡ trace h g j
part_shows n first g j x h =
    let long = tab_length (λ t. picture_back n x (first - t)) first in
    let at : first + j ≡ length (front_of n x first) + j = omega (arith, long) in
    ap (λ (t : ℕ). trace (front_of n x first ++ h) g t) at
    ∙ ap (λ (p : Picture). get_or p g Red) (get_or-append-add (front_of n x first) h j [])

pub past_found : (r : Rules) (h : History) → IsTwoWay r → AmbersApart r → HasSize r.count h → breaches r unknown h ≡ [] → HasSafePast r h
past_found r h two_way ambers size clear =
    (front, (history, none_safe r (front ++ h) two_way history (whole_none r h (front ++ h) first x all)))
  where
    x : ℕ → Back
    x g = past_back (r.red_amber g) (r.amber g) (r.minimum_green g) (trace h g 0) (first_over (trace h g) (length h - 1)) (length h - 1)

    between_most : (g : ℕ) → (b : ℕ) × ((i : ℕ) → i < r.count → seconds_of (r.between i g) ≤ b)
    between_most g = bound (λ i. seconds_of (r.between i g)) r.count

    most : (b : ℕ) × ((g : ℕ) → g < r.count → (x g).red_amber + r.minimum_red g + (between_most g).0 ≤ b)
    most = bound (λ g. (x g).red_amber + r.minimum_red g + (between_most g).0) r.count

    first : ℕ
    first = suc most.0

    front : History
    front = front_of r.count x first

    front_long : length front ≡ first
    front_long = tab_length (λ t. picture_back r.count x (first - t)) first

    joined : (g : ℕ) → g < r.count → Joined (x g) first (length h - 1) (trace h g) (trace (front ++ h) g)
    joined g lt = record {
      before = λ t b sum. elim (cases_lt t first) [
        | inl before ↦ front_shows r.count first g t x h lt before ∙ ap (λ (c : ℕ). aspect_back (x g) c) (let at : first - t ≡ b = omega (arith, sum) in at)
        | inr behind ↦ (
            let at : t ≡ first + 0 = omega (arith, sum, behind) in
            let none : b ≡ 0 = omega (arith, sum, behind) in
            ap (λ (u : ℕ). trace (front ++ h) g u) at ∙ part_shows r.count first g 0 x h
            ∙ sym (past_first (r.red_amber g) (r.amber g) (r.minimum_green g) (trace h g 0) (first_over (trace h g) (length h - 1)) (length h - 1))
            ∙ ap (λ (c : ℕ). aspect_back (x g) c) (sym none))
      ];
      behind = λ t j at le. ap (λ (u : ℕ). trace (front ++ h) g u) at ∙ part_shows r.count first g j x h;
    }

    all : Whole r h (front ++ h) first x
    all = record {
      two_way = two_way;
      ambers = ambers;
      none = has_none r unknown h clear;
      some = size.0;
      long = (let long = length-append front h in omega (arith, long, front_long));
      taken = λ g lt. record {
        joined = joined g lt;
        is = refl;
        back = past_is (r.red_amber g) (r.amber g) (r.minimum_green g) (trace h g 0) (first_over (trace h g) (length h - 1)) (length h - 1);
        long = (let le = most.1 g lt in omega (arith, le));
      };
      far = λ i g z lt lt' between. (
          let le = most.1 g lt' in
          let least = (between_most g).1 i lt in
          let at : seconds_of (r.between i g) ≡ z = ap seconds_of between in
          omega (arith, le, least, at));
    }

    sizes_of : (t : ℕ) → t < length (front ++ h) → length (get_or (front ++ h) t []) ≡ r.count
    sizes_of t in_time = elim (cases_lt t first) [
      | inl before ↦ ap length (get_or_append_left front h [] t (omega (arith, before, front_long)) ∙ tab_at (λ t. picture_back r.count x (first - t)) first t [] before)
          ∙ tab_length (λ g. aspect_back (x g) (first - t)) r.count
      | inr behind ↦ (
          let at : t ≡ length front + (t - first) = omega (arith, behind, front_long) in
          let long = length-append front h in
          ap (λ (u : ℕ). length (get_or (front ++ h) u [])) at ∙ ap length (get_or-append-add front h (t - first) [])
          ∙ size.1 (t - first) (omega (arith, in_time, behind, long, front_long)))
    ]

    history : IsHistory r.count (front ++ h)
    history = record {
      begun = (let long = length-append front h in omega (arith, long, front_long));
      sizes = sizes_of;
      all_red = λ g lt. (
          let taken = all.taken g lt in
          taken.joined.before 0 first (omega arith)
          ∙ (let le = taken.long in let one = taken.back.amber_le in let two = taken.back.green_le in
          back_red (x g) first (omega (arith, le, one, two)) (omega (arith, le, two)) (omega (arith, le))));
    }
