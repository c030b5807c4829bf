-- A history at rest with no breach is safe.
use Rattle.std.proofs.Common.{◌≡◌, ℕ, zero, suc, ◌+◌, ◌-◌, ◌<◌, ◌≤◌, Bool, true, false, not, ◌&&◌, ◌||◌, ◌⊎◌, Option, Some, None, is_some, refl, arith, sym, inl, inr, ap, ◌∙◌, subst, [], length, nat_lt, if◌then◌else◌}
use Rattle.std.proofs.lemmas.Bool.{cases_lt, cases_order, and_from, and_parts, lt-ltb}
use Rattle.sig_types.specs.declared.aspect.Aspect.{Aspect}
use Rattle.sig_types.specs.declared.aspect.Aspect.TheVariants.{Red, RedAmber, Green, Amber}
use Rattle.sig_types.specs.Rules.{Rules, IsTwoWay}
use Rattle.sig_types.specs.Turns.{History, trace, is_red, is_green, is_on, starts_at, turns_green_at, turns_red_at, ends_at}
use Rattle.sig_guard.specs.Safety.{Sequence, MayFollow, GreenLastsAtLeast, RedLastsAtLeast, NeverTogether, IntergreenPasses, IsHistory, Safe}
use Rattle.sig_guard.specs.Safety as safety
use Rattle.sig_guard.proofs.SequenceKept.{red_is, green_is}
use Rattle.log_judge.specs.declared.find.Terms.{Terms}
use Rattle.log_judge.specs.Past.{since, last_end}
use Rattle.log_judge.specs.Breaches.{can_follow, red_amber_from, amber_from, green_from, red_from, short, long, other_time, is_pair, are_both_on, running_breach, latest_green, is_red_amber, too_soon, breaches}
use Rattle.log_judge.proofs.Runs.{since_at, since_new, last_end_after}
use Rattle.log_judge.proofs.Timed.{Timed, Entered, lasts_within, entered_shows, entered_follows}
use Rattle.log_judge.proofs.Tests.{HasNone, NoneAfter, has_none, short_none, long_none, other_time_none, conflict_none, too_soon_none, or_right, or_left}

abbrev pub at_rest : Terms
at_rest = record { rested = true; tolerance = 0 }

-- aspects
pub is_or_not : (x y : Aspect) → (y ≡ x) ⊎ (y ≡ x → ⊥)
is_or_not Red Red = inl refl
is_or_not Red RedAmber = inr (λ h. cc)
is_or_not Red Green = inr (λ h. cc)
is_or_not Red Amber = inr (λ h. cc)
is_or_not RedAmber Red = inr (λ h. cc)
is_or_not RedAmber RedAmber = inl refl
is_or_not RedAmber Green = inr (λ h. cc)
is_or_not RedAmber Amber = inr (λ h. cc)
is_or_not Green Red = inr (λ h. cc)
is_or_not Green RedAmber = inr (λ h. cc)
is_or_not Green Green = inl refl
is_or_not Green Amber = inr (λ h. cc)
is_or_not Amber Red = inr (λ h. cc)
is_or_not Amber RedAmber = inr (λ h. cc)
is_or_not Amber Green = inr (λ h. cc)
is_or_not Amber Amber = inl refl

pub from_red_amber : (y : Aspect) (s t : ℕ) → (y ≡ RedAmber → ⊥) → red_amber_from RedAmber y s t ≡ Some s
from_red_amber Red s t h = refl
from_red_amber RedAmber s t h = absurd (h refl)
from_red_amber Green s t h = refl
from_red_amber Amber s t h = refl

pub from_amber : (y : Aspect) (s t : ℕ) → (y ≡ Amber → ⊥) → amber_from Amber y s t ≡ Some s
from_amber Red s t h = refl
from_amber RedAmber s t h = refl
from_amber Green s t h = refl
from_amber Amber s t h = absurd (h refl)

pub from_green : (y : Aspect) (s : ℕ) → not (is_green y) ≡ true → green_from Green y s ≡ Some s
from_green Red s h = refl
from_green RedAmber s h = refl
from_green Green s h = absurd (cc)
from_green Amber s h = refl

pub from_red : (y : Aspect) (s : ℕ) → is_on y ≡ true → red_from Red y s ≡ Some s
from_red Red s h = absurd (cc)
from_red RedAmber s h = refl
from_red Green s h = refl
from_red Amber s h = absurd (cc)

pub after_red_amber : (y : Aspect) → can_follow RedAmber y ≡ true → (y ≡ RedAmber → ⊥) → y ≡ Green
after_red_amber Red h ne = absurd (cc)
after_red_amber RedAmber h ne = absurd (ne refl)
after_red_amber Green h ne = refl
after_red_amber Amber h ne = absurd (cc)

after_amber : (y : Aspect) → can_follow Amber y ≡ true → (y ≡ Amber → ⊥) → y ≡ Red
after_amber Red h ne = refl
after_amber RedAmber h ne = absurd (cc)
after_amber Green h ne = absurd (cc)
after_amber Amber h ne = absurd (ne refl)

-- the times of the two aspects that last exactly theirs
pub timed_red_amber : (r : Rules) (h : History) (g : ℕ) → HasNone r at_rest h → g < r.count →
    Timed RedAmber Green (r.red_amber g) (trace h g) (length h - 1)
timed_red_amber r h g none lt = record {
  decided = λ t. is_or_not RedAmber (trace h g t);
  running = λ is.
      let run : running_breach r at_rest (trace h g) g (length h - 1) RedAmber ≡ None = rw is at (none.last.running g lt) in
      let most = long_none at_rest g (suc (length h - 1)) (r.red_amber g) (since (trace h g) (length h - 1)) RedAmber run in
      omega (arith, most);
  over = λ t in_time is off.
      let from : red_amber_from (trace h g t) (trace h g (suc t)) (since (trace h g) t) (suc t) ≡ Some (since (trace h g) t) =
      rw is (from_red_amber (trace h g (suc t)) (since (trace h g) t) (suc t) off) in
      let here : other_time at_rest g RedAmber (suc t) (r.red_amber g) (Some (since (trace h g) t)) ≡ None =
      sym (ap (λ (o : Option ℕ). other_time at_rest g RedAmber (suc t) (r.red_amber g) o) from) ∙ (none.after t in_time).red_amber g lt in
      let both = other_time_none at_rest g (suc t) (r.red_amber g) (since (trace h g) t) RedAmber here in
      let least = both.0 refl in
      let most = both.1 in
      omega (arith, least, most);
  next = λ t in_time is off. after_red_amber (trace h g (suc t)) (rw is at ((none.after t in_time).step g lt)) off;
}

pub timed_amber : (r : Rules) (h : History) (g : ℕ) → HasNone r at_rest h → g < r.count →
    Timed Amber Red (r.amber g) (trace h g) (length h - 1)
timed_amber r h g none lt = record {
  decided = λ t. is_or_not Amber (trace h g t);
  running = λ is.
      let run : running_breach r at_rest (trace h g) g (length h - 1) Amber ≡ None = rw is at (none.last.running g lt) in
      let most = long_none at_rest g (suc (length h - 1)) (r.amber g) (since (trace h g) (length h - 1)) Amber run in
      omega (arith, most);
  over = λ t in_time is off.
      let from : amber_from (trace h g t) (trace h g (suc t)) (since (trace h g) t) (suc t) ≡ Some (since (trace h g) t) =
      rw is (from_amber (trace h g (suc t)) (since (trace h g) t) (suc t) off) in
      let here : other_time at_rest g Amber (suc t) (r.amber g) (Some (since (trace h g) t)) ≡ None =
      sym (ap (λ (o : Option ℕ). other_time at_rest g Amber (suc t) (r.amber g) o) from) ∙ (none.after t in_time).amber g lt in
      let both = other_time_none at_rest g (suc t) (r.amber g) (since (trace h g) t) Amber here in
      let least = both.0 refl in
      let most = both.1 in
      omega (arith, least, most);
  next = λ t in_time is off. after_amber (trace h g (suc t)) (rw is at ((none.after t in_time).step g lt)) off;
}

-- a group that goes from red to green has no red-amber, and one that goes from green to red no amber
no_red_amber : (r : Rules) (h : History) (g m : ℕ) → NoneAfter r at_rest h m → g < r.count → trace h g m ≡ Red → trace h g (suc m) ≡ Green →
    r.red_amber g ≡ 0
no_red_amber r h g m none lt was is =
    let from : red_amber_from (trace h g m) (trace h g (suc m)) (since (trace h g) m) (suc m) ≡ Some (suc m) = rw (was, is) refl in
    let here : other_time at_rest g RedAmber (suc m) (r.red_amber g) (Some (suc m)) ≡ None =
    sym (ap (λ (o : Option ℕ). other_time at_rest g RedAmber (suc m) (r.red_amber g) o) from) ∙ none.red_amber g lt in
    let least = (other_time_none at_rest g (suc m) (r.red_amber g) (suc m) RedAmber here).0 refl in
    omega (arith, least)

no_amber : (r : Rules) (h : History) (g m : ℕ) → NoneAfter r at_rest h m → g < r.count → trace h g m ≡ Green → trace h g (suc m) ≡ Red →
    r.amber g ≡ 0
no_amber r h g m none lt was is =
    let from : amber_from (trace h g m) (trace h g (suc m)) (since (trace h g) m) (suc m) ≡ Some (suc m) = rw (was, is) refl in
    let here : other_time at_rest g Amber (suc m) (r.amber g) (Some (suc m)) ≡ None =
    sym (ap (λ (o : Option ℕ). other_time at_rest g Amber (suc m) (r.amber g) o) from) ∙ none.amber g lt in
    let least = (other_time_none at_rest g (suc m) (r.amber g) (suc m) Amber here).0 refl in
    omega (arith, least)

-- starts and ends enter them
on_is : (x : Aspect) → is_on x ≡ true → (x ≡ RedAmber) ⊎ (x ≡ Green)
on_is Red h = absurd (cc)
on_is RedAmber h = inl refl
on_is Green h = inr refl
on_is Amber h = absurd (cc)

after_green : (x : Aspect) → not (is_green x) ≡ true → can_follow Green x ≡ true → (x ≡ Amber) ⊎ (x ≡ Red)
after_green Red h f = inr refl
after_green RedAmber h f = absurd (cc)
after_green Green h f = absurd (cc)
after_green Amber h f = inl refl

pub started : (r : Rules) (h : History) (g m : ℕ) → HasNone r at_rest h → g < r.count → m < length h - 1 → starts_at (trace h g) (suc m) ≡ true →
    Entered RedAmber Green (r.red_amber g) (trace h g) (suc m)
started r h g m none lt in_time starts =
    let parts = and_parts (is_red (trace h g m)) (is_on (trace h g (suc m))) starts in
    let was : trace h g m ≡ Red = red_is (trace h g m) parts.0 in
    elim (on_is (trace h g (suc m)) parts.1) [
      | inl amber ↦ inl (amber, since_new (trace h g) m (λ same. (let bad : Red ≡ RedAmber = sym was ∙ same ∙ amber in cc)))
      | inr green ↦ inr (green, no_red_amber r h g m (none.after m in_time) lt was green)
    ]

pub ended : (r : Rules) (h : History) (g m : ℕ) → HasNone r at_rest h → g < r.count → m < length h - 1 → ends_at (trace h g) (suc m) ≡ true →
    Entered Amber Red (r.amber g) (trace h g) (suc m)
ended r h g m none lt in_time ends =
    let parts = and_parts (is_green (trace h g m)) (not (is_green (trace h g (suc m)))) ends in
    let was : trace h g m ≡ Green = green_is (trace h g m) parts.0 in
    let follows : can_follow Green (trace h g (suc m)) ≡ true = rw was at ((none.after m in_time).step g lt) in
    elim (after_green (trace h g (suc m)) parts.1 follows) [
      | inl amber ↦ inl (amber, since_new (trace h g) m (λ same. (let bad : Green ≡ Amber = sym was ∙ same ∙ amber in cc)))
      | inr red ↦ inr (red, no_amber r h g m (none.after m in_time) lt was red)
    ]

-- steps
step_of : (ra am : ℕ) (x y : Aspect) → can_follow x y ≡ true → (x ≡ Red → y ≡ RedAmber → 0 < ra) → (x ≡ Red → y ≡ Green → ra ≡ 0) →
    (x ≡ Green → y ≡ Amber → 0 < am) → (x ≡ Green → y ≡ Red → am ≡ 0) → MayFollow ra am x y
step_of ra am Red Red f a b c d = safety.stays Red
step_of ra am Red RedAmber f a b c d = safety.starts (a refl refl)
step_of ra am Red Green f a b c d = safety.starts_green (b refl refl)
step_of ra am Red Amber f a b c d = absurd (cc)
step_of ra am RedAmber Red f a b c d = absurd (cc)
step_of ra am RedAmber RedAmber f a b c d = safety.stays RedAmber
step_of ra am RedAmber Green f a b c d = safety.turns_green
step_of ra am RedAmber Amber f a b c d = absurd (cc)
step_of ra am Green Red f a b c d = safety.ends_red (d refl refl)
step_of ra am Green RedAmber f a b c d = absurd (cc)
step_of ra am Green Green f a b c d = safety.stays Green
step_of ra am Green Amber f a b c d = safety.ends (c refl refl)
step_of ra am Amber Red f a b c d = safety.turns_red
step_of ra am Amber RedAmber f a b c d = absurd (cc)
step_of ra am Amber Green f a b c d = absurd (cc)
step_of ra am Amber Amber f a b c d = safety.stays Amber

-- an aspect that begins has a time
has_time : (x y : Aspect) (d : ℕ) (a : ℕ → Aspect) (n m : ℕ) → Timed x y d a n → suc m ≤ n → (a m ≡ x → ⊥) → a (suc m) ≡ x → 0 < d
has_time x y d a n m timed le was is =
    let new : since a (suc m) ≡ suc m = since_new a m (λ same. was (same ∙ is)) in
    let most = lasts_within x y d a n (suc m) timed le is in
    omega (arith, new, most)

sequence_from : (r : Rules) (h : History) (g : ℕ) → IsHistory r.count h → HasNone r at_rest h → g < r.count →
    Sequence (r.red_amber g) (r.amber g) (trace h g) (length h)
sequence_from r h g is none lt = record {
  begins_red = is.all_red g lt;
  follow = λ t in_time.
      step_of (r.red_amber g) (r.amber g) (trace h g t) (trace h g (suc t)) ((none.after t (omega (arith, in_time))).step g lt)
      (λ was now. has_time RedAmber Green (r.red_amber g) (trace h g) (length h - 1) t (timed_red_amber r h g none lt) (omega (arith, in_time))
      (λ bad. (let e : Red ≡ RedAmber = sym was ∙ bad in cc)) now)
      (λ was now. no_red_amber r h g t (none.after t (omega (arith, in_time))) lt was now)
      (λ was now. has_time Amber Red (r.amber g) (trace h g) (length h - 1) t (timed_amber r h g none lt) (omega (arith, in_time))
      (λ bad. (let e : Green ≡ Amber = sym was ∙ bad in cc)) now)
      (λ was now. no_amber r h g t (none.after t (omega (arith, in_time))) lt was now);
  red_amber_lasts = λ s t starts le in_it in_time. at_start s t starts le in_it in_time;
  then_green = λ s starts in_time. after_start s starts in_time;
  amber_lasts = λ b t one ends le in_it in_time. at_end b t one ends le in_it in_time;
  then_red = λ b one ends in_time. after_end b one ends in_time;
}
  where
    at_start : (s t : ℕ) → starts_at (trace h g) s ≡ true → s ≤ t → t < s + r.red_amber g → t < length h → trace h g t ≡ RedAmber
    at_start zero t starts le in_it in_time = absurd (cc)
    at_start (suc m) t starts le in_it in_time =
        entered_shows RedAmber Green (r.red_amber g) (trace h g) (length h - 1) (suc m) t (timed_red_amber r h g none lt)
        (started r h g m none lt (omega (arith, le, in_time)) starts) le in_it (omega (arith, in_time))

    after_start : (s : ℕ) → starts_at (trace h g) s ≡ true → s + r.red_amber g < length h → trace h g (s + r.red_amber g) ≡ Green
    after_start zero starts in_time = absurd (cc)
    after_start (suc m) starts in_time =
        entered_follows RedAmber Green (r.red_amber g) (trace h g) (length h - 1) (suc m) (timed_red_amber r h g none lt)
        (started r h g m none lt (omega (arith, in_time)) starts) (omega (arith, in_time))

    at_end : (b t : ℕ) → 1 ≤ b → ends_at (trace h g) b ≡ true → b ≤ t → t < b + r.amber g → t < length h → trace h g t ≡ Amber
    at_end zero t one ends le in_it in_time = absurd (omega (arith, one))
    at_end (suc m) t one ends le in_it in_time =
        entered_shows Amber Red (r.amber g) (trace h g) (length h - 1) (suc m) t (timed_amber r h g none lt)
        (ended r h g m none lt (omega (arith, le, in_time)) ends) le in_it (omega (arith, in_time))

    after_end : (b : ℕ) → 1 ≤ b → ends_at (trace h g) b ≡ true → b + r.amber g < length h → trace h g (b + r.amber g) ≡ Red
    after_end zero one ends in_time = absurd (omega (arith, one))
    after_end (suc m) one ends in_time =
        entered_follows Amber Red (r.amber g) (trace h g) (length h - 1) (suc m) (timed_amber r h g none lt)
        (ended r h g m none lt (omega (arith, in_time)) ends) (omega (arith, in_time))

-- least times
min_green_from : (r : Rules) (h : History) (g : ℕ) → HasNone r at_rest h → g < r.count → GreenLastsAtLeast (r.minimum_green g) (trace h g) (length h)
min_green_from r h g none lt u zero turns ends before in_time stays = absurd (omega (arith, before))
min_green_from r h g none lt u (suc m) turns ends before in_time stays =
    let parts = and_parts (is_green (trace h g m)) (not (is_green (trace h g (suc m)))) ends in
    let was : trace h g m ≡ Green = green_is (trace h g m) parts.0 in
    let since_u : since (trace h g) m ≡ u = since_at (trace h g) m u (record {
      at_most = omega (arith, before);
      stays = λ v lo hi. stays v lo (omega (arith, hi)) ∙ sym was;
      began = λ v at same. off v at turns (same ∙ was);
    }) in
    let from : green_from (trace h g m) (trace h g (suc m)) (since (trace h g) m) ≡ Some u =
    rw (was, since_u) (from_green (trace h g (suc m)) u parts.1) in
    let here : short at_rest g Green (suc m) (r.minimum_green g) (Some u) ≡ None =
    sym (ap (λ (o : Option ℕ). short at_rest g Green (suc m) (r.minimum_green g) o) from) ∙ (none.after m (omega (arith, in_time))).green g lt in
    short_none at_rest g (suc m) (r.minimum_green g) u Green here refl
  where
    off : (v : ℕ) → suc v ≡ u → turns_green_at (trace h g) u ≡ true → trace h g v ≡ Green → ⊥
    off v at turn green =
        let here : turns_green_at (trace h g) (suc v) ≡ true = subst (λ (w : ℕ). turns_green_at (trace h g) w ≡ true) (sym at) turn in
        let no_green = (and_parts (not (is_green (trace h g v))) (is_green (trace h g (suc v))) here).0 in
        let bad : not (is_green Green) ≡ true = rw green at no_green in
        cc

min_red_from : (r : Rules) (h : History) (g : ℕ) → HasNone r at_rest h → g < r.count → RedLastsAtLeast (r.minimum_red g) (trace h g) (length h)
min_red_from r h g none lt u zero turns starts before in_time stays = absurd (omega (arith, before))
min_red_from r h g none lt u (suc m) turns starts before in_time stays =
    let parts = and_parts (is_red (trace h g m)) (is_on (trace h g (suc m))) starts in
    let was : trace h g m ≡ Red = red_is (trace h g m) parts.0 in
    let since_u : since (trace h g) m ≡ u = since_at (trace h g) m u (record {
      at_most = omega (arith, before);
      stays = λ v lo hi. stays v lo (omega (arith, hi)) ∙ sym was;
      began = λ v at same. off v at turns (same ∙ was);
    }) in
    let from : red_from (trace h g m) (trace h g (suc m)) (since (trace h g) m) ≡ Some u =
    rw (was, since_u) (from_red (trace h g (suc m)) u parts.1) in
    let here : short at_rest g Red (suc m) (r.minimum_red g) (Some u) ≡ None =
    sym (ap (λ (o : Option ℕ). short at_rest g Red (suc m) (r.minimum_red g) o) from) ∙ (none.after m (omega (arith, in_time))).red g lt in
    short_none at_rest g (suc m) (r.minimum_red g) u Red here refl
  where
    off : (v : ℕ) → suc v ≡ u → turns_red_at (trace h g) u ≡ true → trace h g v ≡ Red → ⊥
    off v at turn red =
        let here : turns_red_at (trace h g) (suc v) ≡ true = subst (λ (w : ℕ). turns_red_at (trace h g) w ≡ true) (sym at) turn in
        let no_red = (and_parts (not (is_red (trace h g v))) (is_red (trace h g (suc v))) here).0 in
        let bad : not (is_red Red) ≡ true = rw red at no_red in
        cc

-- conflicts
pub never_both : (r : Rules) (terms : Terms) (h : History) (g i k t : ℕ) → HasNone r terms h → g < r.count → i < r.count → is_pair r g i ≡ true →
    t + k ≡ length h - 1 → is_on (trace h g t) ≡ true → is_on (trace h i t) ≡ true → ⊥
never_both r terms h g i zero t none lt lt' pair sum on on' =
    let at : t ≡ length h - 1 = omega (arith, sum) in
    let both : are_both_on (trace h g) (trace h i) (length h - 1) ≡ true =
    subst (λ (u : ℕ). are_both_on (trace h g) (trace h i) u ≡ true) at (and_from (is_on (trace h g t)) (is_on (trace h i t)) on on') in
    let bad : true ≡ false = conflict_none r true (trace h g) (trace h i) g i (length h - 1) (none.last.conflict g i lt lt') pair both in
    cc
never_both r terms h g i (suc k) t none lt lt' pair sum on on' =
    let both : are_both_on (trace h g) (trace h i) t ≡ true = and_from (is_on (trace h g t)) (is_on (trace h i t)) on on' in
    let over = conflict_none r (not (are_both_on (trace h g) (trace h i) (suc t))) (trace h g) (trace h i) g i t
    ((none.after t (omega (arith, sum))).conflict g i lt lt') pair both in
    let again = and_parts (is_on (trace h g (suc t))) (is_on (trace h i (suc t))) (was_not (are_both_on (trace h g) (trace h i) (suc t)) over) in
    never_both r terms h g i k (suc t) none lt lt' pair (omega (arith, sum)) again.0 again.1
  where
    was_not : (b : Bool) → not b ≡ false → b ≡ true
    was_not true e = refl
    was_not false e = absurd (cc)

apart_from : (r : Rules) (h : History) (i g z : ℕ) → IsTwoWay r → HasNone r at_rest h → i < r.count → g < r.count → r.between i g ≡ Some z →
    NeverTogether (trace h i) (trace h g) (length h)
apart_from r h i g z two_way none lt lt' between t in_time on on' = elim (cases_order i g) [
  | inl same ↦ (
      let none_here : r.between g g ≡ None = two_way.other g lt' in
      let here : r.between g g ≡ Some z = rw same at between in
      let bad : Some z ≡ None = sym here ∙ none_here in
      cc)
  | inr other ↦ elim other [
    | inl below ↦ never_both r at_rest h i g (length h - 1 - t) t none lt lt'
        (and_from (nat_lt i g) (is_some (r.between i g) || is_some (r.between g i)) (lt-ltb i g below)
        (or_left (is_some (r.between i g)) (is_some (r.between g i)) (ap is_some between)))
        (omega (arith, in_time)) on on'
    | inr above ↦ never_both r at_rest h g i (length h - 1 - t) t none lt' lt
        (and_from (nat_lt g i) (is_some (r.between g i) || is_some (r.between i g)) (lt-ltb g i above)
        (or_right (is_some (r.between g i)) (is_some (r.between i g)) (ap is_some between)))
        (omega (arith, in_time)) on' on
  ]
]

-- a green that comes leaves time since each end before it
green_waits : (r : Rules) (h : History) (i g z m b : ℕ) → HasNone r at_rest h → i < r.count → g < r.count → r.between i g ≡ Some z →
    m < length h - 1 → not (is_green (trace h g m)) ≡ true → is_green (trace h g (suc m)) ≡ true → ends_at (trace h i) b ≡ true → b ≤ suc m →
    b + z ≤ suc m
green_waits r h i g z m b none lt lt' between in_time off on ends le =
    let last = last_end_after (trace h i) (suc m) b ends le in
    let turned : (not (is_green (trace h g m)) && is_green (trace h g (suc m))) ≡ true = and_from _ _ off on in
    let here : too_soon g i (suc m) (Some z) (Some last.0) ≡ None =
    sym (ap (λ (o : Option ℕ). too_soon g i (suc m) o (Some last.0)) between)
    ∙ sym (ap (λ (o : Option ℕ). too_soon g i (suc m) (r.between i g) o) last.1.0)
    ∙ sym (ap (λ (c : Bool). if c then too_soon g i (suc m) (r.between i g) (last_end true (trace h i) (suc m)) else None) turned)
    ∙ (none.after m in_time).intergreen g i lt' lt in
    let far = too_soon_none g i (suc m) z last.0 here in
    omega (arith, far, last.1.1)

-- and so does one that is still to come
green_will_wait : (r : Rules) (h : History) (i g z b : ℕ) → HasNone r at_rest h → i < r.count → g < r.count → r.between i g ≡ Some z →
    trace h g (length h - 1) ≡ RedAmber → ends_at (trace h i) b ≡ true → b ≤ length h - 1 →
    b + z ≤ latest_green r at_rest (trace h g) g (length h - 1)
green_will_wait r h i g z b none lt lt' between is ends le =
    let last = last_end_after (trace h i) (length h - 1) b ends le in
    let amber : is_red_amber (trace h g (length h - 1)) ≡ true = rw is refl in
    let due = latest_green r at_rest (trace h g) g (length h - 1) in
    let here : too_soon g i due (Some z) (Some last.0) ≡ None =
    sym (ap (λ (o : Option ℕ). too_soon g i due o (Some last.0)) between)
    ∙ sym (ap (λ (o : Option ℕ). too_soon g i due (r.between i g) o) last.1.0)
    ∙ sym (ap (λ (c : Bool). if c then too_soon g i due (r.between i g) (last_end true (trace h i) (length h - 1)) else None) amber)
    ∙ none.last.pending g i lt' lt in
    let far = too_soon_none g i due z last.0 here in
    omega (arith, far, last.1.1)

cleared_from : (r : Rules) (h : History) (i g z : ℕ) → IsHistory r.count h → HasNone r at_rest h → i < r.count → g < r.count → r.between i g ≡ Some z →
    IntergreenPasses z (r.red_amber g) (trace h i) (trace h g) (length h)
cleared_from r h i g z is none lt lt' between b zero ends starts le in_time = absurd (cc)
cleared_from r h i g z is none lt lt' between b (suc m) ends starts le in_time = elim (cases_lt (suc m + r.red_amber g) (length h)) [
  | inl comes ↦ in_log (r.red_amber g) refl comes
  | inr later ↦ (
      let shows : trace h g (length h - 1) ≡ RedAmber = entered_shows RedAmber Green (r.red_amber g) (trace h g) (length h - 1) (suc m) (length h - 1)
      timed entered (omega (arith, in_time)) (omega (arith, later, in_time)) (omega arith) in
      let wait = green_will_wait r h i g z b none lt lt' between shows ends (omega (arith, le, in_time)) in
      let began : since (trace h g) (length h - 1) ≡ suc m = since_start (length h - 1) (omega arith) shows (omega (arith, in_time)) (omega (arith, later, in_time)) in
      omega (arith, wait, began, later))
]
  where
    timed : Timed RedAmber Green (r.red_amber g) (trace h g) (length h - 1)
    timed = timed_red_amber r h g none lt'

    entered : Entered RedAmber Green (r.red_amber g) (trace h g) (suc m)
    entered = started r h g m none lt' (omega (arith, in_time)) starts

    was_red : trace h g m ≡ Red
    was_red = red_is (trace h g m) (and_parts (is_red (trace h g m)) (is_on (trace h g (suc m))) starts).0

    in_log : (ra : ℕ) → ra ≡ r.red_amber g → suc m + r.red_amber g < length h → b + z ≤ suc m + r.red_amber g
    in_log zero long comes =
        let at : suc m + r.red_amber g ≡ suc m = omega (arith, long) in
        let green : trace h g (suc m) ≡ Green = rw at at (entered_follows RedAmber Green (r.red_amber g) (trace h g) (length h - 1) (suc m) timed entered (omega (arith, comes))) in
        let wait = green_waits r h i g z m b none lt lt' between (omega (arith, comes)) (rw was_red refl) (rw green refl) ends le in
        omega (arith, wait)
    in_log (suc ra) long comes =
        let at : suc m + r.red_amber g ≡ suc (suc m + ra) = omega (arith, long) in
        let green : trace h g (suc (suc m + ra)) ≡ Green =
        rw at at (entered_follows RedAmber Green (r.red_amber g) (trace h g) (length h - 1) (suc m) timed entered (omega (arith, comes))) in
        let amber : trace h g (suc m + ra) ≡ RedAmber =
        entered_shows RedAmber Green (r.red_amber g) (trace h g) (length h - 1) (suc m) (suc m + ra) timed entered (omega arith) (omega (arith, long)) (omega (arith, comes, long)) in
        let wait = green_waits r h i g z (suc m + ra) b none lt lt' between (omega (arith, comes, at)) (rw amber refl) (rw green refl) ends (omega (arith, le)) in
        omega (arith, wait, at)

    since_start : (n : ℕ) → n ≤ length h - 1 → trace h g n ≡ RedAmber → suc m ≤ n → n < suc m + r.red_amber g → since (trace h g) n ≡ suc m
    since_start n most shows lo hi = since_at (trace h g) n (suc m) (record {
      at_most = lo;
      stays = λ v from to. entered_shows RedAmber Green (r.red_amber g) (trace h g) (length h - 1) (suc m) v timed entered from (omega (arith, to, hi)) (omega (arith, to, most)) ∙ sym shows;
      began = λ v at same. (let e : v ≡ m = omega (arith, at) in let bad : Red ≡ RedAmber = sym was_red ∙ ap (trace h g) (sym e) ∙ same ∙ shows in cc);
    })

pub none_safe : (r : Rules) (h : History) → IsTwoWay r → IsHistory r.count h → breaches r at_rest h ≡ [] → Safe r h
none_safe r h two_way is clear =
    let none = has_none r at_rest h clear in
    record {
      sequence = λ g lt. sequence_from r h g is none lt;
      min_green = λ g lt. min_green_from r h g none lt;
      min_red = λ g lt. min_red_from r h g none lt;
      conflict = λ i g z pair. apart_from r h i g z two_way none pair.clearing_of_site pair.entering_of_site pair.listed;
      intergreen = λ i g z pair. cleared_from r h i g z is none pair.clearing_of_site pair.entering_of_site pair.listed;
    }
