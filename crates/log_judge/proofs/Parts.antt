-- What a part of a safe history shows.
use Rattle.std.proofs.Common.{◌≡◌, ℕ, zero, suc, ◌+◌, ◌-◌, ◌<◌, ◌≤◌, Bool, true, false, not, ◌&&◌, ◌||◌, ◌⊎◌, Option, Some, None, is_some, refl, arith, sym, inl, inr, ap, ◌∙◌, subst, length, nat_lt, if◌then◌else◌}
use Rattle.std.proofs.lemmas.Bool.{cases_eq, cases_lt, and_from, and_parts, or_cases, ltb-true}
use Rattle.sig_types.specs.declared.aspect.Aspect.{Aspect}
use Rattle.sig_types.specs.declared.aspect.Aspect.TheVariants.{Red, RedAmber, Green, Amber}
use Rattle.sig_types.specs.Rules.{Rules}
use Rattle.sig_types.specs.Turns.{History, trace, is_red, is_green, is_on, starts_at, turns_green_at, turns_red_at, ends_at}
use Rattle.sig_guard.specs.Safety.{Sequence, MayFollow, Conflicting, IsHistory, Safe}
use Rattle.sig_guard.specs.Safety as safety
use Rattle.sig_guard.proofs.RedAmberRun.{StartedAt, found_start, before_red_amber, green_after_intergreen}
use Rattle.sig_guard.proofs.SequenceKept.{red_is, green_is}
use Rattle.log_judge.specs.declared.breach.Breach.{Breach}
use Rattle.log_judge.specs.declared.find.Terms.{Terms}
use Rattle.log_judge.specs.Past.{since, last_end}
use Rattle.log_judge.specs.Breaches.{can_follow, red_amber_from, amber_from, green_from, red_from, short, other_time, is_known, is_pair, are_both_on, running_breach, latest_green, is_red_amber}
use Rattle.log_judge.proofs.Runs.{IsSince, since_is, last_end_is}
use Rattle.sig_guard.proofs.MovesKept.{found_end}
use Rattle.log_judge.proofs.Tests.{none_short, none_long, none_other_time}

-- A part begins in second o of the history. Where its past counts as at rest, it begins with it.
pub record IsPart (k : Terms) (part h : History) (o : ℕ) : Type 0 where
  pub shows : (g t : ℕ) → t < length part → trace part g t ≡ trace h g (o + t)
  pub fits : o + length part ≤ length h
  pub whole : k.rested ≡ true → o ≡ 0

-- aspects
pub follows : (ra am : ℕ) (x y : Aspect) → MayFollow ra am x y → can_follow x y ≡ true
follows ra am _ _ (safety.stays Red) = refl
follows ra am _ _ (safety.stays RedAmber) = refl
follows ra am _ _ (safety.stays Green) = refl
follows ra am _ _ (safety.stays Amber) = refl
follows ra am _ _ (safety.starts lasts) = refl
follows ra am _ _ (safety.starts_green none) = refl
follows ra am _ _ safety.turns_green = refl
follows ra am _ _ (safety.ends lasts) = refl
follows ra am _ _ (safety.ends_red none) = refl
follows ra am _ _ safety.turns_red = refl

pub no_time_red_amber : (ra am : ℕ) → MayFollow ra am Red Green → ra ≡ 0
no_time_red_amber ra am (safety.starts_green none) = none

pub no_time_amber : (ra am : ℕ) → MayFollow ra am Green Red → am ≡ 0
no_time_amber ra am (safety.ends_red none) = none

before_amber : (ra am : ℕ) (x : Aspect) → MayFollow ra am x Amber → (x ≡ Green) ⊎ (x ≡ Amber)
before_amber ra am _ (safety.stays Amber) = inr refl
before_amber ra am _ (safety.ends lasts) = inl refl

-- two groups of the site that are listed
pub conflicting : (r : Rules) (i g z : ℕ) → i < r.count → g < r.count → r.between i g ≡ Some z → Conflicting r i g z
conflicting r i g z lt lt' between = record { clearing_of_site = lt; entering_of_site = lt'; listed = between }

pub not_green : (x : Aspect) → (x ≡ Green → ⊥) → not (is_green x) ≡ true
not_green Red h = refl
not_green RedAmber h = refl
not_green Green h = absurd (h refl)
not_green Amber h = refl

not_red : (x : Aspect) → (x ≡ Red → ⊥) → not (is_red x) ≡ true
not_red Red h = absurd (h refl)
not_red RedAmber h = refl
not_red Green h = refl
not_red Amber h = refl

pub red_amber_is : (x : Aspect) → is_red_amber x ≡ true → x ≡ RedAmber
red_amber_is Red h = absurd (cc)
red_amber_is RedAmber h = refl
red_amber_is Green h = absurd (cc)
red_amber_is Amber h = absurd (cc)

-- tests that find none
pub none_red_amber : (k : Terms) (g ra s t : ℕ) (x y : Aspect) →
    (x ≡ RedAmber → (y ≡ RedAmber → ⊥) → (is_known k s ≡ true → s + ra ≤ t + k.tolerance) × (t ≤ s + ra + k.tolerance)) →
    (x ≡ Red → y ≡ Green → ra ≡ 0) → other_time k g RedAmber t ra (red_amber_from x y s t) ≡ None
none_red_amber k g ra s t Red Red run none = refl
none_red_amber k g ra s t Red RedAmber run none = refl
none_red_amber k g ra s t Red Green run none =
    (let z = none refl refl in none_other_time k g t ra t RedAmber (λ known. omega (arith, z)) (omega (arith, z)))
none_red_amber k g ra s t Red Amber run none = refl
none_red_amber k g ra s t RedAmber Red run none = (let both = run refl (λ e. cc) in none_other_time k g t ra s RedAmber both.0 both.1)
none_red_amber k g ra s t RedAmber RedAmber run none = refl
none_red_amber k g ra s t RedAmber Green run none = (let both = run refl (λ e. cc) in none_other_time k g t ra s RedAmber both.0 both.1)
none_red_amber k g ra s t RedAmber Amber run none = (let both = run refl (λ e. cc) in none_other_time k g t ra s RedAmber both.0 both.1)
none_red_amber k g ra s t Green y run none = refl
none_red_amber k g ra s t Amber y run none = refl

pub none_amber : (k : Terms) (g am s t : ℕ) (x y : Aspect) →
    (x ≡ Amber → (y ≡ Amber → ⊥) → (is_known k s ≡ true → s + am ≤ t + k.tolerance) × (t ≤ s + am + k.tolerance)) →
    (x ≡ Green → y ≡ Red → am ≡ 0) → other_time k g Amber t am (amber_from x y s t) ≡ None
none_amber k g am s t Red y run none = refl
none_amber k g am s t RedAmber y run none = refl
none_amber k g am s t Green Red run none =
    (let z = none refl refl in none_other_time k g t am t Amber (λ known. omega (arith, z)) (omega (arith, z)))
none_amber k g am s t Green RedAmber run none = refl
none_amber k g am s t Green Green run none = refl
none_amber k g am s t Green Amber run none = refl
none_amber k g am s t Amber Red run none = (let both = run refl (λ e. cc) in none_other_time k g t am s Amber both.0 both.1)
none_amber k g am s t Amber RedAmber run none = (let both = run refl (λ e. cc) in none_other_time k g t am s Amber both.0 both.1)
none_amber k g am s t Amber Green run none = (let both = run refl (λ e. cc) in none_other_time k g t am s Amber both.0 both.1)
none_amber k g am s t Amber Amber run none = refl

pub none_green : (k : Terms) (g least s t : ℕ) (x y : Aspect) → (x ≡ Green → (y ≡ Green → ⊥) → is_known k s ≡ true → s + least ≤ t) →
    short k g Green t least (green_from x y s) ≡ None
none_green k g least s t Red y kept = refl
none_green k g least s t RedAmber y kept = refl
none_green k g least s t Green Red kept = none_short k g t least s Green (kept refl (λ e. cc))
none_green k g least s t Green RedAmber kept = none_short k g t least s Green (kept refl (λ e. cc))
none_green k g least s t Green Green kept = refl
none_green k g least s t Green Amber kept = none_short k g t least s Green (kept refl (λ e. cc))
none_green k g least s t Amber y kept = refl

pub none_red : (k : Terms) (g least s t : ℕ) (x y : Aspect) → (x ≡ Red → is_on y ≡ true → is_known k s ≡ true → s + least ≤ t) →
    short k g Red t least (red_from x y s) ≡ None
none_red k g least s t Red Red kept = refl
none_red k g least s t Red RedAmber kept = none_short k g t least s Red (kept refl refl)
none_red k g least s t Red Green kept = none_short k g t least s Red (kept refl refl)
none_red k g least s t Red Amber kept = refl
none_red k g least s t RedAmber y kept = refl
none_red k g least s t Green y kept = refl
none_red k g least s t Amber y kept = refl

pub none_running : (r : Rules) (k : Terms) (a : ℕ → Aspect) (g m : ℕ) (x : Aspect) → (x ≡ RedAmber → suc m ≤ since a m + r.red_amber g) →
    (x ≡ Amber → suc m ≤ since a m + r.amber g) → running_breach r k a g m x ≡ None
none_running r k a g m Red red_amber amber = refl
none_running r k a g m RedAmber red_amber amber =
    (let most = red_amber refl in none_long k g (suc m) (r.red_amber g) (since a m) RedAmber (omega (arith, most)))
none_running r k a g m Green red_amber amber = refl
none_running r k a g m Amber red_amber amber =
    (let most = amber refl in none_long k g (suc m) (r.amber g) (since a m) Amber (omega (arith, most)))

pub none_if : (b : Bool) (o : Option Breach) → (b ≡ true → o ≡ None) → (if b then o else None) ≡ None
none_if true o h = h refl
none_if false o h = refl

-- what is known to have begun did so behind the part's first second, or with the history
known_is : (k : Terms) (s : ℕ) → is_known k s ≡ true → (k.rested ≡ true) ⊎ (0 < s)
known_is k s known = elim (or_cases k.rested (nat_lt 0 s) known) [
  | inl rested ↦ inl rested
  | inr later ↦ inr (ltb-true 0 s later)
]

-- one trace of a part
pub moved : (k : Terms) (part h : History) (o g t : ℕ) → IsPart k part h o → t < length part → (x : Aspect) → trace part g t ≡ x → trace h g (o + t) ≡ x
moved k part h o g t is lt x e = sym (is.shows g t lt) ∙ e

-- what the part shows since s, in a second from s to m, the history shows
pub stays_in : (k : Terms) (part h : History) (o g m j : ℕ) (x : Aspect) → IsPart k part h o → m < length part → trace part g m ≡ x →
    o + since (trace part g) m ≤ j → j ≤ o + m → trace h g j ≡ x
stays_in k part h o g m j x is lt shows lo hi =
    let run : IsSince (trace part g) m (since (trace part g) m) = since_is (trace part g) m in
    let inside : o + (j - o) ≡ j = omega (arith, lo) in
    let there : trace part g (j - o) ≡ x = run.stays (j - o) (omega (arith, lo)) (omega (arith, lo, hi)) ∙ shows in
    rw inside at (moved k part h o g (j - o) is (omega (arith, lo, hi, lt)) x there)

-- the start of a red-amber, which may lie before the part
pub record StartOf (a : ℕ → Aspect) (ra m since s : ℕ) : Type 0 where
  pub found : StartedAt a m s
  pub short : m < s + ra
  pub before : s ≤ since

pub start_of : (r : Rules) (k : Terms) (part h : History) (o g m : ℕ) → Safe r h → IsPart k part h o → g < r.count → m < length part →
    trace part g m ≡ RedAmber → (s : ℕ) × StartOf (trace h g) (r.red_amber g) (o + m) (o + since (trace part g) m) s
start_of r k part h o g m safe is lt in_time shows =
    let kept : Sequence (r.red_amber g) (r.amber g) (trace h g) (length h) = safe.sequence g lt in
    let inside : o + m < length h = omega (arith, in_time, is.fits) in
    let start = found_start (r.red_amber g) (r.amber g) (trace h g) (length h) (o + m) kept inside (moved k part h o g m is in_time RedAmber shows) in (
      start.0,
      record {
        found = start.1;
        short = elim (cases_lt (o + m) (start.0 + r.red_amber g)) [
          | inl before ↦ before
          | inr over ↦ absurd (
              let green : trace h g (start.0 + r.red_amber g) ≡ Green = kept.then_green start.0 start.1.starts (omega (arith, over, inside)) in
              let amber : trace h g (start.0 + r.red_amber g) ≡ RedAmber = start.1.stays (start.0 + r.red_amber g) (omega arith) (omega (arith, over)) in
              let bad : Green ≡ RedAmber = sym green ∙ amber in
              cc)
        ];
        before = elim (cases_lt (o + since (trace part g) m) start.0) [
          | inl later ↦ absurd (began start.0 start.1.starts later start.1.le)
          | inr before ↦ before
        ];
      },
    )
  where
    began : (s : ℕ) → starts_at (trace h g) s ≡ true → o + since (trace part g) m < s → s ≤ o + m → ⊥
    began zero starts lo hi = omega (arith, lo)
    began (suc w) starts lo hi =
        let red : trace h g w ≡ Red = red_is (trace h g w) (and_parts (is_red (trace h g w)) (is_on (trace h g (suc w))) starts).0 in
        let amber : trace h g w ≡ RedAmber = stays_in k part h o g m w RedAmber is in_time shows (omega (arith, lo)) (omega (arith, hi)) in
        let bad : Red ≡ RedAmber = sym red ∙ amber in
        cc

pub red_amber_within : (r : Rules) (k : Terms) (part h : History) (o g m : ℕ) → Safe r h → IsPart k part h o → g < r.count → m < length part →
    trace part g m ≡ RedAmber → suc m ≤ since (trace part g) m + r.red_amber g
red_amber_within r k part h o g m safe is lt in_time shows =
    let start = start_of r k part h o g m safe is lt in_time shows in
    let short = start.1.short in
    let before = start.1.before in
    omega (arith, short, before)

-- and the end before an amber
pub amber_within : (r : Rules) (k : Terms) (part h : History) (o g m : ℕ) → Safe r h → IsPart k part h o → g < r.count → m < length part →
    trace part g m ≡ Amber → suc m ≤ since (trace part g) m + r.amber g
amber_within r k part h o g m safe is lt in_time shows =
    let kept : Sequence (r.red_amber g) (r.amber g) (trace h g) (length h) = safe.sequence g lt in
    let inside : o + m < length h = omega (arith, in_time, is.fits) in
    let end = found_end (r.red_amber g) (r.amber g) (trace h g) (length h) (o + m) kept inside (moved k part h o g m is in_time Amber shows) in
    let short : o + m < end.0 + r.amber g = elim (cases_lt (o + m) (end.0 + r.amber g)) [
      | inl before ↦ before
      | inr over ↦ absurd (
          let red : trace h g (end.0 + r.amber g) ≡ Red = kept.then_red end.0 end.1.later end.1.ends (omega (arith, over, inside)) in
          let amber : trace h g (end.0 + r.amber g) ≡ Amber = end.1.stays (end.0 + r.amber g) (omega arith) (omega (arith, over)) in
          let bad : Red ≡ Amber = sym red ∙ amber in
          cc)
    ] in
    let before : end.0 ≤ o + since (trace part g) m = elim (cases_lt (o + since (trace part g) m) end.0) [
      | inl later ↦ absurd (began end.0 end.1.ends later end.1.le)
      | inr before ↦ before
    ] in
    omega (arith, short, before)
  where
    began : (b : ℕ) → ends_at (trace h g) b ≡ true → o + since (trace part g) m < b → b ≤ o + m → ⊥
    began zero ends lo hi = omega (arith, lo)
    began (suc w) ends lo hi =
        let green : trace h g w ≡ Green = green_is (trace h g w) (and_parts (is_green (trace h g w)) (not (is_green (trace h g (suc w)))) ends).0 in
        let amber : trace h g w ≡ Amber = stays_in k part h o g m w Amber is in_time shows (omega (arith, lo)) (omega (arith, hi)) in
        let bad : Green ≡ Amber = sym green ∙ amber in
        cc

-- What is known to have begun: with the history, or after a second that showed something else.
pub begun : (k : Terms) (part h : History) (o g m : ℕ) → IsPart k part h o → m < length part → is_known k (since (trace part g) m) ≡ true →
    ((o + since (trace part g) m ≡ 0))
    ⊎ ((w : ℕ) × ((suc w ≡ o + since (trace part g) m) × (trace h g w ≡ trace part g m → ⊥)))
begun k part h o g m is lt known = elim (cases_eq (since (trace part g) m) 0) [
  | inl first ↦ elim (known_is k (since (trace part g) m) known) [
    | inl rested ↦ (let z = is.whole rested in inl (omega (arith, z, first)))
    | inr later ↦ absurd (omega (arith, later, first))
  ]
  | inr later ↦ (
      let run : IsSince (trace part g) m (since (trace part g) m) = since_is (trace part g) m in
      let w = since (trace part g) m - 1 in
      let next : suc (since (trace part g) m - 1) ≡ since (trace part g) m = omega (arith, later) in
      let there : trace part g (since (trace part g) m - 1) ≡ trace h g (o + (since (trace part g) m - 1)) =
      is.shows g (since (trace part g) m - 1) (omega (arith, run.at_most, lt, later)) in
      inr (o + (since (trace part g) m - 1), (omega (arith, next), λ same. run.began (since (trace part g) m - 1) next (there ∙ same))))
]

-- a red-amber that is known to have begun, and is over, had its time
pub red_amber_full : (r : Rules) (k : Terms) (part h : History) (o g m : ℕ) → IsHistory r.count h → Safe r h → IsPart k part h o → g < r.count →
    suc m < length part → trace part g m ≡ RedAmber → (trace part g (suc m) ≡ RedAmber → ⊥) → is_known k (since (trace part g) m) ≡ true →
    since (trace part g) m + r.red_amber g ≤ suc m
red_amber_full r k part h o g m history safe is lt in_time shows over known =
    elim (cases_lt (suc m) (since (trace part g) m + r.red_amber g)) [
      | inr long ↦ long
      | inl still ↦ absurd (over (is.shows g (suc m) in_time ∙ kept.red_amber_lasts (o + since (trace part g) m) (o + suc m) starts (omega (arith, run.at_most))
          (omega (arith, still)) (omega (arith, in_time, is.fits))))
    ]
  where
    kept : Sequence (r.red_amber g) (r.amber g) (trace h g) (length h)
    kept = safe.sequence g lt

    run : IsSince (trace part g) m (since (trace part g) m)
    run = since_is (trace part g) m

    here : trace h g (o + since (trace part g) m) ≡ RedAmber
    here = stays_in k part h o g m (o + since (trace part g) m) RedAmber is (omega (arith, in_time)) shows (omega arith) (omega (arith, run.at_most))

    starts : starts_at (trace h g) (o + since (trace part g) m) ≡ true
    starts = elim (begun k part h o g m is (omega (arith, in_time)) known) [
      | inl first ↦ absurd (let bad : Red ≡ RedAmber = sym kept.begins_red ∙ rw first at here in cc)
      | inr later ↦ (
          let there : trace h g (suc later.0) ≡ RedAmber = rw (sym later.1.0) at here in
          let step : MayFollow (r.red_amber g) (r.amber g) (trace h g later.0) RedAmber =
          rw there at (kept.follow later.0 (omega (arith, later.1.0, run.at_most, in_time, is.fits))) in
          elim (before_red_amber (r.red_amber g) (r.amber g) (trace h g later.0) step) [
            | inl red ↦ subst (λ (u : ℕ). starts_at (trace h g) u ≡ true) later.1.0 (rw (red, there) refl)
            | inr amber ↦ absurd (later.1.1 (amber ∙ sym shows))
          ])
    ]

pub amber_full : (r : Rules) (k : Terms) (part h : History) (o g m : ℕ) → IsHistory r.count h → Safe r h → IsPart k part h o → g < r.count →
    suc m < length part → trace part g m ≡ Amber → (trace part g (suc m) ≡ Amber → ⊥) → is_known k (since (trace part g) m) ≡ true →
    since (trace part g) m + r.amber g ≤ suc m
amber_full r k part h o g m history safe is lt in_time shows over known =
    elim (cases_lt (suc m) (since (trace part g) m + r.amber g)) [
      | inr long ↦ long
      | inl still ↦ absurd (over (is.shows g (suc m) in_time ∙ kept.amber_lasts (o + since (trace part g) m) (o + suc m) late ends (omega (arith, run.at_most))
          (omega (arith, still)) (omega (arith, in_time, is.fits))))
    ]
  where
    kept : Sequence (r.red_amber g) (r.amber g) (trace h g) (length h)
    kept = safe.sequence g lt

    run : IsSince (trace part g) m (since (trace part g) m)
    run = since_is (trace part g) m

    here : trace h g (o + since (trace part g) m) ≡ Amber
    here = stays_in k part h o g m (o + since (trace part g) m) Amber is (omega (arith, in_time)) shows (omega arith) (omega (arith, run.at_most))

    late : 1 ≤ o + since (trace part g) m
    late = elim (cases_eq (o + since (trace part g) m) 0) [
      | inl first ↦ absurd (let bad : Red ≡ Amber = sym kept.begins_red ∙ rw first at here in cc)
      | inr later ↦ omega (arith, later)
    ]

    ends : ends_at (trace h g) (o + since (trace part g) m) ≡ true
    ends = elim (begun k part h o g m is (omega (arith, in_time)) known) [
      | inl first ↦ absurd (omega (arith, first, late))
      | inr later ↦ (
          let there : trace h g (suc later.0) ≡ Amber = rw (sym later.1.0) at here in
          let step : MayFollow (r.red_amber g) (r.amber g) (trace h g later.0) Amber =
          rw there at (kept.follow later.0 (omega (arith, later.1.0, run.at_most, in_time, is.fits))) in
          elim (before_amber (r.red_amber g) (r.amber g) (trace h g later.0) step) [
            | inl green ↦ subst (λ (u : ℕ). ends_at (trace h g) u ≡ true) later.1.0 (rw (green, there) refl)
            | inr amber ↦ absurd (later.1.1 (amber ∙ sym shows))
          ])
    ]

-- a green, and a red
pub green_full : (r : Rules) (k : Terms) (part h : History) (o g m : ℕ) → IsHistory r.count h → Safe r h → IsPart k part h o → g < r.count →
    suc m < length part → trace part g m ≡ Green → (trace part g (suc m) ≡ Green → ⊥) → is_known k (since (trace part g) m) ≡ true →
    since (trace part g) m + r.minimum_green g ≤ suc m
green_full r k part h o g m history safe is lt in_time shows over known =
    let least = safe.min_green g lt (o + since (trace part g) m) (suc (o + m)) turns ends (omega (arith, run.at_most)) (omega (arith, in_time, is.fits))
    (λ t lo hi. stays_in k part h o g m t Green is (omega (arith, in_time)) shows lo (omega (arith, hi))) in
    omega (arith, least)
  where
    run : IsSince (trace part g) m (since (trace part g) m)
    run = since_is (trace part g) m

    here : trace h g (o + since (trace part g) m) ≡ Green
    here = stays_in k part h o g m (o + since (trace part g) m) Green is (omega (arith, in_time)) shows (omega arith) (omega (arith, run.at_most))

    last : trace h g (o + m) ≡ Green
    last = moved k part h o g m is (omega (arith, in_time)) Green shows

    ends : ends_at (trace h g) (suc (o + m)) ≡ true
    ends = (
        let next : o + suc m ≡ suc (o + m) = omega arith in
        let off : trace h g (suc (o + m)) ≡ Green → ⊥ = λ e. over (is.shows g (suc m) in_time ∙ ap (trace h g) next ∙ e) in
        and_from (is_green (trace h g (o + m))) (not (is_green (trace h g (suc (o + m))))) (ap is_green last) (not_green (trace h g (suc (o + m))) off))

    turns : turns_green_at (trace h g) (o + since (trace part g) m) ≡ true
    turns = elim (begun k part h o g m is (omega (arith, in_time)) known) [
      | inl first ↦ absurd (let bad : Red ≡ Green = sym (history.all_red g lt) ∙ rw first at here in cc)
      | inr later ↦ (
          let there : trace h g (suc later.0) ≡ Green = rw (sym later.1.0) at here in
          subst (λ (u : ℕ). turns_green_at (trace h g) u ≡ true) later.1.0
          (and_from (not (is_green (trace h g later.0))) (is_green (trace h g (suc later.0)))
          (not_green (trace h g later.0) (λ e. later.1.1 (e ∙ sym shows))) (ap is_green there)))
    ]

pub red_full : (r : Rules) (k : Terms) (part h : History) (o g m : ℕ) → Safe r h → IsPart k part h o → g < r.count →
    suc m < length part → trace part g m ≡ Red → is_on (trace part g (suc m)) ≡ true → is_known k (since (trace part g) m) ≡ true →
    since (trace part g) m + r.minimum_red g ≤ suc m
red_full r k part h o g m safe is lt in_time shows on known =
    let least = safe.min_red g lt (o + since (trace part g) m) (suc (o + m)) turns starts (omega (arith, run.at_most)) (omega (arith, in_time, is.fits))
    (λ t lo hi. stays_in k part h o g m t Red is (omega (arith, in_time)) shows lo (omega (arith, hi))) in
    omega (arith, least)
  where
    run : IsSince (trace part g) m (since (trace part g) m)
    run = since_is (trace part g) m

    here : trace h g (o + since (trace part g) m) ≡ Red
    here = stays_in k part h o g m (o + since (trace part g) m) Red is (omega (arith, in_time)) shows (omega arith) (omega (arith, run.at_most))

    last : trace h g (o + m) ≡ Red
    last = moved k part h o g m is (omega (arith, in_time)) Red shows

    starts : starts_at (trace h g) (suc (o + m)) ≡ true
    starts = (
        let next : o + suc m ≡ suc (o + m) = omega arith in
        let now : trace part g (suc m) ≡ trace h g (suc (o + m)) = is.shows g (suc m) in_time ∙ ap (trace h g) next in
        and_from (is_red (trace h g (o + m))) (is_on (trace h g (suc (o + m)))) (ap is_red last) (ap is_on (sym now) ∙ on))

    turns : turns_red_at (trace h g) (o + since (trace part g) m) ≡ true
    turns = elim (begun k part h o g m is (omega (arith, in_time)) known) [
      | inl first ↦ rw first refl
      | inr later ↦ (
          let there : trace h g (suc later.0) ≡ Red = rw (sym later.1.0) at here in
          subst (λ (u : ℕ). turns_red_at (trace h g) u ≡ true) later.1.0
          (and_from (not (is_red (trace h g later.0))) (is_red (trace h g (suc later.0)))
          (not_red (trace h g later.0) (λ e. later.1.1 (e ∙ sym shows))) (ap is_red there)))
    ]

-- pairs
pub pair_is : (o : Option ℕ) → is_some o ≡ true → (z : ℕ) × (o ≡ Some z)
pair_is None h = absurd (cc)
pair_is (Some z) h = (z, refl)

pub no_conflict : (r : Rules) (k : Terms) (part h : History) (o g i m : ℕ) → Safe r h → IsPart k part h o → g < r.count → i < r.count → m < length part →
    is_pair r g i ≡ true → are_both_on (trace part g) (trace part i) m ≡ true → ⊥
no_conflict r k part h o g i m safe is lt lt' in_time pair both =
    let on = and_parts (is_on (trace part g m)) (is_on (trace part i m)) both in
    let on_g : is_on (trace h g (o + m)) ≡ true = ap is_on (sym (is.shows g m in_time)) ∙ on.0 in
    let on_i : is_on (trace h i (o + m)) ≡ true = ap is_on (sym (is.shows i m in_time)) ∙ on.1 in
    let inside : o + m < length h = omega (arith, in_time, is.fits) in
    elim (or_cases (is_some (r.between g i)) (is_some (r.between i g))
    (and_parts (nat_lt g i) (is_some (r.between g i) || is_some (r.between i g)) pair).1) [
      | inl one ↦ (let z = pair_is (r.between g i) one in safe.conflict g i z.0 (conflicting r g i z.0 lt lt' z.1) (o + m) inside on_g on_i)
      | inr other ↦ (let z = pair_is (r.between i g) other in safe.conflict i g z.0 (conflicting r i g z.0 lt' lt z.1) (o + m) inside on_i on_g)
    ]

-- an end of the part is one of the history
pub end_in : (k : Terms) (part h : History) (o i t e : ℕ) → IsPart k part h o → t < length part → last_end k.rested (trace part i) t ≡ Some e →
    (e ≤ t) × (ends_at (trace h i) (o + e) ≡ true)
end_in k part h o i t e is lt last =
    let end = last_end_is k.rested (trace part i) t e last in (
      end.0,
      elim end.1 [
        | inl first ↦ (let z = is.whole first.1 in let zero_second : o + e ≡ 0 = omega (arith, z, first.0) in rw zero_second refl)
        | inr shown ↦ (
            let parts = and_parts (is_green (trace part i shown.0)) (not (is_green (trace part i (suc shown.0)))) shown.1.1 in
            let was : trace part i shown.0 ≡ trace h i (o + shown.0) = is.shows i shown.0 (omega (arith, lt, end.0, shown.1.0)) in
            let next : o + suc shown.0 ≡ suc (o + shown.0) = omega arith in
            let now : trace part i (suc shown.0) ≡ trace h i (suc (o + shown.0)) =
            is.shows i (suc shown.0) (omega (arith, lt, end.0, shown.1.0)) ∙ ap (trace h i) next in
            let there : o + e ≡ suc (o + shown.0) = omega (arith, shown.1.0) in
            rw there (and_from (is_green (trace h i (o + shown.0))) (not (is_green (trace h i (suc (o + shown.0)))))
            (ap is_green (sym was) ∙ parts.0) (ap (λ (x : Aspect). not (is_green x)) (sym now) ∙ parts.1)))
      ],
    )

pub waits : (r : Rules) (k : Terms) (part h : History) (o g i z e m : ℕ) → Safe r h → IsPart k part h o → g < r.count → i < r.count → suc m < length part →
    (not (is_green (trace part g m)) && is_green (trace part g (suc m))) ≡ true → r.between i g ≡ Some z →
    last_end k.rested (trace part i) (suc m) ≡ Some e → e + z ≤ suc m
waits r k part h o g i z e m safe is lt lt' in_time turn between last =
    let end = end_in k part h o i (suc m) e is in_time last in
    let parts = and_parts (not (is_green (trace part g m))) (is_green (trace part g (suc m))) turn in
    let next : o + suc m ≡ suc (o + m) = omega arith in
    let was : trace part g m ≡ trace h g (o + m) = is.shows g m (omega (arith, in_time)) in
    let now : trace part g (suc m) ≡ trace h g (suc (o + m)) = is.shows g (suc m) in_time ∙ ap (trace h g) next in
    let turns : turns_green_at (trace h g) (suc (o + m)) ≡ true =
    and_from (not (is_green (trace h g (o + m)))) (is_green (trace h g (suc (o + m))))
    (ap (λ (x : Aspect). not (is_green x)) (sym was) ∙ parts.0) (ap is_green (sym now) ∙ parts.1) in
    let far = green_after_intergreen r h safe i g z (o + e) (suc (o + m)) (conflicting r i g z lt' lt between) turns (omega (arith, in_time, is.fits)) end.1 (omega (arith, end.0)) in
    omega (arith, far)

-- a green that is still to come
pub will_wait : (r : Rules) (k : Terms) (part h : History) (o g i z e m : ℕ) → Safe r h → IsPart k part h o → g < r.count → i < r.count → m < length part →
    is_red_amber (trace part g m) ≡ true → r.between i g ≡ Some z → last_end k.rested (trace part i) m ≡ Some e →
    e + z ≤ latest_green r k (trace part g) g m
will_wait r k part h o g i z e m safe is lt lt' in_time amber between last =
    let shows : trace part g m ≡ RedAmber = red_amber_is (trace part g m) amber in
    let start = start_of r k part h o g m safe is lt in_time shows in
    let end = end_in k part h o i m e is in_time last in
    let before = start.1.before in
    let begin_le = start.1.found.le in
    elim (cases_lt start.0 (o + e)) [
      | inr early ↦ (
          let far = safe.intergreen i g z (conflicting r i g z lt' lt between) (o + e) start.0 end.1 start.1.found.starts early (omega (arith, begin_le, in_time, is.fits)) in
          omega (arith, far, before))
      | inl later ↦ absurd (both_on (o + e) end.1 start.0 start.1.found later (omega (arith, end.0)))
    ]
  where
    both_on : (b : ℕ) → ends_at (trace h i) b ≡ true → (s : ℕ) → StartedAt (trace h g) (o + m) s → s < b → b ≤ o + m → ⊥
    both_on zero ends s found lo hi = omega (arith, lo)
    both_on (suc w) ends s found lo hi =
        let green = (and_parts (is_green (trace h i w)) (not (is_green (trace h i (suc w)))) ends).0 in
        let on_i : is_on (trace h i w) ≡ true = rw (green_is (trace h i w) green) refl in
        let on_g : is_on (trace h g w) ≡ true = rw (found.stays w (omega (arith, lo)) (omega (arith, hi))) refl in
        safe.conflict i g z (conflicting r i g z lt' lt between) w (omega (arith, hi, in_time, is.fits)) on_i on_g
