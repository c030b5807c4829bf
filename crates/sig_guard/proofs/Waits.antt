-- A turn is obeyed exactly from the second on from which what is kept allows it, as long as each group does what comes by nature.
use Rattle.std.proofs.Common.{◌≡◌, ℕ, zero, suc, ◌+◌, ◌-◌, ◌<◌, ◌≤◌, Bool, true, false, not, ◌&&◌, ◌⊎◌, ◌↔◌, is_none, is_some, Option, Some, None, [], ◌∷◌, ◌++◌, length, length-append, if◌then◌else◌, max, nat_lt, inl, inr, refl, sym, ap, ◌∙◌, subst, arith, slice_index_or}
use Rattle.std.proofs.lemmas.Bool.{cases_Bool, cases_eq, cases_lt, both_ways, ltb-false, le-ltb, eq-eqb, ne_eqb}
use Rattle.std.proofs.lemmas.Int.{clamps}
use Rattle.std.proofs.Math.Seq.{get_or-append_seam}
use Rattle.sig_types.specs.declared.aspect.Aspect.{Aspect}
use Rattle.sig_types.specs.declared.aspect.Aspect.TheVariants.{Red, RedAmber, Green, Amber}
use Rattle.sig_types.specs.Rules.{Rules}
use Rattle.sig_types.specs.Turns.{Picture, History, trace, is_red, is_green, is_on, starts_at, turns_green_at, ends_at}
use Rattle.sig_types.specs.Words.{last_below}
use Rattle.sig_types.proofs.LastBelow.{IsLast, last_below-some, last_below-agree, least_below-never}
use Rattle.sig_guard.specs.declared.ages.GroupAge.{GroupAge}
use Rattle.sig_guard.specs.declared.turn.Breach.{Breach}
use Rattle.sig_guard.specs.Ages.{HasAge, next_age}
use Rattle.sig_guard.specs.Alone.{may_end, turn_breach, refusal_by, turn_refusal}
use Rattle.sig_guard.specs.Safety.{Sequence, MayFollow}
use Rattle.sig_guard.specs.Safety as safety
use Rattle.sig_guard.specs.Step.{last, natural, natural_after, natural_picture, is_short, is_green_short, is_red_short, is_in_conflict, is_uncleared, end_breach, start_breach}
use Rattle.sig_guard.specs.Waits.{IsClearedFrom, IsWait, by_nature, is_obeyed_after, turn_from}
use Rattle.sig_guard.proofs.Agree.{AgreeBelow, starts_at-agree, turns_green_at-agree}
use Rattle.sig_guard.proofs.Aged.{has_age_next, red_amber_since, green_since, red_since}
use Rattle.sig_guard.proofs.MachineLemmas.{uncleared_by_last, last_end_before, end_breach_none, start_breach_none}
use Rattle.sig_guard.proofs.Pictures.{trace-append_old, trace-append_new}
use Rattle.sig_guard.proofs.SecondMore.{is_close, close_to_none}
use Rattle.sig_guard.proofs.SequenceKept.{last_end_at, red_is, green_is}
use Rattle.sig_guard.proofs.StepKept.{Making, natural_picture-size, natural_picture-shown, may_end as end_kept, may_start as start_kept}

-- ---- one group

-- Of a trace in seconds 0 to m that keeps its sequence: what is kept says when it started and turned green, and red-amber and amber
-- are not overdue.
pub record Runs (ra am : ℕ) (x : GroupAge) (a : ℕ → Aspect) (m : ℕ) : Type 0 where
  pub aged : HasAge x a m
  pub started : a m ≡ RedAmber → last_below (starts_at a) (suc m) ≡ Some x.since
  pub turned : a m ≡ Green → last_below (turns_green_at a) (suc m) ≡ Some x.since
  pub starting : a m ≡ RedAmber → suc m ≤ x.since + ra
  pub ending : a m ≡ Amber → suc m ≤ x.last_end + am

-- red-amber that kept its sequence is not overdue
red_amber_in_time : (ra am : ℕ) (x : GroupAge) (a : ℕ → Aspect) (m : ℕ) → HasAge x a m → Sequence ra am a (suc m) → a m ≡ RedAmber → suc m ≤ x.since + ra
red_amber_in_time ra am x a m has kept is =
    let last : IsLast (starts_at a) (suc m) x.since = last_below-some (starts_at a) (suc m) x.since (red_amber_since x a m ra am has kept is) in
    elim (cases_lt (x.since + ra) (suc m)) [
      | inl over ↦ absurd (
          let green = kept.then_green x.since last.here over in
          let amber = has.stays (x.since + ra) (omega arith) (omega (arith, over)) ∙ is in
          let clash : Green ≡ RedAmber = sym green ∙ amber in cc)
      | inr le ↦ le
    ]

-- what comes before an amber
before_amber : (ra am : ℕ) (y : Aspect) → MayFollow ra am y Amber → (y ≡ Green) ⊎ (y ≡ Amber)
before_amber ra am _ (safety.stays Amber) = inr refl
before_amber ra am _ (safety.ends lasts) = inl refl

-- amber that kept its sequence is not overdue
amber_in_time : (ra am : ℕ) (x : GroupAge) (a : ℕ → Aspect) (m : ℕ) → HasAge x a m → Sequence ra am a (suc m) → a m ≡ Amber → suc m ≤ x.last_end + am
amber_in_time ra am x a m has kept is = elim (cases_eq x.since 0) [
  | inl first ↦ absurd (let clash : Amber ≡ Red = sym is ∙ sym (has.stays 0 (omega (arith, first)) (omega arith)) ∙ kept.begins_red in cc)
  | inr ne ↦ (
      let before : suc (x.since - 1) ≡ x.since = omega (arith, ne) in
      let here : a (suc (x.since - 1)) ≡ Amber = ap a before ∙ has.stays x.since (omega arith) has.at_most ∙ is in
      let step : MayFollow ra am (a (x.since - 1)) Amber = subst (λ (y : Aspect). MayFollow ra am (a (x.since - 1)) y) here
      (kept.follow (x.since - 1) (omega (arith, ne, has.at_most))) in
      let was : a (x.since - 1) ≡ Green = elim (before_amber ra am (a (x.since - 1)) step) [
        | inl green ↦ green
        | inr amber ↦ absurd (has.began (x.since - 1) before (amber ∙ sym is))
      ] in
      let ends : ends_at a x.since ≡ true = subst (λ (s : ℕ). ends_at a s ≡ true) before (rw (was, here) refl) in
      let last : last_below (ends_at a) (suc m) ≡ Some x.since = last_end_at a m x.since ends has.at_most (λ t lo hi. has.stays t lo hi ∙ is) in
      let same : x.last_end ≡ x.since = (let both : Some x.last_end ≡ Some x.since = sym has.ended_last ∙ last in cc) in
      elim (cases_lt (x.since + am) (suc m)) [
        | inl over ↦ absurd (
            let red = kept.then_red x.since (omega (arith, ne)) ends over in
            let amber = has.stays (x.since + am) (omega arith) (omega (arith, over)) ∙ is in
            let clash : Red ≡ Amber = sym red ∙ amber in cc)
        | inr le ↦ omega (arith, le, same)
      ])
]

-- a group that kept its sequence
pub runs_of : (ra am : ℕ) (x : GroupAge) (a : ℕ → Aspect) (m : ℕ) → HasAge x a m → Sequence ra am a (suc m) → Runs ra am x a m
runs_of ra am x a m has kept = record {
  aged = has;
  started = λ is. red_amber_since x a m ra am has kept is;
  turned = λ is. green_since x a m ra am has kept is;
  starting = λ is. red_amber_in_time ra am x a m has kept is;
  ending = λ is. amber_in_time ra am x a m has kept is;
}

no_more : (p : ℕ → Bool) (m s : ℕ) → p (suc m) ≡ false → last_below p (suc m) ≡ Some s → last_below p (suc (suc m)) ≡ Some s
unfolding last_below
no_more p m s none last = rw none last

last_now : (p : ℕ → Bool) (m : ℕ) → p m ≡ true → last_below p (suc m) ≡ Some m
unfolding last_below
last_now p m here = rw here refl

-- Of a trace c that goes on from a by nature.
module _ (ra am : ℕ) (x : GroupAge) (a c : ℕ → Aspect) (m : ℕ) (runs : Runs ra am x a m) (agree : AgreeBelow (suc m) a c)
    (next : c (suc m) ≡ natural_after ra am a m) where
  abbrev pub later : GroupAge
  later = next_age x (a m) (c (suc m)) (suc m)

  aged_later : HasAge later c (suc m)
  aged_later = has_age_next x a c m runs.aged agree

  at_m : c m ≡ a m
  at_m = sym (agree.at m (omega arith))

  started_before : last_below (starts_at c) (suc m) ≡ last_below (starts_at a) (suc m)
  started_before = sym (last_below-agree (starts_at a) (starts_at c) (suc m) (starts_at-agree (suc m) a c agree))

  turned_before : last_below (turns_green_at c) (suc m) ≡ last_below (turns_green_at a) (suc m)
  turned_before = sym (last_below-agree (turns_green_at a) (turns_green_at c) (suc m) (turns_green_at-agree (suc m) a c agree))

  -- what the group shows next, and what is kept of it then, by what it shows now
  pub data Goes : Type 0 where
    red : a m ≡ Red → c (suc m) ≡ Red → later ≡ x → Goes
    waits : a m ≡ RedAmber → c (suc m) ≡ RedAmber → later ≡ x → suc (suc m) ≤ x.since + ra → Goes
    turns : a m ≡ RedAmber → c (suc m) ≡ Green → x.since + ra ≡ suc m → later.since ≡ suc m → later.last_end ≡ x.last_end → Goes
    green : a m ≡ Green → c (suc m) ≡ Green → later ≡ x → Goes
    clears : a m ≡ Amber → c (suc m) ≡ Amber → later ≡ x → suc (suc m) ≤ x.last_end + am → Goes
    ends : a m ≡ Amber → c (suc m) ≡ Red → x.last_end + am ≡ suc m → later.since ≡ suc m → later.last_end ≡ x.last_end → Goes

  pub goes : Goes
  goes = by (a m) refl
    where
      by : (y : Aspect) → a m ≡ y → Goes
      by Red is =
          let now : c (suc m) ≡ Red = next ∙ rw is refl in
          red is now (rw (is, now) refl)
      by Green is =
          let now : c (suc m) ≡ Green = next ∙ rw is refl in
          green is now (rw (is, now) refl)
      by RedAmber is = elim (cases_eq (x.since + ra) (suc m)) [
        | inl due ↦ (
            let now : c (suc m) ≡ Green = next ∙ rw (is, runs.started is, eq-eqb (x.since + ra) (suc m) due) refl in
            turns is now due (rw (is, now) refl) (rw is refl))
        | inr ne ↦ (
            let now : c (suc m) ≡ RedAmber = next ∙ rw (is, runs.started is, ne_eqb (x.since + ra) (suc m) ne) refl in
            waits is now (rw (is, now) refl) (omega (arith, ne, runs.starting is)))
      ]
      by Amber is = elim (cases_eq (x.last_end + am) (suc m)) [
        | inl due ↦ (
            let now : c (suc m) ≡ Red = next ∙ rw (is, runs.aged.ended_last, eq-eqb (x.last_end + am) (suc m) due) refl in
            ends is now due (rw (is, now) refl) (rw is refl))
        | inr ne ↦ (
            let now : c (suc m) ≡ Amber = next ∙ rw (is, runs.aged.ended_last, ne_eqb (x.last_end + am) (suc m) ne) refl in
            clears is now (rw (is, now) refl) (omega (arith, ne, runs.ending is)))
      ]

  -- so it keeps on
  pub runs_next : Runs ra am later c (suc m)
  runs_next = by goes
    where
      none_started : (y : Aspect) → c (suc m) ≡ y → (y ≡ RedAmber → ⊥) → c (suc m) ≡ RedAmber → ⊥
      none_started y is other amber = other (sym is ∙ amber)

      by : Goes → Runs ra am later c (suc m)
      by (red was now same) = record {
        aged = aged_later;
        started = λ is. absurd (let clash : Red ≡ RedAmber = sym now ∙ is in cc);
        turned = λ is. absurd (let clash : Red ≡ Green = sym now ∙ is in cc);
        starting = λ is. absurd (let clash : Red ≡ RedAmber = sym now ∙ is in cc);
        ending = λ is. absurd (let clash : Red ≡ Amber = sym now ∙ is in cc);
      }
      by (waits was now same in_time) = record {
        aged = aged_later;
        started = λ is. no_more (starts_at c) m x.since (rw (at_m, was) refl) (started_before ∙ runs.started was)
            ∙ ap (λ (y : GroupAge). Some y.since) (sym same);
        turned = λ is. absurd (let clash : RedAmber ≡ Green = sym now ∙ is in cc);
        starting = λ is. subst (λ (y : GroupAge). suc (suc m) ≤ y.since + ra) (sym same) in_time;
        ending = λ is. absurd (let clash : RedAmber ≡ Amber = sym now ∙ is in cc);
      }
      by (turns was now due begun kept) = record {
        aged = aged_later;
        started = λ is. absurd (let clash : Green ≡ RedAmber = sym now ∙ is in cc);
        turned = λ is. last_now (turns_green_at c) (suc m) (rw (at_m, was, now) refl) ∙ ap Some (sym begun);
        starting = λ is. absurd (let clash : Green ≡ RedAmber = sym now ∙ is in cc);
        ending = λ is. absurd (let clash : Green ≡ Amber = sym now ∙ is in cc);
      }
      by (green was now same) = record {
        aged = aged_later;
        started = λ is. absurd (let clash : Green ≡ RedAmber = sym now ∙ is in cc);
        turned = λ is. no_more (turns_green_at c) m x.since (rw (at_m, was) refl) (turned_before ∙ runs.turned was)
            ∙ ap (λ (y : GroupAge). Some y.since) (sym same);
        starting = λ is. absurd (let clash : Green ≡ RedAmber = sym now ∙ is in cc);
        ending = λ is. absurd (let clash : Green ≡ Amber = sym now ∙ is in cc);
      }
      by (clears was now same in_time) = record {
        aged = aged_later;
        started = λ is. absurd (let clash : Amber ≡ RedAmber = sym now ∙ is in cc);
        turned = λ is. absurd (let clash : Amber ≡ Green = sym now ∙ is in cc);
        starting = λ is. absurd (let clash : Amber ≡ RedAmber = sym now ∙ is in cc);
        ending = λ is. subst (λ (y : GroupAge). suc (suc m) ≤ y.last_end + am) (sym same) in_time;
      }
      by (ends was now due begun kept) = record {
        aged = aged_later;
        started = λ is. absurd (let clash : Red ≡ RedAmber = sym now ∙ is in cc);
        turned = λ is. absurd (let clash : Red ≡ Green = sym now ∙ is in cc);
        starting = λ is. absurd (let clash : Red ≡ RedAmber = sym now ∙ is in cc);
        ending = λ is. absurd (let clash : Red ≡ Amber = sym now ∙ is in cc);
      }

  -- it stays on, or off
  pub on_next : is_on (c (suc m)) ≡ is_on (a m)
  on_next = by goes
    where
      by : Goes → is_on (c (suc m)) ≡ is_on (a m)
      by (red was now same) = rw (was, now) refl
      by (waits was now same in_time) = rw (was, now) refl
      by (turns was now due begun kept) = rw (was, now) refl
      by (green was now same) = rw (was, now) refl
      by (clears was now same in_time) = rw (was, now) refl
      by (ends was now due begun kept) = rw (was, now) refl

  -- it does not end
  pub end_next : later.last_end ≡ x.last_end
  end_next = by goes
    where
      by : Goes → later.last_end ≡ x.last_end
      by (red was now same) = ap (λ (y : GroupAge). y.last_end) same
      by (waits was now same in_time) = ap (λ (y : GroupAge). y.last_end) same
      by (turns was now due begun kept) = kept
      by (green was now same) = ap (λ (y : GroupAge). y.last_end) same
      by (clears was now same in_time) = ap (λ (y : GroupAge). y.last_end) same
      by (ends was now due begun kept) = kept

-- the greater of a number and 1
data AtLeastOne (n : ℕ) : Type 0 where
  nothing : n ≡ 0 → max n 1 ≡ 1 → AtLeastOne n
  something : 1 ≤ n → max n 1 ≡ n → AtLeastOne n

at_least_one : (n : ℕ) → AtLeastOne n
at_least_one zero = nothing refl refl
at_least_one (suc n) = something (omega arith) (omega (arith, clamps))

-- the second of the turn is the same in all seconds to come
from_next : (r : Rules) (g : ℕ) (x : GroupAge) (a c : ℕ → Aspect) (m : ℕ) (runs : Runs (r.red_amber g) (r.amber g) x a m) (agree : AgreeBelow (suc m) a c)
    (next : c (suc m) ≡ natural_after (r.red_amber g) (r.amber g) a m) (t : ℕ) → suc (suc m) ≤ t →
    (turn_from r g (later (r.red_amber g) (r.amber g) x a c m runs agree next) (c (suc m)) ≤ t) ↔ (turn_from r g x (a m) ≤ t)
from_next r g x a c m runs agree next t lt = by (goes (r.red_amber g) (r.amber g) x a c m runs agree next)
  where
    after_it : GroupAge
    after_it = later (r.red_amber g) (r.amber g) x a c m runs agree next

    as_before : (y : Aspect) → a m ≡ y → c (suc m) ≡ y → after_it ≡ x → (turn_from r g after_it (c (suc m)) ≤ t) ↔ (turn_from r g x (a m) ≤ t)
    as_before y was now same =
        let one : turn_from r g after_it (c (suc m)) ≡ turn_from r g x (a m) = λ i. turn_from r g (same i) ((now ∙ sym was) i) in
        (λ le. omega (arith, le, one), λ le. omega (arith, le, one))

    by : Goes (r.red_amber g) (r.amber g) x a c m runs agree next → (turn_from r g after_it (c (suc m)) ≤ t) ↔ (turn_from r g x (a m) ≤ t)
    by (red was now same) = as_before Red was now same
    by (waits was now same in_time) = as_before RedAmber was now same
    by (turns was now due begun kept) =
        let here : turn_from r g after_it (c (suc m)) ≡ suc m + r.minimum_green g = ap (turn_from r g after_it) now ∙ ap (λ n. n + r.minimum_green g) begun in
        let there : turn_from r g x (a m) ≡ x.since + r.red_amber g + max (r.minimum_green g) 1 = ap (turn_from r g x) was in
        elim (at_least_one (r.minimum_green g)) [
          | nothing is0 one ↦ (λ le. omega (arith, lt, there, due, one), λ le. omega (arith, lt, here, is0))
          | something most same ↦ (λ le. omega (arith, le, here, there, due, same), λ le. omega (arith, le, here, there, due, same))
        ]
    by (green was now same) = as_before Green was now same
    by (clears was now same in_time) = as_before Amber was now same
    by (ends was now due begun kept) =
        let here : turn_from r g after_it (c (suc m)) ≡ suc m + r.minimum_red g = ap (turn_from r g after_it) now ∙ ap (λ n. n + r.minimum_red g) begun in
        let there : turn_from r g x (a m) ≡ x.last_end + r.amber g + max (r.minimum_red g) 1 = ap (turn_from r g x) was in
        elim (at_least_one (r.minimum_red g)) [
          | nothing is0 one ↦ (λ le. omega (arith, lt, there, due, one), λ le. omega (arith, lt, here, is0))
          | something most same ↦ (λ le. omega (arith, le, here, there, due, same), λ le. omega (arith, le, here, there, due, same))
        ]

-- ---- all groups

-- Of a history that keeps its sequences, what is kept of each group.
pub record Natured (r : Rules) (h : History) (xs : ℕ → GroupAge) : Type 0 where
  pub making : Making r h
  pub runs : (g : ℕ) → g < r.count → Runs (r.red_amber g) (r.amber g) (xs g) (trace h g) (last h)

-- the second that comes by nature
module _ (r : Rules) (h : History) (xs : ℕ → GroupAge) (s : Natured r h xs) where
  abbrev longer : History
  longer = h ++ natural_picture r h ∷ []

  last_then : last longer ≡ suc (last h)
  last_then = omega (arith, length-append h (natural_picture r h ∷ []), s.making.len)

  agree_then : (g : ℕ) → AgreeBelow (suc (last h)) (trace h g) (trace longer g)
  agree_then g = trace-append_old h (natural_picture r h) g (suc (last h)) s.making.len

  next_then : (g : ℕ) → g < r.count → trace longer g (suc (last h)) ≡ natural_after (r.red_amber g) (r.amber g) (trace h g) (last h)
  next_then g lt = trace-append_new h (natural_picture r h) g (suc (last h)) s.making.len ∙ natural_picture-shown r h g s.making lt

  abbrev ages_then : ℕ → GroupAge
  ages_then g = next_age (xs g) (trace h g (last h)) (trace longer g (suc (last h))) (suc (last h))

  size_then : length (slice_index_or longer (last longer) []) ≡ r.count
  size_then =
      ap (λ (n : ℕ). length (slice_index_or longer n [])) (last_then ∙ sym s.making.len)
      ∙ ap (λ (p : Picture). length p) (get_or-append_seam h (natural_picture r h) [] [])
      ∙ natural_picture-size r h s.making

  natured_then : Natured r longer ages_then
  natured_then = record {
    making = record { len = omega (arith, length-append h (natural_picture r h ∷ []), s.making.len); size = size_then };
    runs = λ g lt. subst (λ (n : ℕ). Runs (r.red_amber g) (r.amber g) (ages_then g) (trace longer g) n) (sym last_then)
        (runs_next (r.red_amber g) (r.amber g) (xs g) (trace h g) (trace longer g) (last h) (s.runs g lt) (agree_then g) (next_then g lt));
  }

  on_then : (g : ℕ) → g < r.count → is_on (trace longer g (last longer)) ≡ is_on (trace h g (last h))
  on_then g lt = ap (λ (n : ℕ). is_on (trace longer g n)) last_then
      ∙ on_next (r.red_amber g) (r.amber g) (xs g) (trace h g) (trace longer g) (last h) (s.runs g lt) (agree_then g) (next_then g lt)

  end_then : (g : ℕ) → g < r.count → (ages_then g).last_end ≡ (xs g).last_end
  end_then g lt = end_next (r.red_amber g) (r.amber g) (xs g) (trace h g) (trace longer g) (last h) (s.runs g lt) (agree_then g) (next_then g lt)

  from_then : (g : ℕ) → g < r.count → (t : ℕ) → suc (suc (last h)) ≤ t →
      (turn_from r g (ages_then g) (trace longer g (last longer)) ≤ t) ↔ (turn_from r g (xs g) (trace h g (last h)) ≤ t)
  from_then g lt t later = subst (λ (n : ℕ). (turn_from r g (ages_then g) (trace longer g n) ≤ t) ↔ (turn_from r g (xs g) (trace h g (last h)) ≤ t)) (sym last_then)
      (from_next r g (xs g) (trace h g) (trace longer g) (last h) (s.runs g lt) (agree_then g) (next_then g lt) t later)

-- after so many seconds by nature
record After (r : Rules) (h : History) (xs : ℕ → GroupAge) (g n : ℕ) : Type 0 where
  ages : ℕ → GroupAge
  natured : Natured r (by_nature r h n) ages
  second : last (by_nature r h n) ≡ last h + n
  on : (i : ℕ) → i < r.count → is_on (trace (by_nature r h n) i (last (by_nature r h n))) ≡ is_on (trace h i (last h))
  ended : (i : ℕ) → i < r.count → (ages i).last_end ≡ (xs i).last_end
  from : (t : ℕ) → suc (last h + n) ≤ t →
      (turn_from r g (ages g) (trace (by_nature r h n) g (last (by_nature r h n))) ≤ t) ↔ (turn_from r g (xs g) (trace h g (last h)) ≤ t)

after : (r : Rules) (h : History) (xs : ℕ → GroupAge) (g : ℕ) → Natured r h xs → g < r.count → (n : ℕ) → After r h xs g n
after r h xs g s lt zero = record {
  ages = xs;
  natured = s;
  second = omega arith;
  on = λ i inside. refl;
  ended = λ i inside. refl;
  from = λ t later. (λ le. le, λ le. le);
}
after r h xs g s lt (suc n) =
    let old = after r h xs g s lt n in
    let past = by_nature r h n in
    record {
      ages = ages_then r past old.ages old.natured;
      natured = natured_then r past old.ages old.natured;
      second = omega (arith, last_then r past old.ages old.natured, old.second);
      on = λ i inside. on_then r past old.ages old.natured i inside ∙ old.on i inside;
      ended = λ i inside. end_then r past old.ages old.natured i inside ∙ old.ended i inside;
      from = λ t later.
          let here = from_then r past old.ages old.natured g lt t (omega (arith, later, old.second)) in
          let before = old.from t (omega (arith, later)) in
          (λ le. before.0 (here.0 le), λ le. here.1 (before.1 le));
    }

-- ---- whether a turn is obeyed now

on_natural_is : (b c : Bool) (y : Aspect) → is_on (natural b c y) ≡ is_on y
on_natural_is b c Red = refl
on_natural_is true c RedAmber = refl
on_natural_is false c RedAmber = refl
on_natural_is b c Green = refl
on_natural_is b true Amber = refl
on_natural_is b false Amber = refl

no_end_by_nature : (b c : Bool) (y : Aspect) → (is_green y && not (is_green (natural b c y))) ≡ false
no_end_by_nature b c Red = refl
no_end_by_nature b c RedAmber = refl
no_end_by_nature b c Green = refl
no_end_by_nature b c Amber = refl

none_refused : (g : ℕ) (o : Option Breach) → is_none (refusal_by g o) ≡ is_none o
none_refused g None = refl
none_refused g (Some breach) = refl

module _ (r : Rules) (h : History) (xs : ℕ → GroupAge) (s : Natured r h xs) (g : ℕ) (lt : g < r.count) where
  abbrev at_last : Aspect
  at_last = trace h g (last h)

  kept : Runs (r.red_amber g) (r.amber g) (xs g) (trace h g) (last h)
  kept = s.runs g lt

  -- by nature it is on where it was
  pub may_end_is : may_end r h g ≡ is_on at_last
  may_end_is = ap is_on (natural_picture-shown r h g s.making lt) ∙ on_natural_is _ _ at_last

  obeyed_end : is_on at_last ≡ true → is_none (turn_refusal r h g) ≡ is_none (end_breach r h g)
  unfolding turn_refusal
  obeyed_end on = none_refused g (turn_breach r h g)
      ∙ ap (λ (b : Bool). is_none (if b then end_breach r h g else start_breach r h (natural_picture r h) g)) (may_end_is ∙ on)

  obeyed_start : is_on at_last ≡ false → is_none (turn_refusal r h g) ≡ is_none (start_breach r h (natural_picture r h) g)
  unfolding turn_refusal
  obeyed_start off = none_refused g (turn_breach r h g)
      ∙ ap (λ (b : Bool). is_none (if b then end_breach r h g else start_breach r h (natural_picture r h) g)) (may_end_is ∙ off)

  -- of a group that is green, and of one that is red
  green_long : at_last ≡ Green → is_green_short r h g ≡ nat_lt (suc (last h)) (turn_from r g (xs g) at_last)
  green_long is = ap (λ (o : Option ℕ). is_short (r.minimum_green g) o (suc (last h))) (kept.turned is)
      ∙ ap (λ (y : Aspect). nat_lt (suc (last h)) (turn_from r g (xs g) y)) (sym is)

  red_long : at_last ≡ Red → is_red_short r h g ≡ nat_lt (suc (last h)) (turn_from r g (xs g) at_last)
  red_long is = ap (λ (o : Option ℕ). is_short (r.minimum_red g) o (suc (last h))) (red_since (xs g) (trace h g) (last h) kept.aged is)
      ∙ ap (λ (y : Aspect). nat_lt (suc (last h)) (turn_from r g (xs g) y)) (sym is)

  pub end_only_from : is_none (end_breach r h g) ≡ true → turn_from r g (xs g) at_last ≤ suc (last h)
  end_only_from none =
      let may = end_kept r h g none in
      ltb-false (suc (last h)) (turn_from r g (xs g) at_last) (sym (green_long (green_is at_last may.was_green)) ∙ may.long)

  pub ends_from : is_on at_last ≡ true → turn_from r g (xs g) at_last ≤ suc (last h) → is_none (end_breach r h g) ≡ true
  ends_from on le = by at_last refl
    where
      by : (y : Aspect) → at_last ≡ y → is_none (end_breach r h g) ≡ true
      by Red is = absurd (let bad : is_on Red ≡ true = ap is_on (sym is) ∙ on in cc)
      by Amber is = absurd (let bad : is_on Amber ≡ true = ap is_on (sym is) ∙ on in cc)
      by Green is = sym (ap is_none (end_breach_none r h g (ap is_green is) (green_long is ∙ le-ltb (suc (last h)) (turn_from r g (xs g) at_last) le)))
      by RedAmber is = elim (at_least_one (r.minimum_green g)) [
        | nothing is0 one ↦ absurd (omega (arith, le, ap (turn_from r g (xs g)) is, one, kept.starting is))
        | something most same ↦ absurd (omega (arith, le, ap (turn_from r g (xs g)) is, same, most, kept.starting is))
      ]

  -- the last end of another group, where the next second shows what comes by nature
  last_end_then : (i : ℕ) → i < r.count → last_below (ends_at (trace (h ++ natural_picture r h ∷ []) i)) (suc (suc (last h))) ≡ Some (xs i).last_end
  last_end_then i inside = last_end_before h (natural_picture r h) i (last h) (xs i).last_end s.making.len
      (ap (λ (y : Aspect). is_green (trace h i (last h)) && not (is_green y)) (natural_picture-shown r h i s.making inside)
      ∙ no_end_by_nature _ _ (trace h i (last h)))
      (s.runs i inside).aged.ended_last

  close_is : (i z : ℕ) → i < r.count → r.between i g ≡ Some z →
      is_uncleared r h (natural_picture r h) g i ≡ nat_lt (suc (last h) + r.red_amber g) ((xs i).last_end + z)
  close_is i z inside pair =
      ap (λ (o : Option ℕ). is_close o (r.red_amber g) (suc (last h)) (trace (h ++ natural_picture r h ∷ []) i)) pair
      ∙ sym (uncleared_by_last z (r.red_amber g) (suc (last h)) (xs i).last_end (trace (h ++ natural_picture r h ∷ []) i) (last_end_then i inside))

  pub starts_only_from : is_none (start_breach r h (natural_picture r h) g) ≡ true →
      ((i : ℕ) → i < r.count → is_in_conflict r (natural_picture r h) g i ≡ false)
      × (turn_from r g (xs g) at_last ≤ suc (last h)) × IsClearedFrom r xs g (suc (last h))
  starts_only_from none =
      let may = start_kept r h (natural_picture r h) g none in (
        may.apart,
        ltb-false (suc (last h)) (turn_from r g (xs g) at_last) (sym (red_long (red_is at_last may.was_red)) ∙ may.long),
        λ i z inside pair. ltb-false (suc (last h) + r.red_amber g) ((xs i).last_end + z) (sym (close_is i z inside pair) ∙ may.cleared i inside),
      )

  pub starts_from : is_on at_last ≡ false → ((i : ℕ) → i < r.count → is_in_conflict r (natural_picture r h) g i ≡ false) →
      turn_from r g (xs g) at_last ≤ suc (last h) → IsClearedFrom r xs g (suc (last h)) → is_none (start_breach r h (natural_picture r h) g) ≡ true
  starts_from off apart le cleared = by at_last refl
    where
      clear : (i : ℕ) → i < r.count → is_uncleared r h (natural_picture r h) g i ≡ false
      clear i inside = pair (r.between i g) refl
        where
          pair : (o : Option ℕ) → r.between i g ≡ o → is_uncleared r h (natural_picture r h) g i ≡ false
          pair None is = ap (λ (o : Option ℕ). is_close o (r.red_amber g) (suc (last h)) (trace (h ++ natural_picture r h ∷ []) i)) is
              ∙ close_to_none (r.red_amber g) (suc (last h)) (trace (h ++ natural_picture r h ∷ []) i)
          pair (Some z) is = close_is i z inside is ∙ le-ltb (suc (last h) + r.red_amber g) ((xs i).last_end + z) (cleared i z inside is)

      by : (y : Aspect) → at_last ≡ y → is_none (start_breach r h (natural_picture r h) g) ≡ true
      by RedAmber is = absurd (let bad : is_on RedAmber ≡ false = ap is_on (sym is) ∙ off in cc)
      by Green is = absurd (let bad : is_on Green ≡ false = ap is_on (sym is) ∙ off in cc)
      by Red is = sym (ap is_none (start_breach_none r h (natural_picture r h) g (ap is_red is)
          (red_long is ∙ le-ltb (suc (last h)) (turn_from r g (xs g) at_last) le)
          (least_below-never _ r.count apart) (least_below-never _ r.count clear)))
      by Amber is = elim (at_least_one (r.minimum_red g)) [
        | nothing is0 one ↦ absurd (omega (arith, le, ap (turn_from r g (xs g)) is, one, kept.ending is))
        | something most same ↦ absurd (omega (arith, le, ap (turn_from r g (xs g)) is, same, most, kept.ending is))
      ]

-- who is on by nature stays so, and so does who is in the way
conflict_same : (r : Rules) (h k : History) (xs ys : ℕ → GroupAge) (s : Natured r h xs) (u : Natured r k ys) (g : ℕ) →
    ((i : ℕ) → i < r.count → is_on (trace k i (last k)) ≡ is_on (trace h i (last h))) → (i : ℕ) → i < r.count →
    is_in_conflict r (natural_picture r k) g i ≡ is_in_conflict r (natural_picture r h) g i
conflict_same r h k xs ys s u g same i inside =
    ap (λ (b : Bool). is_some (r.between i g) && b) (may_end_is r k ys u i inside ∙ same i inside ∙ sym (may_end_is r h xs s i inside))

-- ---- the wait

module _ (r : Rules) (h : History) (xs : ℕ → GroupAge) (s : Natured r h xs) (g : ℕ) (lt : g < r.count) where
  -- the turn is obeyed after n seconds by nature exactly where this says so
  abbrev Obeyed : (ℕ → Type 0) → Type 0
  Obeyed p = (n : ℕ) → (is_obeyed_after r h g n ≡ true) ↔ (p (suc (last h) + n))

  pub obeyed_end_from : is_on (trace h g (last h)) ≡ true → Obeyed (λ t. turn_from r g (xs g) (trace h g (last h)) ≤ t)
  obeyed_end_from on n =
      let a = after r h xs g s lt n in
      let k = by_nature r h n in
      let on_k = a.on g lt ∙ on in
      let same = a.from (suc (last h) + n) (omega arith) in
      let at : suc (last k) ≡ suc (last h) + n = omega (arith, a.second) in (
        λ is. same.0 (subst (λ (t : ℕ). turn_from r g (a.ages g) (trace k g (last k)) ≤ t) at
            (end_only_from r k a.ages a.natured g lt (sym (obeyed_end r k a.ages a.natured g lt on_k) ∙ is))),
        λ le. obeyed_end r k a.ages a.natured g lt on_k ∙ ends_from r k a.ages a.natured g lt on_k
            (subst (λ (t : ℕ). turn_from r g (a.ages g) (trace k g (last k)) ≤ t) (sym at) (same.1 le)),
      )

  abbrev Apart : Type 0
  Apart = (i : ℕ) → i < r.count → is_in_conflict r (natural_picture r h) g i ≡ false

  pub obeyed_start_from : is_on (trace h g (last h)) ≡ false →
      Obeyed (λ t. Apart × (turn_from r g (xs g) (trace h g (last h)) ≤ t) × IsClearedFrom r xs g t)
  obeyed_start_from off n =
      let a = after r h xs g s lt n in
      let k = by_nature r h n in
      let off_k = a.on g lt ∙ off in
      let same = a.from (suc (last h) + n) (omega arith) in
      let at : suc (last k) ≡ suc (last h) + n = omega (arith, a.second) in
      let apart = conflict_same r h k xs a.ages s a.natured g a.on in (
        λ is. (let parts = starts_only_from r k a.ages a.natured g lt (sym (obeyed_start r k a.ages a.natured g lt off_k) ∙ is) in (
          λ i inside. sym (apart i inside) ∙ parts.0 i inside,
          same.0 (subst (λ (t : ℕ). turn_from r g (a.ages g) (trace k g (last k)) ≤ t) at parts.1),
          λ i z inside pair. omega (arith, parts.2 i z inside pair, a.ended i inside, at),
        )),
        λ parts. obeyed_start r k a.ages a.natured g lt off_k ∙ starts_from r k a.ages a.natured g lt off_k
            (λ i inside. apart i inside ∙ parts.0 i inside)
            (subst (λ (t : ℕ). turn_from r g (a.ages g) (trace k g (last k)) ≤ t) (sym at) (same.1 parts.1))
            (λ i z inside pair. omega (arith, parts.2 i z inside pair, a.ended i inside, at)),
      )

  -- it waits until that second
  waits_until : (from : ℕ) → Obeyed (λ t. from ≤ t) → IsWait r h g (Some (from - suc (last h)))
  unfolding IsWait
  waits_until from obeyed = (
    (obeyed (from - suc (last h))).1 (omega arith),
    λ n fewer. elim (cases_Bool (is_obeyed_after r h g n)) [
      | inl is ↦ absurd (let le = (obeyed n).0 is in omega (arith, le, fewer))
      | inr is ↦ is
    ],
  )

  pub end_waits : is_on (trace h g (last h)) ≡ true → IsWait r h g (Some (turn_from r g (xs g) (trace h g (last h)) - suc (last h)))
  end_waits on = waits_until (turn_from r g (xs g) (trace h g (last h))) (obeyed_end_from on)

  pub start_waits : is_on (trace h g (last h)) ≡ false → Apart → (from : ℕ) → turn_from r g (xs g) (trace h g (last h)) ≤ from →
      IsClearedFrom r xs g from →
      ((second : ℕ) → turn_from r g (xs g) (trace h g (last h)) ≤ second → IsClearedFrom r xs g second → from ≤ second) →
      IsWait r h g (Some (from - suc (last h)))
  start_waits off apart from first cleared least = waits_until from (λ n.
      let is = obeyed_start_from off n in (
        λ obeyed. (let parts = is.0 obeyed in least (suc (last h) + n) parts.1 parts.2),
        λ le. is.1 (apart, omega (arith, le, first), λ i z inside pair. omega (arith, le, cleared i z inside pair)),
      ))

  pub start_never : is_on (trace h g (last h)) ≡ false → (i : ℕ) → i < r.count → is_in_conflict r (natural_picture r h) g i ≡ true → IsWait r h g None
  unfolding IsWait
  start_never off i inside in_way n = elim (cases_Bool (is_obeyed_after r h g n)) [
    | inl is ↦ absurd (let parts = (obeyed_start_from off n).0 is in both_ways _ (parts.0 i inside) in_way)
    | inr is ↦ is
  ]
