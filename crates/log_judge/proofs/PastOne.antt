-- The past of one group that fits what a part without a breach shows of it.
use Rattle.std.proofs.Common.{◌≡◌, ℕ, suc, ◌+◌, ◌-◌, ◌<◌, ◌≤◌, max, true, false, Option, Some, None, refl, arith, sym, inl, inr, ap, ◌∙◌, length}
use Rattle.std.proofs.lemmas.Bool.{cases_eq, cases_lt, lt-ltb}
use Rattle.sig_types.specs.declared.aspect.Aspect.{Aspect}
use Rattle.sig_types.specs.declared.aspect.Aspect.TheVariants.{Red, RedAmber, Green, Amber}
use Rattle.sig_types.specs.Rules.{Rules}
use Rattle.sig_types.specs.Turns.{History, trace, is_on}
use Rattle.log_judge.specs.declared.find.Terms.{Terms}
use Rattle.log_judge.specs.Past.{since, first_over}
use Rattle.log_judge.specs.Breaches.{can_follow, red_amber_from, amber_from, green_from, red_from, short, other_time, running_breach}
use Rattle.log_judge.specs.Opening.{lacks, shown_first}
use Rattle.log_judge.proofs.Back.{Back, IsBack, aspect_back, back_amber, back_green, back_red_amber, back_red, above_amber, above_green, above_red_amber, Joined, since_phase, since_red, since_later, since_first, Keeps}
use Rattle.log_judge.proofs.NoneSafe.{from_red_amber, from_amber, from_green, from_red}
use Rattle.log_judge.proofs.Openings.{IsOver, not_over, is_over}
use Rattle.log_judge.proofs.Parts.{not_green}
use Rattle.log_judge.proofs.Runs.{IsSince, since_is}
use Rattle.log_judge.proofs.Tests.{HasNone, short_none, long_none, other_time_none}

abbrev pub unknown : Terms
unknown = record { rested = false; tolerance = 0 }

-- what the tests of one group say of a part without a breach
pub record Shows (ra am mg mr : ℕ) (a : ℕ → Aspect) (m : ℕ) : Type 0 where
  pub step : (j : ℕ) → j < m → can_follow (a j) (a (suc j)) ≡ true
  pub red_amber : (j : ℕ) → j < m → a j ≡ RedAmber → (a (suc j) ≡ RedAmber → ⊥) → (0 < since a j → since a j + ra ≤ suc j) × (suc j ≤ since a j + ra)
  pub no_red_amber : (j : ℕ) → j < m → a j ≡ Red → a (suc j) ≡ Green → ra ≡ 0
  pub amber : (j : ℕ) → j < m → a j ≡ Amber → (a (suc j) ≡ Amber → ⊥) → (0 < since a j → since a j + am ≤ suc j) × (suc j ≤ since a j + am)
  pub no_amber : (j : ℕ) → j < m → a j ≡ Green → a (suc j) ≡ Red → am ≡ 0
  pub green : (j : ℕ) → j < m → a j ≡ Green → (a (suc j) ≡ Green → ⊥) → 0 < since a j → since a j + mg ≤ suc j
  pub red : (j : ℕ) → j < m → a j ≡ Red → is_on (a (suc j)) ≡ true → 0 < since a j → since a j + mr ≤ suc j
  pub last_red_amber : a m ≡ RedAmber → suc m ≤ since a m + ra
  pub last_amber : a m ≡ Amber → suc m ≤ since a m + am

pub shows_of : (r : Rules) (h : History) (g : ℕ) → HasNone r unknown h → g < r.count →
    Shows (r.red_amber g) (r.amber g) (r.minimum_green g) (r.minimum_red g) (trace h g) (length h - 1)
shows_of r h g none lt = record {
  step = λ j in_time. (none.after j in_time).step g lt;
  red_amber = λ j in_time is off.
      let from : red_amber_from (trace h g j) (trace h g (suc j)) (since (trace h g) j) (suc j) ≡ Some (since (trace h g) j) =
      rw is (from_red_amber (trace h g (suc j)) (since (trace h g) j) (suc j) off) in
      let here : other_time unknown g RedAmber (suc j) (r.red_amber g) (Some (since (trace h g) j)) ≡ None =
      sym (ap (λ (o : Option ℕ). other_time unknown g RedAmber (suc j) (r.red_amber g) o) from) ∙ (none.after j in_time).red_amber g lt in
      let both = other_time_none unknown g (suc j) (r.red_amber g) (since (trace h g) j) RedAmber here in
      let most = both.1 in
      (λ known. (let least = both.0 (lt-ltb 0 (since (trace h g) j) known) in omega (arith, least)), omega (arith, most));
  no_red_amber = λ j in_time was is.
      let from : red_amber_from (trace h g j) (trace h g (suc j)) (since (trace h g) j) (suc j) ≡ Some (suc j) = rw (was, is) refl in
      let here : other_time unknown g RedAmber (suc j) (r.red_amber g) (Some (suc j)) ≡ None =
      sym (ap (λ (o : Option ℕ). other_time unknown g RedAmber (suc j) (r.red_amber g) o) from) ∙ (none.after j in_time).red_amber g lt in
      let least = (other_time_none unknown g (suc j) (r.red_amber g) (suc j) RedAmber here).0 (lt-ltb 0 (suc j) (omega arith)) in
      omega (arith, least);
  amber = λ j in_time is off.
      let from : amber_from (trace h g j) (trace h g (suc j)) (since (trace h g) j) (suc j) ≡ Some (since (trace h g) j) =
      rw is (from_amber (trace h g (suc j)) (since (trace h g) j) (suc j) off) in
      let here : other_time unknown g Amber (suc j) (r.amber g) (Some (since (trace h g) j)) ≡ None =
      sym (ap (λ (o : Option ℕ). other_time unknown g Amber (suc j) (r.amber g) o) from) ∙ (none.after j in_time).amber g lt in
      let both = other_time_none unknown g (suc j) (r.amber g) (since (trace h g) j) Amber here in
      let most = both.1 in
      (λ known. (let least = both.0 (lt-ltb 0 (since (trace h g) j) known) in omega (arith, least)), omega (arith, most));
  no_amber = λ j in_time was is.
      let from : amber_from (trace h g j) (trace h g (suc j)) (since (trace h g) j) (suc j) ≡ Some (suc j) = rw (was, is) refl in
      let here : other_time unknown g Amber (suc j) (r.amber g) (Some (suc j)) ≡ None =
      sym (ap (λ (o : Option ℕ). other_time unknown g Amber (suc j) (r.amber g) o) from) ∙ (none.after j in_time).amber g lt in
      let least = (other_time_none unknown g (suc j) (r.amber g) (suc j) Amber here).0 (lt-ltb 0 (suc j) (omega arith)) in
      omega (arith, least);
  green = λ j in_time was off known.
      let from : green_from (trace h g j) (trace h g (suc j)) (since (trace h g) j) ≡ Some (since (trace h g) j) =
      rw was (from_green (trace h g (suc j)) (since (trace h g) j) (not_green (trace h g (suc j)) off)) in
      let here : short unknown g Green (suc j) (r.minimum_green g) (Some (since (trace h g) j)) ≡ None =
      sym (ap (λ (o : Option ℕ). short unknown g Green (suc j) (r.minimum_green g) o) from) ∙ (none.after j in_time).green g lt in
      short_none unknown g (suc j) (r.minimum_green g) (since (trace h g) j) Green here (lt-ltb 0 (since (trace h g) j) known);
  red = λ j in_time was on known.
      let from : red_from (trace h g j) (trace h g (suc j)) (since (trace h g) j) ≡ Some (since (trace h g) j) =
      rw was (from_red (trace h g (suc j)) (since (trace h g) j) on) in
      let here : short unknown g Red (suc j) (r.minimum_red g) (Some (since (trace h g) j)) ≡ None =
      sym (ap (λ (o : Option ℕ). short unknown g Red (suc j) (r.minimum_red g) o) from) ∙ (none.after j in_time).red g lt in
      short_none unknown g (suc j) (r.minimum_red g) (since (trace h g) j) Red here (lt-ltb 0 (since (trace h g) j) known);
  last_red_amber = λ is.
      let run : running_breach r unknown (trace h g) g (length h - 1) RedAmber ≡ None = rw is at (none.last.running g lt) in
      let most = long_none unknown g (suc (length h - 1)) (r.red_amber g) (since (trace h g) (length h - 1)) RedAmber run in
      omega (arith, most);
  last_amber = λ is.
      let run : running_breach r unknown (trace h g) g (length h - 1) Amber ≡ None = rw is at (none.last.running g lt) in
      let most = long_none unknown g (suc (length h - 1)) (r.amber g) (since (trace h g) (length h - 1)) Amber run in
      omega (arith, most);
}

-- what is over in the second after j where it was shown from second 0 up to j
pub over_at : (a : ℕ → Aspect) (m j : ℕ) → j < m → since a j ≡ 0 → (a (suc j) ≡ a j → ⊥) → (first_over a m ≡ Some (suc j)) × (a 0 ≡ a j)
over_at a m j in_time none other = (go (first_over a m) refl, same)
  where
    run : IsSince a j (since a j)
    run = since_is a j

    same : a 0 ≡ a j
    same = run.stays 0 (omega (arith, none)) (omega arith)

    go : (o : Option ℕ) → first_over a m ≡ o → o ≡ Some (suc j)
    go None e = absurd (other (not_over a m (suc j) e (omega (arith, in_time)) ∙ same))
    go (Some over) e =
        let is : IsOver a m over = is_over a m over e in
        elim (cases_lt over (suc j)) [
          | inl before ↦ absurd (is.other (run.stays over (omega (arith, none)) (omega (arith, before)) ∙ sym same))
          | inr behind ↦ elim (cases_eq over (suc j)) [
            | inl at ↦ ap (λ (u : ℕ). Some u) at
            | inr ne ↦ absurd (other (is.stays (suc j) (omega (arith, behind, ne)) ∙ same))
          ]
        ]

-- and where it is not over
pub over_none : (a : ℕ → Aspect) (m : ℕ) → since a m ≡ 0 → (first_over a m ≡ None) × (a 0 ≡ a m)
over_none a m none = (go (first_over a m) refl, same)
  where
    run : IsSince a m (since a m)
    run = since_is a m

    same : a 0 ≡ a m
    same = run.stays 0 (omega (arith, none)) (omega arith)

    go : (o : Option ℕ) → first_over a m ≡ o → o ≡ None
    go None e = refl
    go (Some over) e =
        let is : IsOver a m over = is_over a m over e in
        absurd (is.other (run.stays over (omega (arith, none)) is.at_most ∙ sym same))

-- the past that is taken, from what the group shows first, and up to when
abbrev pub past_back : ℕ → ℕ → ℕ → Aspect → Option ℕ → ℕ → Back
past_back ra am mg Red over m = record { amber = 0; green = 0; red_amber = 0 }
past_back ra am mg RedAmber over m = record { amber = 0; green = 0; red_amber = suc (lacks ra over) }
past_back ra am mg Green over m = record { amber = 0; green = suc (lacks mg over); red_amber = suc (lacks mg over) + ra }
past_back ra am mg Amber over m = record {
  amber = suc (am - shown_first over (suc m));
  green = suc (am - shown_first over (suc m)) + max mg 1;
  red_amber = suc (am - shown_first over (suc m)) + max mg 1 + ra;
}

pub past_is : (ra am mg : ℕ) (w : Aspect) (over : Option ℕ) (m : ℕ) → IsBack ra mg (past_back ra am mg w over m)
past_is ra am mg Red over m = record { amber_le = omega arith; green_le = omega arith; full_green = λ one. absurd (omega (arith, one)); full_red_amber = λ one. absurd (omega (arith, one)) }
past_is ra am mg RedAmber over m = record { amber_le = omega arith; green_le = omega arith; full_green = λ one. absurd (omega (arith, one)); full_red_amber = λ one. absurd (omega (arith, one)) }
past_is ra am mg Green over m = record { amber_le = omega arith; green_le = omega arith; full_green = λ one. absurd (omega (arith, one)); full_red_amber = λ one. refl }
past_is ra am mg Amber over m = record { amber_le = omega arith; green_le = omega arith; full_green = λ one. refl; full_red_amber = λ one. refl }

pub past_first : (ra am mg : ℕ) (w : Aspect) (over : Option ℕ) (m : ℕ) → aspect_back (past_back ra am mg w over m) 0 ≡ w
past_first ra am mg Red over m = back_red (past_back ra am mg Red over m) 0 (omega arith) (omega arith) (omega arith)
past_first ra am mg RedAmber over m = back_red_amber (past_back ra am mg RedAmber over m) 0 (omega arith) (omega arith) (omega arith)
past_first ra am mg Green over m = back_green (past_back ra am mg Green over m) 0 (omega arith) (omega arith)
past_first ra am mg Amber over m = back_amber (past_back ra am mg Amber over m) 0 (omega arith)

-- since when the whole shows what the part shows first
amber_since : (ra mg : ℕ) (x : Back) (first m : ℕ) (a whole : ℕ → Aspect) → IsBack ra mg x → Joined x first m a whole → x.red_amber ≤ first → 1 ≤ x.amber →
    since whole first + x.amber ≡ first + 1
amber_since ra mg x first m a whole is joined fits one =
    since_phase x first m 0 x.amber first 0 a whole Amber joined (λ c ge lt. back_amber x c lt) (above_amber x)
    (omega (arith, fits, is.amber_le, is.green_le)) (omega arith) (omega (arith, one)) (omega arith)

green_since : (ra mg : ℕ) (x : Back) (first m : ℕ) (a whole : ℕ → Aspect) → IsBack ra mg x → Joined x first m a whole → x.red_amber ≤ first → x.amber ≡ 0 →
    1 ≤ x.green → since whole first + x.green ≡ first + 1
green_since ra mg x first m a whole is joined fits none one =
    since_phase x first m 0 x.green first 0 a whole Green joined (λ c ge lt. back_green x c (omega (arith, none)) lt) (above_green x is.amber_le)
    (omega (arith, fits, is.green_le)) (omega arith) (omega (arith, one)) (omega arith)

red_amber_since : (ra mg : ℕ) (x : Back) (first m : ℕ) (a whole : ℕ → Aspect) → IsBack ra mg x → Joined x first m a whole → x.red_amber ≤ first → x.green ≡ 0 →
    1 ≤ x.red_amber → since whole first + x.red_amber ≡ first + 1
red_amber_since ra mg x first m a whole is joined fits none one =
    since_phase x first m 0 x.red_amber first 0 a whole RedAmber joined
    (λ c ge lt. back_red_amber x c (omega (arith, none, is.amber_le)) (omega (arith, none)) lt)
    (above_red_amber x (omega (arith, is.amber_le, is.green_le)) is.green_le) fits (omega arith) (omega (arith, one)) (omega arith)

-- A past of the group that is taken, and the part behind it.
pub record Taken (ra am mg mr : ℕ) (x : Back) (first m : ℕ) (a whole : ℕ → Aspect) : Type 0 where
  pub joined : Joined x first m a whole
  pub is : x ≡ past_back ra am mg (a 0) (first_over a m) m
  pub back : IsBack ra mg x
  pub long : x.red_amber + mr ≤ first

same_back : (ra am mg mr : ℕ) (x : Back) (first m : ℕ) (a whole : ℕ → Aspect) (w : Aspect) (o : Option ℕ) → Taken ra am mg mr x first m a whole →
    a 0 ≡ w → first_over a m ≡ o → x ≡ past_back ra am mg w o m
same_back ra am mg mr x first m a whole w o taken e e' =
    taken.is ∙ ap (λ (v : Aspect). past_back ra am mg v (first_over a m) m) e ∙ ap (λ (u : Option ℕ). past_back ra am mg w u m) e'

pub keeps_behind : (ra am mg mr : ℕ) (x : Back) (first m j : ℕ) (a whole : ℕ → Aspect) → Shows ra am mg mr a m → Taken ra am mg mr x first m a whole → j < m →
    Keeps ra am mg mr whole (first + j)
keeps_behind ra am mg mr x first m j a whole shows taken in_time = record {
  step = rw (was, now) (shows.step j in_time);
  red_amber = λ is off.
      let two = shows.red_amber j in_time (sym was ∙ is) (λ same. off (now ∙ same)) in
      let most = two.1 in
      elim (cases_eq (since a j) 0) [
        | inr later ↦ (
            let least = two.0 (omega (arith, later)) in
            let at = since_later x first m j a whole taken.joined (omega (arith, in_time)) (omega (arith, later)) in
            omega (arith, least, most, at))
        | inl none ↦ (
            let over = over_at a m j in_time none (λ same. off (now ∙ same ∙ sym was ∙ is)) in
            let here = same_back ra am mg mr x first m a whole RedAmber (Some (suc j)) taken (over.1 ∙ sym was ∙ is) over.0 in
            let long : x.red_amber ≡ suc (ra - suc j) = ap (λ (y : Back). y.red_amber) here in
            let no_green : x.green ≡ 0 = ap (λ (y : Back). y.green) here in
            let began = red_amber_since ra mg x first m a whole taken.back taken.joined (omega (arith, taken.long)) no_green (omega (arith, long)) in
            let at = since_first x first m j a whole taken.joined (omega (arith, in_time)) none in
            omega (arith, most, none, long, began, at, taken.long))
      ];
  no_red_amber = λ is next. shows.no_red_amber j in_time (sym was ∙ is) (sym now ∙ next);
  amber = λ is off.
      let two = shows.amber j in_time (sym was ∙ is) (λ same. off (now ∙ same)) in
      let most = two.1 in
      elim (cases_eq (since a j) 0) [
        | inr later ↦ (
            let least = two.0 (omega (arith, later)) in
            let at = since_later x first m j a whole taken.joined (omega (arith, in_time)) (omega (arith, later)) in
            omega (arith, least, most, at))
        | inl none ↦ (
            let over = over_at a m j in_time none (λ same. off (now ∙ same ∙ sym was ∙ is)) in
            let here = same_back ra am mg mr x first m a whole Amber (Some (suc j)) taken (over.1 ∙ sym was ∙ is) over.0 in
            let long : x.amber ≡ suc (am - suc j) = ap (λ (y : Back). y.amber) here in
            let began = amber_since ra mg x first m a whole taken.back taken.joined (omega (arith, taken.long)) (omega (arith, long)) in
            let at = since_first x first m j a whole taken.joined (omega (arith, in_time)) none in
            let le = taken.back.amber_le in
            let le' = taken.back.green_le in
            omega (arith, most, none, long, began, at, taken.long, le, le'))
      ];
  no_amber = λ is next. shows.no_amber j in_time (sym was ∙ is) (sym now ∙ next);
  green = λ is off. elim (cases_eq (since a j) 0) [
    | inr later ↦ (
        let least = shows.green j in_time (sym was ∙ is) (λ same. off (now ∙ same)) (omega (arith, later)) in
        let at = since_later x first m j a whole taken.joined (omega (arith, in_time)) (omega (arith, later)) in
        omega (arith, least, at))
    | inl none ↦ (
        let over = over_at a m j in_time none (λ same. off (now ∙ same ∙ sym was ∙ is)) in
        let here = same_back ra am mg mr x first m a whole Green (Some (suc j)) taken (over.1 ∙ sym was ∙ is) over.0 in
        let long : x.green ≡ suc (mg - suc j) = ap (λ (y : Back). y.green) here in
        let no_amber : x.amber ≡ 0 = ap (λ (y : Back). y.amber) here in
        let began = green_since ra mg x first m a whole taken.back taken.joined (omega (arith, taken.long)) no_amber (omega (arith, long)) in
        let at = since_first x first m j a whole taken.joined (omega (arith, in_time)) none in
        let le = taken.back.green_le in
        omega (arith, none, long, began, at, taken.long, le))
  ];
  red = λ is on. elim (cases_eq (since a j) 0) [
    | inr later ↦ (
        let least = shows.red j in_time (sym was ∙ is) (ap is_on (sym now) ∙ on) (omega (arith, later)) in
        let at = since_later x first m j a whole taken.joined (omega (arith, in_time)) (omega (arith, later)) in
        omega (arith, least, at))
    | inl none ↦ (
        let run : IsSince a j (since a j) = since_is a j in
        let here = same_back ra am mg mr x first m a whole Red (first_over a m) taken (run.stays 0 (omega (arith, none)) (omega arith) ∙ sym was ∙ is) refl in
        let no_time : x.red_amber ≡ 0 = ap (λ (y : Back). y.red_amber) here in
        let le = taken.back.amber_le in
        let le' = taken.back.green_le in
        let began = since_red x first m first 0 a whole taken.joined (omega (arith, le, le')) le' (omega (arith, no_time)) (omega arith) in
        let at = since_first x first m j a whole taken.joined (omega (arith, in_time)) none in
        omega (arith, began, at, taken.long))
  ];
}
  where
    was : whole (first + j) ≡ a j
    was = taken.joined.behind (first + j) j refl (omega (arith, in_time))

    now : whole (suc (first + j)) ≡ a (suc j)
    now = taken.joined.behind (suc (first + j)) (suc j) (omega arith) (omega (arith, in_time))

-- the end: red-amber, and amber, have not lasted too long
pub red_amber_at_end : (ra am mg mr : ℕ) (x : Back) (first m : ℕ) (a whole : ℕ → Aspect) → Shows ra am mg mr a m → Taken ra am mg mr x first m a whole →
    a m ≡ RedAmber → since whole (first + m) ≡ first + since a m
red_amber_at_end ra am mg mr x first m a whole shows taken is = elim (cases_eq (since a m) 0) [
  | inr later ↦ since_later x first m m a whole taken.joined (omega arith) (omega (arith, later))
  | inl none ↦ (
      let over = over_none a m none in
      let here = same_back ra am mg mr x first m a whole RedAmber None taken (over.1 ∙ is) over.0 in
      let long : x.red_amber ≡ 1 = ap (λ (y : Back). y.red_amber) here in
      let no_green : x.green ≡ 0 = ap (λ (y : Back). y.green) here in
      let began = red_amber_since ra mg x first m a whole taken.back taken.joined (omega (arith, taken.long)) no_green (omega (arith, long)) in
      let at = since_first x first m m a whole taken.joined (omega arith) none in
      omega (arith, none, long, began, at))
]

pub amber_at_end : (ra am mg mr : ℕ) (x : Back) (first m : ℕ) (a whole : ℕ → Aspect) → Shows ra am mg mr a m → Taken ra am mg mr x first m a whole →
    a m ≡ Amber → suc (first + m) ≤ since whole (first + m) + am
amber_at_end ra am mg mr x first m a whole shows taken is =
    let most = shows.last_amber is in
    elim (cases_eq (since a m) 0) [
      | inr later ↦ (let at = since_later x first m m a whole taken.joined (omega arith) (omega (arith, later)) in omega (arith, at, most))
      | inl none ↦ (
          let over = over_none a m none in
          let here = same_back ra am mg mr x first m a whole Amber None taken (over.1 ∙ is) over.0 in
          let long : x.amber ≡ suc (am - suc m) = ap (λ (y : Back). y.amber) here in
          let began = amber_since ra mg x first m a whole taken.back taken.joined (omega (arith, taken.long)) (omega (arith, long)) in
          let at = since_first x first m m a whole taken.joined (omega arith) none in
          let le = taken.back.amber_le in
          let le' = taken.back.green_le in
          omega (arith, most, none, long, began, at, taken.long, le, le'))
    ]
