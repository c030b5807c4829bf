-- No part of a safe history hides a green too soon.
use Rattle.std.proofs.Common.{◌≡◌, ℕ, zero, suc, ◌+◌, ◌-◌, ◌<◌, ◌≤◌, max, Bool, true, false, not, ◌&&◌, ◌⊎◌, Option, Some, None, is_some, refl, arith, sym, inl, inr, ap, ◌∙◌, [], ◌∷◌, length, nat_lt, if◌then◌else◌}
use Rattle.std.proofs.lemmas.Bool.{cases_eq, cases_lt, and_from, and_parts, le-ltb}
use Rattle.sig_types.specs.declared.aspect.Aspect.{Aspect}
use Rattle.sig_types.specs.declared.aspect.Aspect.TheVariants.{Red, RedAmber, Green, Amber}
use Rattle.sig_types.specs.FirstRefused.{first_reason}
use Rattle.sig_types.specs.Rules.{Rules}
use Rattle.sig_types.specs.Turns.{History, trace, is_green, is_on, turns_green_at, ends_at}
use Rattle.sig_guard.specs.Safety.{Sequence, Conflicting, Safe}
use Rattle.sig_guard.proofs.MovesKept.{EndedAt, found_end}
use Rattle.sig_guard.proofs.RedAmberRun.{StartedAt, green_after_intergreen}
use Rattle.sig_guard.proofs.SequenceKept.{green_is}
use Rattle.log_judge.specs.declared.breach.Breach.{Breach}
use Rattle.log_judge.specs.declared.breach.Breach.TheVariants.{Hidden}
use Rattle.log_judge.specs.declared.find.Terms.{Terms}
use Rattle.log_judge.specs.declared.opening.Latest.{Latest}
use Rattle.log_judge.specs.declared.opening.Opening.{Opening}
use Rattle.log_judge.specs.Past.{first_over, first_green}
use Rattle.log_judge.specs.Breaches.{is_red_amber, latest_green, due_green, opening_of}
use Rattle.log_judge.specs.Opening.{is_amber, shown_first, left_of, ended_before, lacks, green_before, green_behind, soon_after, needed, too_soon_after, soon_before, soon_behind, is_behind, hidden_breach}
use Rattle.log_judge.proofs.NoneSafe.{is_or_not}
use Rattle.log_judge.proofs.Openings.{IsOver, is_over, first_turn, FirstRun, first_run, left_is, amber_is}
use Rattle.log_judge.proofs.Parts.{IsPart, moved, none_if, not_green, red_amber_is, conflicting, start_of}
use Rattle.log_judge.proofs.Tests.{none_when}

-- Intergreens of at least the red-amber are kept too, since no start comes before an end.
abbrev longest : Option ℕ → ℕ → Option ℕ
longest None ra = None
longest (Some z) ra = Some (max z ra)

abbrev longer : Rules → Rules
longer r = record {
  count = r.count;
  red_amber = r.red_amber;
  amber = r.amber;
  minimum_green = r.minimum_green;
  minimum_red = r.minimum_red;
  between = λ c e. longest (r.between c e) (r.red_amber e);
}

listed_of : (o : Option ℕ) (ra z : ℕ) → longest o ra ≡ Some z → (y : ℕ) × ((o ≡ Some y) × (z ≡ max y ra))
listed_of None ra z h = absurd (cc)
listed_of (Some y) ra z h = (y, (refl, (let same : max y ra ≡ z = cc in sym same)))

safe_longer : (r : Rules) (h : History) → Safe r h → Safe (longer r) h
safe_longer r h safe = record {
  sequence = safe.sequence;
  min_green = safe.min_green;
  min_red = safe.min_red;
  conflict = λ c e z pair. (
      let from = listed_of (r.between c e) (r.red_amber e) z pair.listed in
      safe.conflict c e from.0 (record { clearing_of_site = pair.clearing_of_site; entering_of_site = pair.entering_of_site; listed = from.1.0 }));
  intergreen = λ c e z pair end start ends starts le lt. (
      let from = listed_of (r.between c e) (r.red_amber e) z pair.listed in
      let far = safe.intergreen c e from.0 (record { clearing_of_site = pair.clearing_of_site; entering_of_site = pair.entering_of_site; listed = from.1.0 })
      end start ends starts le lt in
      omega (arith, far, from.1.1, le));
}

waited : (r : Rules) (h : History) (i g z b u : ℕ) → Safe r h → Conflicting r i g z → turns_green_at (trace h g) u ≡ true → u < length h →
    ends_at (trace h i) b ≡ true → b ≤ u → b + max z (r.red_amber g) ≤ u
waited r h i g z b u safe pair turns in_time ends le =
    green_after_intergreen (longer r) h (safe_longer r h safe) i g (max z (r.red_amber g)) b u
    (record {
      clearing_of_site = pair.clearing_of_site;
      entering_of_site = pair.entering_of_site;
      listed = ap (λ (o : Option ℕ). longest o (r.red_amber g)) pair.listed;
    }) turns in_time ends le

-- a green from one second on up to before another
record Ran (a : ℕ → Aspect) (from to : ℕ) : Type 0 where
  turns : turns_green_at a from ≡ true
  some : from < to
  green : (u : ℕ) → from ≤ u → u < to → a u ≡ Green

found_green : (ra am : ℕ) (a : ℕ → Aspect) (n t : ℕ) → Sequence ra am a n → t < n → a t ≡ Green → (u : ℕ) × Ran a u (suc t)
found_green ra am a n zero kept lt is = absurd (let bad : Red ≡ Green = sym kept.begins_red ∙ is in cc)
found_green ra am a n (suc t) kept lt is =
    go (λ (green : a t ≡ Green). found_green ra am a n t kept (omega (arith, lt)) green) (is_or_not Green (a t))
  where
    go : (a t ≡ Green → (u : ℕ) × Ran a u (suc t)) → ((a t ≡ Green) ⊎ (a t ≡ Green → ⊥)) → (u : ℕ) × Ran a u (suc (suc t))
    go rest (inl was) = (let old = rest was in (
      old.0,
      record {
        turns = old.1.turns;
        some = omega (arith, old.1.some);
        green = λ u lo hi. elim (cases_eq u (suc t)) [
          | inl now ↦ ap a now ∙ is
          | inr ne ↦ old.1.green u lo (omega (arith, hi, ne))
        ];
      },
    ))
    go rest (inr was) = (
      suc t,
      record {
        turns = and_from (not (is_green (a t))) (is_green (a (suc t))) (not_green (a t) was) (ap is_green is);
        some = omega arith;
        green = λ u lo hi. (let now : u ≡ suc t = omega (arith, lo, hi) in ap a now ∙ is);
      },
    )

-- a green ends in the second after its last
ends_behind : (a : ℕ → Aspect) (u : ℕ) → a u ≡ Green → (a (suc u) ≡ Green → ⊥) → ends_at a (suc u) ≡ true
ends_behind a u green over = and_from (is_green (a u)) (not (is_green (a (suc u)))) (ap is_green green) (not_green (a (suc u)) over)

was_green : (a : ℕ → Aspect) (u : ℕ) → ends_at a (suc u) ≡ true → a u ≡ Green
was_green a u ends = green_is (a u) (and_parts (is_green (a u)) (not (is_green (a (suc u)))) ends).0

-- two groups in conflict are not green at a time
apart : (r : Rules) (h : History) (i g z from to from' to' : ℕ) → Safe r h → Conflicting r i g z → Ran (trace h i) from to → Ran (trace h g) from' to' →
    from < to' → from' < to → to ≤ length h → ⊥
apart r h i g z from to from' to' safe pair ran ran' lt lt' le = elim (cases_lt from from') [
  | inl later ↦ safe.conflict i g z pair from' (omega (arith, lt', le))
      (ap is_on (ran.green from' (omega (arith, later)) lt')) (ap is_on (ran'.green from' (omega arith) ran'.some))
  | inr before ↦ safe.conflict i g z pair from (omega (arith, ran.some, le))
      (ap is_on (ran.green from (omega arith) ran.some)) (ap is_on (ran'.green from before lt))
]

-- A group that is amber in the part's first second: it ended in second b of the history, after a green from second u on.
record AmberFirst (r : Rules) (k : Terms) (part h : History) (o g m b u : ℕ) : Type 0 where
  ends : ends_at (trace h g) b ≡ true
  ended : b ≤ o
  ran : Ran (trace h g) u b
  near : (e : ℕ) → ended_before (r.amber g + k.tolerance) (opening_of r k (trace part g) g m) (suc m) ≡ Some e → o ≤ b + e
  early : u + (max (r.minimum_green g) 1 + lacks (r.amber g - k.tolerance) (first_over (trace part g) m)) ≤ o

amber_first : (r : Rules) (k : Terms) (part h : History) (o g m : ℕ) → Safe r h → IsPart k part h o → g < r.count → m < length part →
    trace part g 0 ≡ Amber → (b : ℕ) × ((u : ℕ) × AmberFirst r k part h o g m b u)
amber_first r k part h o g m safe is lt in_time first = go end.0 end.1.ends end.1.later end.1.le end.1.stays
  where
    zero_second : o + 0 ≡ o
    zero_second = omega arith

    kept : Sequence (r.red_amber g) (r.amber g) (trace h g) (length h)
    kept = safe.sequence g lt

    at_first : trace h g o ≡ Amber
    at_first = rw zero_second at (moved k part h o g 0 is (omega (arith, in_time)) Amber first)

    end : (b : ℕ) × EndedAt (trace h g) o b
    end = found_end (r.red_amber g) (r.amber g) (trace h g) (length h) o kept (omega (arith, in_time, is.fits)) at_first

    run : FirstRun (trace part g) m (shown_first (first_over (trace part g) m) (suc m))
    run = first_run (trace part g) m

    -- what it shows in the first seconds of the part it shows in the history
    still : (n j : ℕ) → FirstRun (trace part g) m n → o ≤ j → j < o + n → trace h g j ≡ Amber
    still n j shown lo hi =
        let inside : o + (j - o) ≡ j = omega (arith, lo) in
        rw inside at (moved k part h o g (j - o) is (omega (arith, lo, hi, shown.at_most, in_time)) Amber (shown.stays (j - o) (omega (arith, lo, hi)) ∙ first))

    go : (b : ℕ) → ends_at (trace h g) b ≡ true → 1 ≤ b → b ≤ o → ((j : ℕ) → b ≤ j → j ≤ o → trace h g j ≡ Amber) →
        (b : ℕ) × ((u : ℕ) × AmberFirst r k part h o g m b u)
    go zero ends one le stays = absurd (omega (arith, one))
    go (suc w) ends one le stays =
        let green = found_green (r.red_amber g) (r.amber g) (trace h g) (length h) w kept (omega (arith, le, in_time, is.fits)) (was_green (trace h g) w ends) in
        let u = green.0 in
        let least : u + r.minimum_green g ≤ suc w = safe.min_green g lt u (suc w) green.1.turns ends green.1.some (omega (arith, le, in_time, is.fits)) green.1.green in (
          suc w,
          (
            u,
            record {
              ends = ends;
              ended = le;
              ran = green.1;
              near = λ e some. near_of e (is_amber (trace part g 0)) some;
              early = early_of (first_over (trace part g) m) refl u least green.1.some;
            },
          ),
        )
      where
        near_of : (e : ℕ) (c : Bool) → (if c then left_of (r.amber g + k.tolerance) (shown_first (first_over (trace part g) m) (suc m)) else None) ≡ Some e →
            o ≤ suc w + e
        near_of e false some = absurd (cc)
        near_of e true some =
            let n = shown_first (first_over (trace part g) m) (suc m) in
            let sum : n + e ≡ r.amber g + k.tolerance = left_is (r.amber g + k.tolerance) n e some in
            elim (cases_lt (suc w + r.amber g) (o + n)) [
              | inr long ↦ omega (arith, sum, long)
              | inl short ↦ absurd (
                  let red : trace h g (suc w + r.amber g) ≡ Red = kept.then_red (suc w) one ends (omega (arith, short, run.at_most, in_time, is.fits)) in
                  let amber : trace h g (suc w + r.amber g) ≡ Amber = elim (cases_lt o (suc w + r.amber g)) [
                    | inl behind ↦ still n (suc w + r.amber g) run (omega (arith, behind)) short
                    | inr before ↦ stays (suc w + r.amber g) (omega arith) before
                  ] in
                  let bad : Red ≡ Amber = sym red ∙ amber in
                  cc)
            ]

        early_of : (over : Option ℕ) → first_over (trace part g) m ≡ over → (u : ℕ) → u + r.minimum_green g ≤ suc w → u < suc w →
            u + (max (r.minimum_green g) 1 + lacks (r.amber g - k.tolerance) over) ≤ o
        early_of None e u least some = omega (arith, least, some, le)
        early_of (Some over) e u least some =
            let other : IsOver (trace part g) m over = is_over (trace part g) m over e in
            let full : suc w + r.amber g ≤ o + over = elim (cases_lt (o + over) (suc w + r.amber g)) [
              | inr long ↦ long
              | inl short ↦ absurd (
                  let amber : trace h g (o + over) ≡ Amber = kept.amber_lasts (suc w) (o + over) one ends (omega (arith, le)) short
                  (omega (arith, other.at_most, in_time, is.fits)) in
                  other.other (is.shows g over (omega (arith, other.at_most, in_time)) ∙ amber ∙ sym first))
            ] in
            omega (arith, least, some, le, full)

-- A group that is green in it: since second u of the history.
record GreenFirst (r : Rules) (part h : History) (o g m u : ℕ) : Type 0 where
  ran : Ran (trace h g) u (suc o)
  early : u + lacks (r.minimum_green g) (first_over (trace part g) m) ≤ o

green_first : (r : Rules) (k : Terms) (part h : History) (o g m : ℕ) → Safe r h → IsPart k part h o → g < r.count → m < length part →
    trace part g 0 ≡ Green → (u : ℕ) × GreenFirst r part h o g m u
green_first r k part h o g m safe is lt in_time first =
    (green.0, record { ran = green.1; early = early_of (first_over (trace part g) m) refl })
  where
    zero_second : o + 0 ≡ o
    zero_second = omega arith

    at_first : trace h g o ≡ Green
    at_first = rw zero_second at (moved k part h o g 0 is (omega (arith, in_time)) Green first)

    green : (u : ℕ) × Ran (trace h g) u (suc o)
    green = found_green (r.red_amber g) (r.amber g) (trace h g) (length h) o (safe.sequence g lt) (omega (arith, in_time, is.fits)) at_first

    shows_green : (over j : ℕ) → IsOver (trace part g) m over → green.0 ≤ j → j < o + over → trace h g j ≡ Green
    shows_green over j other lo hi = elim (cases_lt o j) [
      | inr before ↦ green.1.green j lo (omega (arith, before))
      | inl behind ↦ (
          let inside : o + (j - o) ≡ j = omega (arith, behind) in
          rw inside at (moved k part h o g (j - o) is (omega (arith, behind, hi, other.at_most, in_time)) Green
          (other.stays (j - o) (omega (arith, behind, hi)) ∙ first)))
    ]

    early_of : (over : Option ℕ) → first_over (trace part g) m ≡ over → green.0 + lacks (r.minimum_green g) over ≤ o
    early_of None e = omega (arith, green.1.some)
    early_of (Some zero) e = (let other = is_over (trace part g) m 0 e in absurd (omega (arith, other.later)))
    early_of (Some (suc v)) e =
        let other : IsOver (trace part g) m (suc v) = is_over (trace part g) m (suc v) e in
        let next : o + suc v ≡ suc (o + v) = omega arith in
        let last : trace h g (o + v) ≡ Green = shows_green (suc v) (o + v) other (omega (arith, green.1.some)) (omega arith) in
        let off : trace h g (suc (o + v)) ≡ Green → ⊥ = λ at. other.other (is.shows g (suc v) (omega (arith, other.at_most, in_time)) ∙ ap (trace h g) next ∙ at ∙ sym first) in
        let least = safe.min_green g lt green.0 (suc (o + v)) green.1.turns (ends_behind (trace h g) (o + v) last off) (omega (arith, green.1.some))
        (omega (arith, other.at_most, in_time, is.fits)) (λ j lo hi. shows_green (suc v) j other lo (omega (arith, hi))) in
        omega (arith, least, green.1.some)

-- tests that find none
none_soon_after : (g i least : ℕ) (green : Option Latest) (ended : Option ℕ) →
    ((x : Latest) (e : ℕ) → green ≡ Some x → ended ≡ Some e → least + x.before ≤ x.second + e) → soon_after g i least green ended ≡ None
none_soon_after g i least None ended kept = refl
none_soon_after g i least (Some x) None kept = refl
none_soon_after g i least (Some x) (Some e) kept =
    none_when (nat_lt (x.second + e) (least + x.before)) (Hidden x.second (record { 0 = g }) (record { 0 = i }) e x.before least)
    (le-ltb (x.second + e) (least + x.before) (kept x e refl refl))

none_too_soon_after : (r : Rules) (k : Terms) (g i t : ℕ) (green : Option Latest) (y : Opening) (between : Option ℕ) →
    ((z : ℕ) (x : Latest) (e : ℕ) → between ≡ Some z → green ≡ Some x → ended_before (r.amber i + k.tolerance) y t ≡ Some e →
    needed r k g z + x.before ≤ x.second + e) → too_soon_after r k g i t green y between ≡ None
none_too_soon_after r k g i t green y None kept = refl
none_too_soon_after r k g i t green y (Some z) kept =
    none_soon_after g i (needed r k g z) green (ended_before (r.amber i + k.tolerance) y t) (λ x e is ended. kept z x e refl is ended)

-- an end before second 0 is that of a group that is amber first
amber_ended : (most t : ℕ) (x : Opening) (e : ℕ) → ended_before most x t ≡ Some e → x.first ≡ Amber
amber_ended most t x e some = go (is_amber x.first) refl some
  where
    go : (b : Bool) → is_amber x.first ≡ b → (if b then left_of most (shown_first x.over t) else None) ≡ Some e → x.first ≡ Amber
    go true is h = amber_is x.first is
    go false is h = absurd (cc)

none_both : (b c : Option Breach) → b ≡ None → c ≡ None → first_reason (b ∷ c ∷ []) ≡ None
none_both b c h h' = rw (h, h') refl

abbrev at_second : ℕ → ℕ → Latest
at_second second before = record { second = second; before = before }

green_behind_is : (green due : Option ℕ) (x : Latest) → green_behind green due ≡ Some x →
    (x.before ≡ 0) × ((green ≡ Some x.second) ⊎ (due ≡ Some x.second))
green_behind_is (Some t) due x e =
    (let same : at_second t 0 ≡ x = cc in (sym (ap (λ (y : Latest). y.before) same), inl (ap (λ (y : Latest). Some y.second) same)))
green_behind_is None (Some t) x e =
    (let same : at_second t 0 ≡ x = cc in (sym (ap (λ (y : Latest). y.before) same), inr (ap (λ (y : Latest). Some y.second) same)))
green_behind_is None None x e = absurd (cc)

green_is_before : (minimum amber : ℕ) (over : Option ℕ) (w : Aspect) (x : Latest) → w ≡ Green → green_before minimum amber over w ≡ Some x →
    (x.second ≡ 0) × (x.before ≡ lacks minimum over)
green_is_before minimum amber over w x is e =
    let same : at_second 0 (lacks minimum over) ≡ x = (let here : Some (at_second 0 (lacks minimum over)) ≡ Some x = rw is at e in cc) in
    (sym (ap (λ (y : Latest). y.second) same), sym (ap (λ (y : Latest). y.before) same))

amber_is_before : (minimum amber : ℕ) (over : Option ℕ) (w : Aspect) (x : Latest) → w ≡ Amber → green_before minimum amber over w ≡ Some x →
    (x.second ≡ 0) × (x.before ≡ max minimum 1 + lacks amber over)
amber_is_before minimum amber over w x is e =
    let same : at_second 0 (max minimum 1 + lacks amber over) ≡ x =
    (let here : Some (at_second 0 (max minimum 1 + lacks amber over)) ≡ Some x = rw is at e in cc) in
    (sym (ap (λ (y : Latest). y.second) same), sym (ap (λ (y : Latest). y.before) same))

due_is : (r : Rules) (k : Terms) (a : ℕ → Aspect) (g m t : ℕ) → due_green r k a g m ≡ Some t → (is_red_amber (a m) ≡ true) × (latest_green r k a g m ≡ t)
due_is r k a g m t e = go (is_red_amber (a m)) refl e
  where
    go : (b : Bool) → is_red_amber (a m) ≡ b → (if b then Some (latest_green r k a g m) else None) ≡ Some t → (is_red_amber (a m) ≡ true) × (latest_green r k a g m ≡ t)
    go true is h = (is, (let same : latest_green r k a g m ≡ t = cc in same))
    go false is h = absurd (cc)

-- a turn to green of the part is one of the history
turned_in : (k : Terms) (part h : History) (o g t : ℕ) → IsPart k part h o → t < length part → turns_green_at (trace part g) t ≡ true →
    turns_green_at (trace h g) (o + t) ≡ true
turned_in k part h o g zero is lt turns = absurd (cc)
turned_in k part h o g (suc v) is lt turns =
    let parts = and_parts (not (is_green (trace part g v))) (is_green (trace part g (suc v))) turns in
    let next : o + suc v ≡ suc (o + v) = omega arith in
    let was : trace part g v ≡ trace h g (o + v) = is.shows g v (omega (arith, lt)) in
    let now : trace part g (suc v) ≡ trace h g (suc (o + v)) = is.shows g (suc v) lt ∙ ap (trace h g) next in
    rw next (and_from (not (is_green (trace h g (o + v)))) (is_green (trace h g (suc (o + v))))
    (ap (λ (x : Aspect). not (is_green x)) (sym was) ∙ parts.0) (ap is_green (sym now) ∙ parts.1))

-- the first green behind the part's first second
behind_none : (r : Rules) (k : Terms) (part h : History) (o g i m : ℕ) → Safe r h → IsPart k part h o → g < r.count → i < r.count → m < length part →
    soon_behind r k g i (suc m) (opening_of r k (trace part g) g m) (opening_of r k (trace part i) i m) ≡ None
behind_none r k part h o g i m safe is lt lt' in_time =
    none_too_soon_after r k g i (suc m) (green_behind (first_green (trace part g) m) (due_green r k (trace part g) g m)) (opening_of r k (trace part i) i m)
    (r.between i g) kept
  where
    both_on : (b s z : ℕ) → Conflicting r i g z → ends_at (trace h i) b ≡ true → StartedAt (trace h g) (o + m) s → s < b → b ≤ o → ⊥
    both_on zero s z pair ends found lo hi = omega (arith, lo)
    both_on (suc w) s z pair ends found lo hi =
        safe.conflict i g z pair w (omega (arith, hi, in_time, is.fits)) (ap is_on (was_green (trace h i) w ends))
        (ap is_on (found.stays w (omega (arith, lo)) (omega (arith, hi))))

    kept : (z : ℕ) (x : Latest) (e : ℕ) → r.between i g ≡ Some z → green_behind (first_green (trace part g) m) (due_green r k (trace part g) g m) ≡ Some x →
        ended_before (r.amber i + k.tolerance) (opening_of r k (trace part i) i m) (suc m) ≡ Some e → needed r k g z + x.before ≤ x.second + e
    kept z x e between green ended =
        let pair : Conflicting r i g z = conflicting r i g z lt' lt between in
        let amber = amber_ended (r.amber i + k.tolerance) (suc m) (opening_of r k (trace part i) i m) e ended in
        let first = amber_first r k part h o i m safe is lt' in_time amber in
        let near = first.1.1.near e ended in
        let early = first.1.1.ended in
        let which = green_behind_is (first_green (trace part g) m) (due_green r k (trace part g) g m) x green in
        let none_before = which.0 in
        elim which.1 [
          | inl shown ↦ (
              let turn = first_turn (trace part g) m x.second shown in
              let inside = turn.0 in
              let far = waited r h i g z first.0 (o + x.second) safe pair (turned_in k part h o g x.second is (omega (arith, inside, in_time)) turn.1)
              (omega (arith, inside, in_time, is.fits)) first.1.1.ends (omega (arith, early)) in
              omega (arith, far, near, none_before))
          | inr due ↦ (
              let at = due_is r k (trace part g) g m x.second due in
              let start = start_of r k part h o g m safe is lt in_time (red_amber_is (trace part g m) at.0) in
              let before = start.1.before in
              let latest = at.1 in
              elim (cases_lt start.0 first.0) [
                | inl late ↦ absurd (both_on first.0 start.0 z pair first.1.1.ends start.1.found late early)
                | inr soon ↦ (
                    let far = (safe_longer r h safe).intergreen i g (max z (r.red_amber g)) (record {
                      clearing_of_site = lt';
                      entering_of_site = lt;
                      listed = ap (λ (p : Option ℕ). longest p (r.red_amber g)) between;
                    }) first.0 start.0 first.1.1.ends start.1.found.starts soon (let le = start.1.found.le in omega (arith, le, in_time, is.fits)) in
                    omega (arith, far, near, none_before, before, latest))
              ])
        ]

-- the green before it, where it comes after the end
after_none : (r : Rules) (k : Terms) (part h : History) (o g i m b v u : ℕ) → Safe r h → IsPart k part h o → g < r.count → i < r.count → m < length part →
    AmberFirst r k part h o i m b v → turns_green_at (trace h g) u ≡ true → ((z : ℕ) → r.between i g ≡ Some z → b ≤ u) →
    ((x : Latest) → green_before (r.minimum_green g) (r.amber g - k.tolerance) (first_over (trace part g) m) (trace part g 0) ≡ Some x →
    (x.second ≡ 0) × (u + x.before ≤ o)) →
    soon_before r k g i (suc m) (opening_of r k (trace part g) g m) (opening_of r k (trace part i) i m) ≡ None
after_none r k part h o g i m b v u safe is lt lt' in_time end turns after place =
    none_too_soon_after r k g i (suc m) (green_before (r.minimum_green g) (r.amber g - k.tolerance) (first_over (trace part g) m) (trace part g 0))
    (opening_of r k (trace part i) i m) (r.between i g) (λ z x e between green ended. (
    let early = place x green in
    let at = early.0 in
    let long = early.1 in
    let near = end.near e ended in
    let far = waited r h i g z b u safe (conflicting r i g z lt' lt between) turns (omega (arith, long, in_time, is.fits)) end.ends (after z between) in
    omega (arith, far, near, long, at)))

unended_none : (r : Rules) (k : Terms) (g i t : ℕ) (green : Option Latest) (y : Opening) (between : Option ℕ) → (y.first ≡ Amber → ⊥) →
    too_soon_after r k g i t green y between ≡ None
unended_none r k g i t green y between other =
    none_too_soon_after r k g i t green y between (λ z x e pair is ended. absurd (other (amber_ended (r.amber i + k.tolerance) t y e ended)))

unbegun_none : (r : Rules) (k : Terms) (g i t : ℕ) (green : Option Latest) (y : Opening) (between : Option ℕ) → green ≡ None →
    too_soon_after r k g i t green y between ≡ None
unbegun_none r k g i t green y between none =
    none_too_soon_after r k g i t green y between (λ z x e pair is ended. absurd (let bad : None ≡ Some x = sym none ∙ is in cc))

before_none : (r : Rules) (k : Terms) (part h : History) (o g i m : ℕ) → Safe r h → IsPart k part h o → g < r.count → i < r.count → m < length part →
    is_behind r k g i (suc m) (opening_of r k (trace part g) g m) (opening_of r k (trace part i) i m) ≡ true →
    soon_before r k g i (suc m) (opening_of r k (trace part g) g m) (opening_of r k (trace part i) i m) ≡ None
before_none r k part h o g i m safe is lt lt' in_time behind = elim (is_or_not Amber (trace part i 0)) [
  | inr other ↦ unended_none r k g i (suc m) (green_before (r.minimum_green g) (r.amber g - k.tolerance) (first_over (trace part g) m) (trace part g 0))
      (opening_of r k (trace part i) i m) (r.between i g) other
  | inl amber ↦ (let end = amber_first r k part h o i m safe is lt' in_time amber in by_aspect amber end.0 end.1.0 end.1.1 (trace part g 0) refl)
]
  where
    nothing : (w : Aspect) → trace part g 0 ≡ w → green_before (r.minimum_green g) (r.amber g - k.tolerance) (first_over (trace part g) m) w ≡ None →
        soon_before r k g i (suc m) (opening_of r k (trace part g) g m) (opening_of r k (trace part i) i m) ≡ None
    nothing w first none =
        unbegun_none r k g i (suc m) (green_before (r.minimum_green g) (r.amber g - k.tolerance) (first_over (trace part g) m) (trace part g 0))
        (opening_of r k (trace part i) i m) (r.between i g)
        (ap (λ (x : Aspect). green_before (r.minimum_green g) (r.amber g - k.tolerance) (first_over (trace part g) m) x) first ∙ none)

    other_way : (c : Bool) → is_amber (trace part g 0) ≡ c → c ≡ true →
        (if c then nat_lt g i && is_some (soon_before r k i g (suc m) (opening_of r k (trace part i) i m) (opening_of r k (trace part g) g m)) else true) ≡ true →
        is_some (soon_before r k i g (suc m) (opening_of r k (trace part i) i m) (opening_of r k (trace part g) g m)) ≡ true
    other_way false is amber h = absurd (cc)
    other_way true is amber h =
        (and_parts (nat_lt g i) (is_some (soon_before r k i g (suc m) (opening_of r k (trace part i) i m) (opening_of r k (trace part g) g m))) h).1

    some_none : (b : Option Breach) → is_some b ≡ true → b ≡ None → ⊥
    some_none b some none = (let bad : false ≡ true = rw none at some in cc)

    by_aspect : trace part i 0 ≡ Amber → (b v : ℕ) → AmberFirst r k part h o i m b v → (w : Aspect) → trace part g 0 ≡ w →
        soon_before r k g i (suc m) (opening_of r k (trace part g) g m) (opening_of r k (trace part i) i m) ≡ None
    by_aspect amber b v end Red first = nothing Red first refl
    by_aspect amber b v end RedAmber first = nothing RedAmber first refl
    by_aspect amber b v end Green first =
        let green = green_first r k part h o g m safe is lt in_time first in
        let early = end.ended in
        after_none r k part h o g i m b v green.0 safe is lt lt' in_time end green.1.ran.turns
        (λ z between. elim (cases_lt green.0 b) [
          | inr after ↦ after
          | inl before ↦ absurd (apart r h i g z v b green.0 (suc o) safe (conflicting r i g z lt' lt between) end.ran green.1.ran
              (omega (arith, end.ran.some, early)) before (omega (arith, early, in_time, is.fits)))
        ])
        (λ x is_x. (
        let at = green_is_before (r.minimum_green g) (r.amber g - k.tolerance) (first_over (trace part g) m) (trace part g 0) x first is_x in
        (at.0, omega (arith, at.1, green.1.early))))
    by_aspect amber b v end Amber first =
        let own = amber_first r k part h o g m safe is lt in_time first in
        let some = other_way (is_amber (trace part g 0)) refl (ap is_amber first) behind in
        let early = end.ended in
        after_none r k part h o g i m b v own.1.0 safe is lt lt' in_time end own.1.1.ran.turns
        (λ z between. elim (cases_lt own.1.0 b) [
          | inr after ↦ after
          | inl before ↦ elim (cases_lt v own.0) [
            | inl earlier ↦ absurd (apart r h i g z v b own.1.0 own.0 safe (conflicting r i g z lt' lt between) end.ran own.1.1.ran
                earlier before (omega (arith, early, in_time, is.fits)))
            | inr later ↦ absurd (some_none (soon_before r k i g (suc m) (opening_of r k (trace part i) i m) (opening_of r k (trace part g) g m)) some
                (after_none r k part h o i g m own.0 own.1.0 v safe is lt' lt in_time own.1.1 end.ran.turns (λ z' between'. later) (λ x is_x. (
                let at = amber_is_before (r.minimum_green i) (r.amber i - k.tolerance) (first_over (trace part i) m) (trace part i 0) x amber is_x in
                (at.0, omega (arith, at.1, end.early))))))
          ]
        ])
        (λ x is_x. (
        let at = amber_is_before (r.minimum_green g) (r.amber g - k.tolerance) (first_over (trace part g) m) (trace part g 0) x first is_x in
        (at.0, omega (arith, at.1, own.1.1.early))))

pub hidden_none : (r : Rules) (k : Terms) (part h : History) (o g i m : ℕ) → Safe r h → IsPart k part h o → g < r.count → i < r.count → m < length part →
    hidden_breach r k g i (suc m) (opening_of r k (trace part g) g m) (opening_of r k (trace part i) i m) ≡ None
hidden_none r k part h o g i m safe is lt lt' in_time = go k.rested
  where
    go : (rested : Bool) →
        (if rested then None
        else first_reason ((if is_behind r k g i (suc m) (opening_of r k (trace part g) g m) (opening_of r k (trace part i) i m)
        then soon_before r k g i (suc m) (opening_of r k (trace part g) g m) (opening_of r k (trace part i) i m) else None)
        ∷ soon_behind r k g i (suc m) (opening_of r k (trace part g) g m) (opening_of r k (trace part i) i m) ∷ [])) ≡ None
    go true = refl
    go false = none_both _ _
        (none_if (is_behind r k g i (suc m) (opening_of r k (trace part g) g m) (opening_of r k (trace part i) i m))
        (soon_before r k g i (suc m) (opening_of r k (trace part g) g m) (opening_of r k (trace part i) i m))
        (λ behind. before_none r k part h o g i m safe is lt lt' in_time behind))
        (behind_none r k part h o g i m safe is lt lt' in_time)
