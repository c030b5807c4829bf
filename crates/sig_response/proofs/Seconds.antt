-- What a group shows in one second more of the guard.
use Rattle.std.proofs.Common.{◌≡◌, ℕ, suc, ◌+◌, ◌<◌, ◌≤◌, Bool, true, false, not, ◌&&◌, ◌⊎◌, Option, Some, None, is_none, is_some, refl, arith, sym, inl, inr, ap, ◌∙◌, if◌then◌else◌, List, [], ◌∷◌, ◌++◌, length, slice_index_or, nat_lt}
use Rattle.std.proofs.lemmas.Bool.{cases_Bool, cases_eq, cases_lt, and_from, and_left, and_right, le-ltb}
use Rattle.sig_types.specs.declared.aspect.Aspect.{Aspect}
use Rattle.sig_types.specs.declared.aspect.Aspect.TheVariants.{Red, RedAmber, Green, Amber}
use Rattle.sig_types.specs.Turns.{History, shown, trace, is_red, is_green, is_on, ends_at}
use Rattle.sig_types.specs.Rules.{Rules}
use Rattle.sig_guard.specs.Step.{last, is_green_short, is_red_short, is_in_conflict, is_uncleared, aspect_at_start, aspect_at_end, natural, shows_by_nature, natural_picture, ends_below, starts_below, wants_end, wants_start, start_breach}
use Rattle.sig_types.proofs.LastBelow.{least_below-never, last_below-never}
use Rattle.sig_guard.proofs.Agree.{AgreeBelow, ends_at-agree}
use Rattle.sig_guard.proofs.Pictures.{trace-append_old, trace-append_new, ends_here, starts_here, ends_below-shown, ends_below-length, starts_below-before, starts_below-shown}
use Rattle.sig_guard.proofs.MachineLemmas.{end_breach_none, start_breach_none}
use Rattle.sig_guard.proofs.StepKept.{Making, natural_picture-size, natural_picture-shown, on_started, off_ended}
use Rattle.sig_guard.proofs.SecondMore.{is_close, close_to_none}

pub on_cases : (x : Aspect) → is_on x ≡ true → (x ≡ RedAmber) ⊎ (x ≡ Green)
on_cases Red h = absurd (cc)
on_cases RedAmber h = inl refl
on_cases Green h = inr refl
on_cases Amber h = absurd (cc)

pub off_cases : (x : Aspect) → is_on x ≡ false → (x ≡ Red) ⊎ (x ≡ Amber)
off_cases Red h = inl refl
off_cases RedAmber h = absurd (cc)
off_cases Green h = absurd (cc)
off_cases Amber h = inr refl

pub on_and_off : (x : Aspect) → is_on x ≡ true → is_on x ≡ false → ⊥
on_and_off x on off = cc

natural_off : (b c : Bool) (x : Aspect) → is_on x ≡ false → is_on (natural b c x) ≡ false
natural_off b c Red h = refl
natural_off b c RedAmber h = absurd (cc)
natural_off b c Green h = absurd (cc)
natural_off b true Amber h = refl
natural_off b false Amber h = refl

natural_on : (b c : Bool) (x : Aspect) → is_on x ≡ true → is_on (natural b c x) ≡ true
natural_on b c Red h = absurd (cc)
natural_on true c RedAmber h = refl
natural_on false c RedAmber h = refl
natural_on b c Green h = refl
natural_on b c Amber h = absurd (cc)

-- what the group g shows in the second that is made: by a start, by an end, or by nature
inside : (r : Rules) (h : History) (g : ℕ) → Making r h → g < r.count → g < length (natural_picture r h)
inside r h g making lt = omega (arith, natural_picture-size r h making, lt)

ends_inside : (r : Rules) (h : History) (w : List Bool) (g : ℕ) → Making r h → g < r.count → g < length (ends_below r h w r.count).picture
ends_inside r h w g making lt = omega (arith, ends_below-length r h w r.count, making.size, lt)

pub natural_is : (r : Rules) (h : History) (g : ℕ) → Making r h → g < r.count →
    shown (natural_picture r h) g ≡ shows_by_nature r h g
natural_is r h g making lt = natural_picture-shown r h g making lt

pub ended_is : (r : Rules) (h : History) (w : List Bool) (g : ℕ) → Making r h → g < r.count →
    shown (ends_below r h w r.count).picture g ≡ (if ends_here r h w g then aspect_at_end (r.amber g) else shown (natural_picture r h) g)
ended_is r h w g making lt = ends_below-shown r h w r.count g lt (inside r h g making lt)

pub unstarted : (r : Rules) (h : History) (w : List Bool) (k g : ℕ) → Making r h → g < r.count →
    starts_here r h w g ≡ false → shown (starts_below r h w k).picture g ≡ shown (ends_below r h w r.count).picture g
unstarted r h w k g making lt is = elim (cases_lt g k) [
  | inl below ↦ (let shows = starts_below-shown r h w k g below (ends_inside r h w g making lt) in rw is at shows)
  | inr above ↦ starts_below-before r h w k g above
]

pub started : (r : Rules) (h : History) (w : List Bool) (g : ℕ) → Making r h → g < r.count →
    starts_here r h w g ≡ true → shown (starts_below r h w r.count).picture g ≡ aspect_at_start (r.red_amber g)
started r h w g making lt is = (let shows = starts_below-shown r h w r.count g lt (ends_inside r h w g making lt) in rw is at shows)

-- no turn is wished
no_start_wished : (r : Rules) (h : History) (w : List Bool) (g : ℕ) → slice_index_or w g false ≡ false → starts_here r h w g ≡ false
unfolding starts_here
no_start_wished r h w g red = and_left _ _ (and_right _ _ red)

no_end_wished : (r : Rules) (h : History) (w : List Bool) (g : ℕ) → slice_index_or w g false ≡ true → ends_here r h w g ≡ false
unfolding ends_here
no_end_wished r h w g green = and_left _ _ (and_right _ _ (ap not green))

-- a group of which red is wished, and that is off, stays off
pub off_stays : (r : Rules) (h : History) (w : List Bool) (g : ℕ) → Making r h → g < r.count → slice_index_or w g false ≡ false →
    is_on (trace h g (last h)) ≡ false → is_on (shown (starts_below r h w r.count).picture g) ≡ false
off_stays r h w g making lt red off =
    ap is_on (unstarted r h w r.count g making lt (no_start_wished r h w g red) ∙ ended_is r h w g making lt) ∙ go (ends_here r h w g)
  where
    go : (b : Bool) → is_on (if b then aspect_at_end (r.amber g) else shown (natural_picture r h) g) ≡ false
    go true = off_ended (r.amber g)
    go false = ap is_on (natural_is r h g making lt) ∙ natural_off _ _ (trace h g (last h)) off

-- a group of which green is wished, and that is on, stays on
pub on_stays : (r : Rules) (h : History) (w : List Bool) (g : ℕ) → Making r h → g < r.count → slice_index_or w g false ≡ true →
    is_on (trace h g (last h)) ≡ true → is_on (shown (starts_below r h w r.count).picture g) ≡ true
on_stays r h w g making lt green on = go (starts_here r h w g) refl
  where
    ends : shown (ends_below r h w r.count).picture g ≡ shown (natural_picture r h) g
    ends = (let shows = ended_is r h w g making lt in rw (no_end_wished r h w g green) at shows)

    go : (b : Bool) → starts_here r h w g ≡ b → is_on (shown (starts_below r h w r.count).picture g) ≡ true
    go true is = ap is_on (started r h w g making lt is) ∙ on_started (r.red_amber g)
    go false is = ap is_on (unstarted r h w r.count g making lt is ∙ ends ∙ natural_is r h g making lt)
        ∙ natural_on _ _ (trace h g (last h)) on

-- a green that is long enough ends where red is wished
pub green_ends : (r : Rules) (h : History) (w : List Bool) (g : ℕ) → Making r h → g < r.count → slice_index_or w g false ≡ false →
    trace h g (last h) ≡ Green → is_green_short r h g ≡ false → is_on (shown (starts_below r h w r.count).picture g) ≡ false
unfolding ends_here
green_ends r h w g making lt red green long =
    ap is_on (unstarted r h w r.count g making lt (no_start_wished r h w g red) ∙ (rw ends at (ended_is r h w g making lt))) ∙ off_ended (r.amber g)
  where
    by_nature : shown (natural_picture r h) g ≡ Green
    by_nature = natural_is r h g making lt ∙ (rw green refl)

    wants : wants_end r h w g ≡ true
    wants = and_from _ _ (ap is_on by_nature) (ap not red)

    ends : ends_here r h w g ≡ true
    ends = and_from _ _ wants (ap is_none (sym (end_breach_none r h g (ap is_green green) long)))

-- what a group of which red is wished shows while the starts are decided, it shows in the end
pub red_wished_shows : (r : Rules) (h : History) (w : List Bool) (k i : ℕ) → Making r h → i < r.count → slice_index_or w i false ≡ false →
    shown (starts_below r h w k).picture i ≡ shown (starts_below r h w r.count).picture i
red_wished_shows r h w k i making lt red =
    unstarted r h w k i making lt (no_start_wished r h w i red) ∙ sym (unstarted r h w r.count i making lt (no_start_wished r h w i red))

-- what a start of g in the second that is made needs of group i: where they conflict, red is wished of i, it is off, and each of its
-- ends lies far enough back
pub record LeavesFree (r : Rules) (h : History) (w : List Bool) (g i z : ℕ) : Type 0 where
  pub red : slice_index_or w i false ≡ false
  pub off : is_on (shown (starts_below r h w r.count).picture i) ≡ false
  pub far : (b : ℕ) → b ≤ suc (last h) → ends_at (trace (h ++ (starts_below r h w r.count).picture ∷ []) i) b ≡ true → b + z ≤ suc (last h) + r.red_amber g

no_conflict : (r : Rules) (h : History) (w : List Bool) (g i : ℕ) (o : Option ℕ) → Making r h → i < r.count →
    ((z : ℕ) → o ≡ Some z → LeavesFree r h w g i z) → (is_some o && is_on (shown (starts_below r h w g).picture i)) ≡ false
no_conflict r h w g i None making lt free = refl
no_conflict r h w g i (Some z) making lt free =
    let f = free z refl in
    ap is_on (red_wished_shows r h w g i making lt f.red) ∙ f.off

cleared : (r : Rules) (h : History) (w : List Bool) (g i : ℕ) (o : Option ℕ) → Making r h → i < r.count →
    ((z : ℕ) → o ≡ Some z → LeavesFree r h w g i z) →
    is_close o (r.red_amber g) (suc (last h)) (trace (h ++ (starts_below r h w g).picture ∷ []) i) ≡ false
cleared r h w g i None making lt free = close_to_none (r.red_amber g) (suc (last h)) (trace (h ++ (starts_below r h w g).picture ∷ []) i)
cleared r h w g i (Some z) making lt free =
    ap is_some (last_below-never (λ b. ends_at (trace (h ++ (starts_below r h w g).picture ∷ []) i) b && nat_lt (suc (last h) + r.red_amber g) (b + z)) (suc (suc (last h))) never)
  where
    f : LeavesFree r h w g i z
    f = free z refl

    same : AgreeBelow (suc (suc (last h))) (trace (h ++ (starts_below r h w g).picture ∷ []) i) (trace (h ++ (starts_below r h w r.count).picture ∷ []) i)
    same = record {
      at = λ t lt'. elim (cases_eq t (suc (last h))) [
        | inl now ↦ rw now (trace-append_new h (starts_below r h w g).picture i (suc (last h)) making.len
            ∙ red_wished_shows r h w g i making lt f.red ∙ sym (trace-append_new h (starts_below r h w r.count).picture i (suc (last h)) making.len))
        | inr ne ↦ sym ((trace-append_old h (starts_below r h w g).picture i (suc (last h)) making.len).at t (omega arith))
            ∙ (trace-append_old h (starts_below r h w r.count).picture i (suc (last h)) making.len).at t (omega arith)
      ];
    }

    never : (b : ℕ) → b < suc (suc (last h)) → (ends_at (trace (h ++ (starts_below r h w g).picture ∷ []) i) b && nat_lt (suc (last h) + r.red_amber g) (b + z)) ≡ false
    never b lt' = elim (cases_Bool (ends_at (trace (h ++ (starts_below r h w g).picture ∷ []) i) b)) [
      | inl ends ↦ (let far = f.far b (omega arith) (sym (ends_at-agree (suc (suc (last h))) _ _ same b lt') ∙ ends) in
          and_right _ _ (le-ltb (suc (last h) + r.red_amber g) (b + z) far))
      | inr none ↦ and_left _ _ none
    ]

-- a red that is long enough starts where green is wished and each group in conflict leaves it free
pub red_starts : (r : Rules) (h : History) (w : List Bool) (g : ℕ) → Making r h → g < r.count → slice_index_or w g false ≡ true →
    trace h g (last h) ≡ Red → is_red_short r h g ≡ false → ((i z : ℕ) → i < r.count → r.between i g ≡ Some z → LeavesFree r h w g i z) →
    is_on (shown (starts_below r h w r.count).picture g) ≡ true
unfolding starts_here
red_starts r h w g making lt green red long free = ap is_on (started r h w g making lt starts) ∙ on_started (r.red_amber g)
  where
    by_nature : shown (natural_picture r h) g ≡ Red
    by_nature = natural_is r h g making lt ∙ (rw red refl)

    wants : wants_start r h w g ≡ true
    wants = and_from _ _ (ap (λ (x : Aspect). not (is_on x)) by_nature) green

    none : None ≡ start_breach r h (starts_below r h w g).picture g
    none = start_breach_none r h (starts_below r h w g).picture g (ap is_red red) long
        (least_below-never (is_in_conflict r (starts_below r h w g).picture g) r.count
        (λ i lt'. no_conflict r h w g i (r.between i g) making lt' (λ z is. free i z lt' is)))
        (least_below-never (is_uncleared r h (starts_below r h w g).picture g) r.count
        (λ i lt'. cleared r h w g i (r.between i g) making lt' (λ z is. free i z lt' is)))

    starts : starts_here r h w g ≡ true
    starts = and_from _ _ wants (ap is_none (sym none))
