-- The pictures of a run bear out each refused turn.
use Rattle.std.proofs.Common.{◌≡◌, ◌∙◌, ℕ, ◌<◌, Bool, true, false, ◌&&◌, Option, Some, None, is_none, IsSomeAnd, if◌then◌else◌, nat_le, List, length, refl, arith, sym, ap, inl, inr}
use Rattle.std.proofs.lemmas.Bool.{cases_lt, and_parts, and_from, not-true, le-leb, lt-leb}
use Rattle.sig_types.specs.declared.aspect.Aspect.{Aspect}
use Rattle.sig_types.specs.declared.aspect.Aspect.TheVariants.{Red, RedAmber, Green, Amber}
use Rattle.sig_types.specs.Turns.{Picture, History, shown, trace, is_red, is_on}
use Rattle.sig_types.specs.Rules.{Rules}
use Rattle.sig_types.proofs.Tabulated.{tabulate-is}
use Rattle.pua_model.specs.Plan.{group_number}
use Rattle.sig_guard.specs.Safety.{IsHistory}
use Rattle.sig_guard.specs.Step.{last, aspect_at_start, aspect_at_end, end_breach, start_breach, natural, shows_by_nature, natural_picture, ends_below, starts_below, wants_end, wants_start, guard_picture}
use Rattle.sig_guard.proofs.SequenceKept.{red_is}
use Rattle.sig_guard.proofs.Pictures.{ends_here, starts_here, ends_below-shown, ends_below-length, starts_below-length, starts_below-before, starts_below-shown}
use Rattle.sig_guard.proofs.StepKept.{making_of, natural_picture-size, natural_picture-shown, may_start, on_started}
use Rattle.sig_guard.proofs.EachRefusal.{each_refused}
use Rattle.log_judge.specs.Refused.{no_turn, so_far, IsBorneOut, RefusalsAreBorneOut}
use Rattle.log_judge.proofs.Earliest.{stays_red}
use Rattle.log_judge.proofs.Runs.{clash}

same_other : (o : Option ℕ) → o ≡ group_number (elim o [ None ↦ None | Some i ↦ Some (record { 0 = i }) ])
same_other None = refl
same_other (Some i) = refl

some_and : {A : Type 0} (o o' : Option A) (x : A) (P : A → Type 0) → o ≡ o' → o' ≡ Some x → P x → IsSomeAnd o P
some_and o o' x P e e' is = rw (e, e') is

inside : (r : Rules) (h : History) (g : ℕ) → IsHistory r.count h → g < r.count → g < length (natural_picture r h)
inside r h g is lt = omega (arith, lt, natural_picture-size r h (making_of r h is))

inside_ends : (r : Rules) (h : History) (w : List Bool) (g : ℕ) → IsHistory r.count h → g < r.count → g < length (ends_below r h w r.count).picture
inside_ends r h w g is lt = omega (arith, lt, ends_below-length r h w r.count, (making_of r h is).size)

natural_is : (r : Rules) (h : History) (g : ℕ) → IsHistory r.count h → g < r.count → shown (natural_picture r h) g ≡ shows_by_nature r h g
natural_is r h g is lt = natural_picture-shown r h g (making_of r h is) lt

-- a group that is not red-amber or green by nature ends not, and one that is starts not
no_end : (r : Rules) (h : History) (w : List Bool) (g : ℕ) → is_on (shown (natural_picture r h) g) ≡ false →
    ends_here r h w g ≡ false
unfolding ends_here
no_end r h w g off = rw off refl

no_start : (r : Rules) (h : History) (w : List Bool) (g : ℕ) → is_on (shown (natural_picture r h) g) ≡ true →
    starts_here r h w g ≡ false
unfolding starts_here
no_start r h w g on = rw on refl

after_ends : (r : Rules) (h : History) (w : List Bool) (g : ℕ) → IsHistory r.count h → g < r.count → ends_here r h w g ≡ false →
    shown (ends_below r h w r.count).picture g ≡ shown (natural_picture r h) g
after_ends r h w g is lt none =
    ends_below-shown r h w r.count g lt (inside r h g is lt)
    ∙ ap (λ (b : Bool). if b then aspect_at_end (r.amber g) else shown (natural_picture r h) g) none

ends_red : (r : Rules) (h : History) (w : List Bool) (g : ℕ) → IsHistory r.count h → g < r.count → is_red (trace h g (last h)) ≡ true →
    shown (ends_below r h w r.count).picture g ≡ trace h g (last h)
ends_red r h w g is lt red =
    let was : trace h g (last h) ≡ Red = red_is (trace h g (last h)) red in
    let natural : shown (natural_picture r h) g ≡ Red =
    natural_is r h g is lt ∙ stays_red _ _ (trace h g (last h)) was in
    after_ends r h w g is lt (no_end r h w g (ap is_on natural)) ∙ natural ∙ sym was

-- what the ends leave of a group, from what the whole second shows
by_start : (r : Rules) (h : History) (w : List Bool) (i : ℕ) → IsHistory r.count h → i < r.count → (b : Bool) →
    (is_red (trace h i (last h)) && is_on (shown (starts_below r h w r.count).picture i)) ≡ b →
    shown (ends_below r h w r.count).picture i
    ≡ (if b then trace h i (last h) else shown (starts_below r h w r.count).picture i)
unfolding starts_here
by_start r h w i is lt true e = ends_red r h w i is lt (and_parts _ _ e).0
by_start r h w i is lt false e = go (starts_here r h w i) refl
  where
    shows : shown (starts_below r h w r.count).picture i
        ≡ (if starts_here r h w i then aspect_at_start (r.red_amber i) else shown (ends_below r h w r.count).picture i)
    shows = starts_below-shown r h w r.count i lt (inside_ends r h w i is lt)

    go : (b : Bool) → starts_here r h w i ≡ b →
        shown (ends_below r h w r.count).picture i ≡ shown (starts_below r h w r.count).picture i
    go false none = sym (shows ∙ ap (λ (b : Bool). if b then aspect_at_start (r.red_amber i) else shown (ends_below r h w r.count).picture i) none)
    go true starts =
        let parts = and_parts (wants_start r h w i) (is_none (start_breach r h (starts_below r h w i).picture i)) starts in
        let red = (may_start r h (starts_below r h w i).picture i parts.1).was_red in
        let shown_start : shown (starts_below r h w r.count).picture i ≡ aspect_at_start (r.red_amber i) =
        shows ∙ ap (λ (b : Bool). if b then aspect_at_start (r.red_amber i) else shown (ends_below r h w r.count).picture i) starts in
        let on : is_on (shown (starts_below r h w r.count).picture i) ≡ true = ap is_on shown_start ∙ on_started (r.red_amber i) in
        absurd (clash _ (and_from _ _ red on) e)

-- a group whose turn is refused shows what it shows by nature
refused_shows : (r : Rules) (h : History) (w : List Bool) (g : ℕ) → IsHistory r.count h → g < r.count → ends_here r h w g ≡ false →
    starts_here r h w g ≡ false →
    shown (starts_below r h w r.count).picture g ≡ shown (natural_picture r h) g
refused_shows r h w g is lt no_ending no_starting =
    starts_below-shown r h w r.count g lt (inside_ends r h w g is lt)
    ∙ ap (λ (b : Bool). if b then aspect_at_start (r.red_amber g) else shown (ends_below r h w r.count).picture g) no_starting
    ∙ after_ends r h w g is lt no_ending

-- nature starts and ends no group
natural_on : (b c : Bool) (x : Aspect) → is_on (natural b c x) ≡ is_on x
natural_on b c Red = refl
natural_on true c RedAmber = refl
natural_on false c RedAmber = refl
natural_on b c Green = refl
natural_on b true Amber = refl
natural_on b false Amber = refl

no_turn_of : (x y : Aspect) (b : Bool) → is_on x ≡ b → is_on y ≡ b → no_turn x y ≡ true
no_turn_of x y true e e' = rw (e, e') refl
no_turn_of x y false e e' = rw (e, e') refl

stands : (r : Rules) (h : History) (w : List Bool) (g : ℕ) (b : Bool) → IsHistory r.count h → g < r.count → ends_here r h w g ≡ false →
    starts_here r h w g ≡ false → is_on (shown (natural_picture r h) g) ≡ b →
    no_turn (trace h g (last h)) (shown (starts_below r h w r.count).picture g) ≡ true
stands r h w g b is lt no_ending no_starting on =
    no_turn_of _ _ b (sym (natural_on _ _ (trace h g (last h))) ∙ ap is_on (sym (natural_is r h g is lt)) ∙ on)
    (ap is_on (refused_shows r h w g is lt no_ending no_starting) ∙ on)

none_here : (b c : Bool) → c ≡ false → (b && c) ≡ false
none_here true c h = h
none_here false c h = refl

end_refused : (r : Rules) (h : History) (w : List Bool) (g : ℕ) → is_none (end_breach r h g) ≡ false →
    ends_here r h w g ≡ false
unfolding ends_here
end_refused r h w g some = none_here (wants_end r h w g) (is_none (end_breach r h g)) some

start_refused : (r : Rules) (h : History) (w : List Bool) (g : ℕ) →
    is_none (start_breach r h (starts_below r h w g).picture g) ≡ false → starts_here r h w g ≡ false
unfolding starts_here
start_refused r h w g some =
    none_here (wants_start r h w g) (is_none (start_breach r h (starts_below r h w g).picture g)) some

pub so_far_is : (r : Rules) (h : History) (w : List Bool) (g : ℕ) → IsHistory r.count h →
    (starts_below r h w g).picture ≡ so_far r h (starts_below r h w r.count).picture g
so_far_is r h w g is =
    tabulate-is (λ i. if nat_le g i && (is_red (trace h i (last h)) && is_on (shown (starts_below r h w r.count).picture i))
    then trace h i (last h) else shown (starts_below r h w r.count).picture i) Red r.count
    (starts_below r h w g).picture (starts_below-length r h w g ∙ (making_of r h is).size) each
  where
    each : (i : ℕ) → i < r.count →
        shown (starts_below r h w g).picture i
        ≡ (if nat_le g i && (is_red (trace h i (last h)) && is_on (shown (starts_below r h w r.count).picture i))
        then trace h i (last h) else shown (starts_below r h w r.count).picture i)
    each i lt = elim (cases_lt i g) [
      | inl below ↦ (
          let earlier : nat_le g i ≡ false = lt-leb g i below in
          rw earlier (starts_below-shown r h w g i below (inside_ends r h w i is lt)
          ∙ sym (starts_below-shown r h w r.count i lt (inside_ends r h w i is lt))))
      | inr above ↦ (
          let later : nat_le g i ≡ true = le-leb g i above in
          rw later (starts_below-before r h w g i above
          ∙ by_start r h w i is lt (is_red (trace h i (last h)) && is_on (shown (starts_below r h w r.count).picture i)) refl))
    ]

end_told : (r : Rules) (h : History) (w : List Bool) (g : ℕ) → IsHistory r.count h → g < r.count →
    wants_end r h w g ≡ true → is_none (end_breach r h g) ≡ false →
    (if is_on (shown (starts_below r h w r.count).picture g) then end_breach r h g
    else start_breach r h (so_far r h (starts_below r h w r.count).picture g) g)
    ≡ end_breach r h g
end_told r h w g is lt wants some =
    let on : is_on (shown (natural_picture r h) g) ≡ true = (and_parts _ _ wants).0 in
    let shows = refused_shows r h w g is lt (end_refused r h w g some) (no_start r h w g on) in
    let here : is_on (shown (starts_below r h w r.count).picture g) ≡ true = ap is_on shows ∙ on in
    ap (λ (b : Bool). if b then end_breach r h g
    else start_breach r h (so_far r h (starts_below r h w r.count).picture g) g) here

start_told : (r : Rules) (h : History) (w : List Bool) (g : ℕ) → IsHistory r.count h → g < r.count →
    wants_start r h w g ≡ true →
    is_none (start_breach r h (starts_below r h w g).picture g) ≡ false →
    (if is_on (shown (starts_below r h w r.count).picture g) then end_breach r h g
    else start_breach r h (so_far r h (starts_below r h w r.count).picture g) g)
    ≡ start_breach r h (starts_below r h w g).picture g
start_told r h w g is lt wants some =
    let off : is_on (shown (natural_picture r h) g) ≡ false = not-true _ (and_parts _ _ wants).0 in
    let shows = refused_shows r h w g is lt (no_end r h w g off) (start_refused r h w g some) in
    let here : is_on (shown (starts_below r h w r.count).picture g) ≡ false = ap is_on shows ∙ off in
    ap (λ (b : Bool). if b then end_breach r h g
    else start_breach r h (so_far r h (starts_below r h w r.count).picture g) g) here
    ∙ ap (λ (p : Picture). start_breach r h p g) (sym (so_far_is r h w g is))

pub refusals_are_borne_out : RefusalsAreBorneOut
unfolding guard_picture
refusals_are_borne_out r h w is =
    each_refused (IsBorneOut r h (starts_below r h w r.count).picture) r h w
    (λ g breach lt wants breaks. (
      (let on = (and_parts _ _ wants).0 in stands r h w g true is lt (end_refused r h w g (ap is_none breaks)) (no_start r h w g on) on),
      some_and _ (end_breach r h g) breach _ (end_told r h w g is lt wants (ap is_none breaks)) breaks (refl, same_other breach.other),
    ))
    (λ g breach lt wants breaks. (
      (let off = not-true _ (and_parts _ _ wants).0 in stands r h w g false is lt (no_end r h w g off) (start_refused r h w g (ap is_none breaks)) off),
      some_and _ (start_breach r h (starts_below r h w g).picture g) breach _ (start_told r h w g is lt wants (ap is_none breaks)) breaks
          (refl, same_other breach.other),
    ))
