-- A turn that is wished alone is decided as if it were the only one.
use Rattle.std.proofs.Common.{◌≡◌, ◌≢◌, ◌∙◌, ℕ, zero, suc, ◌<◌, Bool, true, false, not, ◌&&◌, Option, Some, None, List, [], Contains, set, if◌then◌else◌, inl, inr, refl, sym, ap, subst, arith}
use Rattle.std.proofs.lemmas.Bool.{cases_eq, and_parts, not-true}
use Rattle.sig_types.specs.declared.aspect.Aspect.{Aspect}
use Rattle.sig_types.specs.declared.refused.TurnRefusal.{TurnRefusal}
use Rattle.sig_types.specs.Rules.{Rules}
use Rattle.sig_types.specs.Turns.{Picture, History, shown, is_on}
use Rattle.sig_guard.specs.declared.turn.Breach.{Breach}
use Rattle.sig_guard.specs.Alone.{may_end, turn_breach, refusal_by, turn_refusal, listed, picture_by, IsAlone, AloneAsTold, EndsAsTold, UnwishedIsNatural}
use Rattle.sig_guard.specs.Step.{Decided, decide, aspect_at_start, aspect_at_end, end_breach, start_breach, natural_picture, shown_and_refused, ends_below, starts_below, wants_end, wants_start, is_green_wished, refusal, guard_picture, guard_refused}
use Rattle.sig_guard.proofs.Decided.{below, below-none, below-listed, below-still}

-- ---- turns one after another, of which one alone is wished

module _ (wants : ℕ → Bool) (shows : ℕ → Aspect) (breach : Picture → ℕ → Option Breach) (begun : Decided) where
  alone_below : (g : ℕ) → wants g ≡ true → ((j : ℕ) → j ≢ g → wants j ≡ false) → (n : ℕ) → g < n →
      below wants shows breach begun n ≡ decide begun g (shows g) (breach begun.picture g)
  alone_below g on off zero lt = absurd (omega arith)
  alone_below g on off (suc n) lt = elim (cases_eq g n) [
    | inl same ↦ (
        let before : begun ≡ below wants shows breach begun n =
        below-none wants shows breach begun n (λ j less. let ne : j ≢ g = omega (arith, same, less) in off j ne) in
        let on_n : wants n ≡ true = subst (λ (k : ℕ). wants k ≡ true) same on in
        ap (λ (b : Bool). if b then decide (below wants shows breach begun n) n (shows n) (breach (below wants shows breach begun n).picture n)
        else below wants shows breach begun n) on_n
        ∙ ap (λ (d : Decided). decide d n (shows n) (breach d.picture n)) (sym before)
        ∙ ap (λ (k : ℕ). decide begun k (shows k) (breach begun.picture k)) (sym same))
    | inr ne ↦ (
        let other : n ≢ g = λ is. ne (sym is) in
        ap (λ (b : Bool). if b then decide (below wants shows breach begun n) n (shows n) (breach (below wants shows breach begun n).picture n)
        else below wants shows breach begun n) (off n other)
        ∙ alone_below g on off n (omega (arith, ne)))
  ]

-- ---- what is decided of one turn

decided_refused : (p : Picture) (g : ℕ) (x : Aspect) (o : Option Breach) → (decide (shown_and_refused p []) g x o).refused ≡ listed (refusal_by g o)
decided_refused p g x None = refl
decided_refused p g x (Some breach) = refl

abbrev shown_by : Picture → ℕ → Aspect → Option TurnRefusal → Picture
shown_by p g x None = set p g x
shown_by p g x (Some turn) = p

decided_picture : (p : Picture) (g : ℕ) (x : Aspect) (o : Option Breach) → (decide (shown_and_refused p []) g x o).picture ≡ shown_by p g x (refusal_by g o)
decided_picture p g x None = refl
decided_picture p g x (Some breach) = refl

no_end : (on wished : Bool) → (not on && wished) ≡ true → (on && not wished) ≡ false
no_end true wished start = cc
no_end false wished start = refl

no_start : (on wished : Bool) → (on && not wished) ≡ true → (not on && wished) ≡ false
no_start true wished end = refl
no_start false wished end = cc

module _ (r : Rules) (h : History) (w : List Bool) (g : ℕ) (alone : IsAlone r h w g) where
  abbrev natural : Decided
  natural = shown_and_refused (natural_picture r h) []

  -- an end alone
  end_second : wants_end r h w g ≡ true →
      starts_below r h w r.count ≡ decide natural g (aspect_at_end (r.amber g)) (end_breach r h g)
  end_second ends =
      sym (below-none (wants_start r h w) (λ k. aspect_at_start (r.red_amber k)) (start_breach r h) (ends_below r h w r.count) r.count (λ j lt. none j))
      ∙ alone_below (wants_end r h w) (λ k. aspect_at_end (r.amber k)) (λ p k. end_breach r h k) natural g ends alone.no_other_end r.count alone.inside
    where
      none : (j : ℕ) → wants_start r h w j ≡ false
      none j = elim (cases_eq j g) [
        | inl same ↦ subst (λ (k : ℕ). wants_start r h w k ≡ false) (sym same)
            (no_start (is_on (shown (natural_picture r h) g)) (is_green_wished w g) ends)
        | inr ne ↦ alone.no_other_start j ne
      ]

  -- a start alone
  start_second : wants_start r h w g ≡ true →
      starts_below r h w r.count ≡ decide natural g (aspect_at_start (r.red_amber g)) (start_breach r h (natural_picture r h) g)
  start_second starts =
      alone_below (wants_start r h w) (λ k. aspect_at_start (r.red_amber k)) (start_breach r h) (ends_below r h w r.count) g starts alone.no_other_start r.count alone.inside
      ∙ ap (λ (d : Decided). decide d g (aspect_at_start (r.red_amber g)) (start_breach r h d.picture g)) (sym (
      below-none (wants_end r h w) (λ k. aspect_at_end (r.amber k)) (λ p k. end_breach r h k) natural r.count (λ j lt. none j)))
    where
      none : (j : ℕ) → wants_end r h w j ≡ false
      none j = elim (cases_eq j g) [
        | inl same ↦ subst (λ (k : ℕ). wants_end r h w k ≡ false) (sym same)
            (no_end (is_on (shown (natural_picture r h) g)) (is_green_wished w g) starts)
        | inr ne ↦ alone.no_other_end j ne
      ]

  abbrev Told : Bool → Type 0
  Told on =
      let broken = if on then end_breach r h g else start_breach r h (natural_picture r h) g in
      let x = if on then aspect_at_end (r.amber g) else aspect_at_start (r.red_amber g) in
      (guard_refused r h w ≡ listed (refusal_by g broken))
      × (guard_picture r h w ≡ shown_by (natural_picture r h) g x (refusal_by g broken))

  told_end : wants_end r h w g ≡ true → Told true
  unfolding guard_refused guard_picture
  told_end ends = (
    ap (λ (d : Decided). d.refused) (end_second ends) ∙ decided_refused (natural_picture r h) g (aspect_at_end (r.amber g)) (end_breach r h g),
    ap (λ (d : Decided). d.picture) (end_second ends) ∙ decided_picture (natural_picture r h) g (aspect_at_end (r.amber g)) (end_breach r h g),
  )

  told_start : wants_start r h w g ≡ true → Told false
  unfolding guard_refused guard_picture
  told_start starts = (
    ap (λ (d : Decided). d.refused) (start_second starts)
        ∙ decided_refused (natural_picture r h) g (aspect_at_start (r.red_amber g)) (start_breach r h (natural_picture r h) g),
    ap (λ (d : Decided). d.picture) (start_second starts)
        ∙ decided_picture (natural_picture r h) g (aspect_at_start (r.red_amber g)) (start_breach r h (natural_picture r h) g),
  )

  told : Told (may_end r h g)
  told = elim alone.wished [
    | inl ends ↦ subst Told (sym (and_parts _ _ ends).0) (told_end ends)
    | inr starts ↦ subst Told (sym (not-true _ (and_parts _ _ starts).0)) (told_start starts)
  ]

picture_same : (r : Rules) (h : History) (g : ℕ) (o : Option TurnRefusal) →
    shown_by (natural_picture r h) g (if may_end r h g then aspect_at_end (r.amber g) else aspect_at_start (r.red_amber g)) o ≡ picture_by r h g o
picture_same r h g None = refl
picture_same r h g (Some turn) = refl

pub alone_as_told : AloneAsTold
unfolding turn_refusal
alone_as_told r h w g alone =
    let is = told r h w g alone in
    (is.0, is.1 ∙ picture_same r h g (refusal_by g (turn_breach r h g)))

-- ---- an end, whatever else is wished

refusal_of : (r : Rules) (h : History) (g : ℕ) (o : Option Breach) (turn : TurnRefusal) → refusal_by g o ≡ Some turn →
    (breach : Breach) × (o ≡ Some breach) × (refusal g breach ≡ turn)
refusal_of r h g None turn is = absurd (cc)
refusal_of r h g (Some breach) turn is = (breach, refl, (let same : refusal g breach ≡ turn = cc in same))

pub ends_as_told : EndsAsTold
unfolding turn_refusal guard_refused
ends_as_told r h w g turn lt ends is =
    let on : may_end r h g ≡ true = (and_parts _ _ ends).0 in
    let by = refusal_of r h g (turn_breach r h g) turn is in
    let broken : end_breach r h g ≡ Some by.0 =
    sym (ap (λ (b : Bool). if b then end_breach r h g else start_breach r h (natural_picture r h) g) on) ∙ by.1 in
    subst (λ (t : TurnRefusal). Contains (starts_below r h w r.count).refused t) by.2
    (below-still (wants_start r h w) (λ k. aspect_at_start (r.red_amber k)) (start_breach r h) (ends_below r h w r.count) r.count (refusal g by.0)
    (below-listed (wants_end r h w) (λ k. aspect_at_end (r.amber k)) (λ p k. end_breach r h k) (shown_and_refused (natural_picture r h) []) r.count g by.0 lt ends broken))

-- ---- no turn

pub unwished_is_natural : UnwishedIsNatural
unfolding guard_picture guard_refused
unwished_is_natural r h w no_end no_start =
    let begun = shown_and_refused (natural_picture r h) [] in
    let ends : begun ≡ ends_below r h w r.count =
    below-none (wants_end r h w) (λ k. aspect_at_end (r.amber k)) (λ p k. end_breach r h k) begun r.count (λ j lt. no_end j) in
    let starts : ends_below r h w r.count ≡ starts_below r h w r.count =
    below-none (wants_start r h w) (λ k. aspect_at_start (r.red_amber k)) (start_breach r h) (ends_below r h w r.count) r.count (λ j lt. no_start j) in
    let all : starts_below r h w r.count ≡ begun = sym (ends ∙ starts) in
    (ap (λ (d : Decided). d.picture) all, ap (λ (d : Decided). d.refused) all)
