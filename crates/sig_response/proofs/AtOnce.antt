-- After a second in which no turn is refused.
use Rattle.std.proofs.Common.{◌≡◌, suc, ◌-◌, Bool, true, false, not, ◌&&◌, refl, arith, sym, inl, inr, ap, ◌∙◌, List, [], length, Contains, slice_index_or}
use Rattle.std.proofs.lemmas.Bool.{cases_Bool}
use Rattle.sig_types.specs.declared.aspect.Aspect.{Aspect}
use Rattle.sig_types.specs.declared.refused.TurnRefusal.{TurnRefusal}
use Rattle.sig_types.specs.Turns.{is_red, is_green, is_on}
use Rattle.sig_guard.specs.Steady.{shows_wish}
use Rattle.sig_guard.specs.Step.{wants_end, wants_start, guard_picture, guard_refused}
use Rattle.sig_guard.proofs.StepKept.{making_of, on_started, off_ended}
use Rattle.sig_response.specs.Onward.{onward}
use Rattle.sig_response.specs.Refusals.{NothingIsPassedOver, OnAsWished, ShownAtOnce}
use Rattle.sig_response.proofs.Seconds.{natural_is}
use Rattle.sig_response.proofs.Onwards.{Begun, at_next, at}
use Rattle.sig_response.proofs.Refused.{never_blocks}
use Rattle.sig_response.proofs.Still.{on_then_green, off_then_red}
use Rattle.sig_response.proofs.Whole.{begun_of, last_of}

none_listed : (xs : List TurnRefusal) (x : TurnRefusal) → xs ≡ [] → Contains xs x → ⊥
none_listed xs x none has = (let lt = has.1 in let empty = ap length none in omega (arith, lt, empty))

neither : (on wish : Bool) → (on && not wish) ≡ false → (not on && wish) ≡ false → on ≡ wish
neither true true e f = refl
neither true false e f = absurd (cc)
neither false true e f = absurd (cc)
neither false false e f = refl

wish_of_end : (on wish : Bool) → (on && not wish) ≡ true → wish ≡ false
wish_of_end true true e = absurd (cc)
wish_of_end true false e = refl
wish_of_end false wish e = absurd (cc)

wish_of_start : (on wish : Bool) → (not on && wish) ≡ true → wish ≡ true
wish_of_start true wish e = absurd (cc)
wish_of_start false wish e = e

pub on_as_wished : OnAsWished
on_as_wished r h w g is lt none = elim (cases_Bool (wants_end r h w g)) [
  | inl ends ↦ elim (all.end ends) [
    | inl made ↦ ap is_on made ∙ off_ended (r.amber g) ∙ sym (wish_of_end _ _ ends)
    | inr refused ↦ absurd (none_listed (guard_refused r h w) refused.turn none refused.listed)
  ]
  | inr no_end ↦ elim (cases_Bool (wants_start r h w g)) [
    | inl starts ↦ elim (all.start starts) [
      | inl made ↦ ap is_on made ∙ on_started (r.red_amber g) ∙ sym (wish_of_start _ _ starts)
      | inr refused ↦ absurd (none_listed (guard_refused r h w) refused.turn none refused.listed)
    ]
    | inr no_start ↦ ap is_on (all.nature no_end no_start ∙ sym (natural_is r h g (making_of r h is) lt)) ∙ neither _ _ no_end no_start
  ]
]
  where
    all : NothingIsPassedOver r h w g
    all = never_blocks r h w g is lt

pub shown_at_once : ShownAtOnce
unfolding onward guard_picture
shown_at_once r h w g n site is safe lt none same le = ap (λ (x : Aspect). shows_wish x (slice_index_or (w 0) g false)) (last_of r h w g (suc n) is) ∙ go (slice_index_or (w 0) g false) refl
  where
    begun : Begun r h (length h - 1)
    begun = begun_of r h site is safe

    first : is_on (at r h w (length h - 1) g 1) ≡ slice_index_or (w 0) g false
    first = ap is_on (at_next r h w (length h - 1) 0 g begun) ∙ on_as_wished r h (w 0) g is lt none

    go : (b : Bool) → slice_index_or (w 0) g false ≡ b → shows_wish (at r h w (length h - 1) g (suc n)) b ≡ true
    go true wish = ap is_green (on_then_green r h w (length h - 1) g (suc n) begun lt (λ k hi. same k hi ∙ wish) 1 (omega arith) (first ∙ wish))
    go false wish = ap is_red (off_then_red r h w (length h - 1) g (suc n) begun lt (λ k hi. same k hi ∙ wish) 1 (omega arith) (first ∙ wish))
