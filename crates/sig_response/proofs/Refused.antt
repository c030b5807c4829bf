-- Each wished turn is made or refused.
use Rattle.std.proofs.Common.{◌≡◌, ◌⊎◌, ℕ, ◌<◌, Bool, true, false, not, ◌&&◌, Some, None, is_none, refl, inl, inr, ap, ◌∙◌, List, [], ◌∷◌, ◌++◌, Contains}
use Rattle.std.proofs.lemmas.Bool.{and_from, and_left}
use Rattle.std.proofs.lemmas.List.Elements.{All-contains}
use Rattle.sig_types.specs.declared.refused.TurnRefusal.{TurnRefusal}
use Rattle.sig_types.specs.Turns.{History, shown}
use Rattle.sig_types.specs.Rules.{Rules}
use Rattle.pua_model.specs.Plan.{group_number}
use Rattle.sig_guard.specs.Laws.{BreaksRule, obeyed}
use Rattle.sig_guard.specs.Safety.{IsHistory}
use Rattle.sig_guard.specs.Step.{aspect_at_start, aspect_at_end, natural_picture, shown_and_refused, starts_below, ends_below, wants_end, wants_start, end_breach, start_breach, refusal, guard_picture, guard_refused}
use Rattle.sig_guard.proofs.EachRefusal.{each_refusal_breaks}
use Rattle.sig_guard.proofs.Decided.{below-still, below-listed}
use Rattle.sig_guard.proofs.Pictures.{ends_here, starts_here}
use Rattle.sig_guard.proofs.StepKept.{Making, making_of}
use Rattle.sig_response.specs.Refusals.{IsRefused, NeverBlocksWithoutNeed}
use Rattle.sig_response.proofs.Seconds.{natural_is, ended_is, unstarted, started}

-- a refused end, and a refused start, is listed
end_listed : (r : Rules) (h : History) (w : List Bool) (g : ℕ) (breach : _) → g < r.count → wants_end r h w g ≡ true → end_breach r h g ≡ Some breach →
    Contains (guard_refused r h w) (refusal g breach)
unfolding guard_refused
end_listed r h w g breach lt wants breaks =
    below-still (wants_start r h w) (λ g. aspect_at_start (r.red_amber g)) (start_breach r h) (ends_below r h w r.count) r.count (refusal g breach)
    (below-listed (wants_end r h w) (λ g. aspect_at_end (r.amber g)) (λ p g. end_breach r h g) (shown_and_refused (natural_picture r h) []) r.count g breach lt wants breaks)

start_listed : (r : Rules) (h : History) (w : List Bool) (g : ℕ) (breach : _) → g < r.count → wants_start r h w g ≡ true →
    start_breach r h (starts_below r h w g).picture g ≡ Some breach → Contains (guard_refused r h w) (refusal g breach)
unfolding guard_refused
start_listed r h w g breach lt wants breaks =
    below-listed (wants_start r h w) (λ g. aspect_at_start (r.red_amber g)) (start_breach r h) (ends_below r h w r.count) r.count g breach lt wants breaks

refused_of : (r : Rules) (h : History) (w : List Bool) (g : ℕ) (breach : _) → IsHistory r.count h → Contains (guard_refused r h w) (refusal g breach) → IsRefused r h w g
refused_of r h w g breach is has = record {
  turn = refusal g breach;
  listed = has;
  of_group = refl;
  breaks = All-contains (λ (turn : TurnRefusal). BreaksRule r (h ++ obeyed r h w turn.group.0 ∷ []) turn.group.0 turn.rule (group_number turn.other))
      (guard_refused r h w) (refusal g breach) (each_refusal_breaks r h w is) has;
}

not_both : (on wish : Bool) → (on && not wish) ≡ true → (not on && wish) ≡ false
not_both true wish h = refl
not_both false wish h = absurd (cc)

not_both' : (on wish : Bool) → (not on && wish) ≡ true → (on && not wish) ≡ false
not_both' true wish h = absurd (cc)
not_both' false wish h = refl

pub never_blocks : NeverBlocksWithoutNeed
unfolding guard_picture guard_refused ends_here starts_here
never_blocks r h w g is lt = record {
  end = λ wants. end (end_breach r h g) refl wants;
  start = λ wants. start (start_breach r h (starts_below r h w g).picture g) refl wants;
  nature = λ no_end no_start.
      unstarted r h w r.count g making lt (and_left _ _ no_start) ∙ unended (and_left _ _ no_end) ∙ natural_is r h g making lt;
}
  where
    making : Making r h
    making = making_of r h is

    unended : ends_here r h w g ≡ false → shown (ends_below r h w r.count).picture g ≡ shown (natural_picture r h) g
    unended none = (let shows = ended_is r h w g making lt in rw none at shows)

    end : (o : _) → end_breach r h g ≡ o → wants_end r h w g ≡ true →
        (shown (guard_picture r h w) g ≡ aspect_at_end (r.amber g)) ⊎ IsRefused r h w g
    end None free wants =
        let ends : ends_here r h w g ≡ true = and_from _ _ wants (ap is_none free) in
        let shows = ended_is r h w g making lt in
        inl (unstarted r h w r.count g making lt (and_left _ _ (not_both _ _ wants)) ∙ (rw ends at shows))
    end (Some breach) breaks wants =
        inr (refused_of r h w g breach is (end_listed r h w g breach lt wants breaks))

    start : (o : _) → start_breach r h (starts_below r h w g).picture g ≡ o → wants_start r h w g ≡ true →
        (shown (guard_picture r h w) g ≡ aspect_at_start (r.red_amber g)) ⊎ IsRefused r h w g
    start None free wants = inl (started r h w g making lt (and_from _ _ wants (ap is_none free)))
    start (Some breach) breaks wants = inr (refused_of r h w g breach is (start_listed r h w g breach lt wants breaks))
