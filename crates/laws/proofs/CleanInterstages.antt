-- A clean interstage.
use Rattle.std.proofs.Common.{◌≡◌, ◌∙◌, ℕ, zero, suc, ◌+◌, ◌-◌, ◌<◌, ◌≤◌, max, Bool, true, false, Option, Some, None, is_some, List, [], ◌∷◌, ◌++◌, length, replicate, slice_index_or, refl, sym, ap, arith}
use Rattle.std.proofs.lemmas.List.{get_or-replicate, length-replicate}
use Rattle.sig_types.specs.declared.aspect.Aspect.TheVariants.{Red}
use Rattle.sig_types.specs.declared.refused.TurnRefusal.{TurnRefusal}
use Rattle.sig_types.specs.Turns.{History, Picture, shown, trace, is_on}
use Rattle.sig_types.specs.Words.{least_below}
use Rattle.sig_types.specs.Rules.{Rules, IsTwoWay}
use Rattle.sig_types.proofs.LastBelow.{least_below-none}
use Rattle.pua_model.specs.Plan.{PlanOf, groups_in, in_stage, interstage_at}
use Rattle.sig_guard.specs.Safety.{IsHistory, Safe}
use Rattle.sig_guard.specs.Steady.{shows_wish}
use Rattle.sig_guard.specs.Step.{guard_picture, guard_refused}
use Rattle.sig_guard.proofs.LawProofs.{step_keeps_safe, begins_safe}
use Rattle.sig_guard.proofs.Pictures.{trace-append_new}
use Rattle.std.proofs.Math.ListN.{length-append}
use Rattle.sig_audit.specs.declared.trial.InterEnd.TheVariants as inter
use Rattle.sig_audit.specs.Trial.{made, stage_wishes, trial_wishes, is_settled, refused_in, first_turn, EndsAs}
use Rattle.sig_audit.proofs.Trials.{wishes_at_end, wishes_of_trial}
use Rattle.sig_response.specs.Laws.{IsSite}
use Rattle.sig_response.specs.Onward.{onward, shows}
use Rattle.sig_response.proofs.AtOnce.{on_as_wished, shown_at_once}
use Rattle.sig_response.proofs.Tabulated.{tabulate_at}
use Rattle.laws.specs.CleanInterstages.{over_in, EndsInItsStage, CleanEndsInItsStage}

pub made_kept : (r : Rules) (wishes : ℕ → List Bool) (k : ℕ) → IsTwoWay r → IsHistory r.count (made r wishes k) × Safe r (made r wishes k)
unfolding made
made_kept r wishes zero two = begins_safe r (replicate r.count Red) (length-replicate r.count Red) (λ g lt. get_or-replicate r.count g Red Red lt)
made_kept r wishes (suc k) two =
    let before = made_kept r wishes k two in
    step_keeps_safe r (made r wishes k) (wishes k) two before.0 before.1

-- the seconds of a trial after its first j
pub made_onward : (r : Rules) (wishes : ℕ → List Bool) (j n : ℕ) → made r wishes (j + n) ≡ onward r (made r wishes j) (λ k. wishes (j + k)) n
unfolding made onward
made_onward r wishes j zero = (let same : j + 0 ≡ j = omega arith in ap (λ (k : ℕ). made r wishes k) same)
made_onward r wishes j (suc n) =
    let next : j + suc n ≡ suc (j + n) = omega arith in
    ap (λ (k : ℕ). made r wishes k) next ∙ ap (λ (h : History). h ++ guard_picture r h (wishes (j + n)) ∷ []) (made_onward r wishes j n)

none_first : (xs : List TurnRefusal) → is_some (first_turn xs) ≡ false → xs ≡ []
none_first [] h = refl
none_first (x ∷ xs) h = absurd (cc)

-- no turn of a clean interstage is refused
none_refused : (settled : Bool) (refused : ℕ → List TurnRefusal) (first : Option ℕ) (n : ℕ) → least_below (λ t. is_some (first_turn (refused t))) n ≡ first →
    EndsAs settled refused first inter.Clean → (t : ℕ) → t < n → refused t ≡ []
none_refused false refused first n is ends t lt = absurd (cc)
none_refused true refused None n is ends t lt = none_first (refused t) (least_below-none (λ t. is_some (first_turn (refused t))) n is t lt)
none_refused true refused (Some u) n is ends t lt = absurd (let end = ends.2 in cc)

-- from its end on the to-stage is wished
stage_wished : (plan : PlanOf) (i k g : ℕ) → (interstage_at plan i).length ≤ k → g < groups_in plan →
    slice_index_or (trial_wishes plan i (600 + k)) g false ≡ in_stage plan (interstage_at plan i).to g
unfolding stage_wishes
stage_wished plan i k g le lt =
    ap (λ (w : List Bool). slice_index_or w g false) (sym (wishes_of_trial plan i k) ∙ sym (wishes_at_end plan i k le))
    ∙ tabulate_at (in_stage plan (interstage_at plan i).to) (groups_in plan) g lt

-- the last picture of a history
pub shows_new : (h : History) (p : Picture) (g : ℕ) → shows (h ++ p ∷ []) g ≡ shown p g
shows_new h p g =
    let last : length (h ++ p ∷ []) - 1 ≡ length h = omega (arith, length-append h (p ∷ [])) in
    ap (λ (k : ℕ). trace (h ++ p ∷ []) g k) last ∙ trace-append_new h p g (length h) refl

ends_in_stage : (plan : PlanOf) (r : Rules) (i : ℕ) → IsSite r → r.count ≡ groups_in plan →
    guard_refused r (made r (trial_wishes plan i) (600 + (interstage_at plan i).length)) (trial_wishes plan i (600 + (interstage_at plan i).length)) ≡ [] → EndsInItsStage plan r i
unfolding made
ends_in_stage plan r i site count none = record { on = on; shown = later }
  where
    kept : IsHistory r.count (made r (trial_wishes plan i) (600 + (interstage_at plan i).length)) × Safe r (made r (trial_wishes plan i) (600 + (interstage_at plan i).length))
    kept = made_kept r (trial_wishes plan i) (600 + (interstage_at plan i).length) site.two_way

    on : (g : ℕ) → g < r.count → is_on (shows (made r (trial_wishes plan i) (over_in plan i)) g) ≡ in_stage plan (interstage_at plan i).to g
    on g lt =
        let next : over_in plan i ≡ suc (600 + (interstage_at plan i).length) = omega arith in
        ap (λ (k : ℕ). is_on (shows (made r (trial_wishes plan i) k) g)) next
        ∙ ap is_on (shows_new (made r (trial_wishes plan i) (600 + (interstage_at plan i).length)) (guard_picture r (made r (trial_wishes plan i) (600 + (interstage_at plan i).length)) (trial_wishes plan i (600 + (interstage_at plan i).length))) g)
        ∙ on_as_wished r (made r (trial_wishes plan i) (600 + (interstage_at plan i).length)) (trial_wishes plan i (600 + (interstage_at plan i).length)) g kept.0 lt none
        ∙ stage_wished plan i (interstage_at plan i).length g (omega arith) (omega (arith, count, lt))

    wished : (k g : ℕ) → g < r.count → slice_index_or (trial_wishes plan i (600 + (interstage_at plan i).length + k)) g false ≡ in_stage plan (interstage_at plan i).to g
    wished k g lt =
        let same : 600 + (interstage_at plan i).length + k ≡ 600 + ((interstage_at plan i).length + k) = omega arith in
        ap (λ (t : ℕ). slice_index_or (trial_wishes plan i t) g false) same ∙ stage_wished plan i ((interstage_at plan i).length + k) g (omega arith) (omega (arith, count, lt))

    later : (g n : ℕ) → g < r.count → max (r.red_amber g) (r.amber g) ≤ n →
        shows_wish (shows (made r (trial_wishes plan i) (over_in plan i + n)) g) (in_stage plan (interstage_at plan i).to g) ≡ true
    later g n lt le =
        let place : over_in plan i + n ≡ 600 + (interstage_at plan i).length + suc n = omega arith in
        let here : 600 + (interstage_at plan i).length + 0 ≡ 600 + (interstage_at plan i).length = omega arith in
        let clean : guard_refused r (made r (trial_wishes plan i) (600 + (interstage_at plan i).length)) (trial_wishes plan i (600 + (interstage_at plan i).length + 0)) ≡ [] =
        ap (λ (t : ℕ). guard_refused r (made r (trial_wishes plan i) (600 + (interstage_at plan i).length)) (trial_wishes plan i t)) here ∙ none in
        ap (λ (k : ℕ). shows_wish (shows (made r (trial_wishes plan i) k) g) (in_stage plan (interstage_at plan i).to g)) place
        ∙ ap (λ (h : History). shows_wish (shows h g) (in_stage plan (interstage_at plan i).to g)) (made_onward r (trial_wishes plan i) (600 + (interstage_at plan i).length) (suc n))
        ∙ ap (λ (b : Bool). shows_wish (shows (onward r (made r (trial_wishes plan i) (600 + (interstage_at plan i).length)) (λ k. trial_wishes plan i (600 + (interstage_at plan i).length + k)) (suc n)) g) b) (sym (wished 0 g lt))
        ∙ shown_at_once r (made r (trial_wishes plan i) (600 + (interstage_at plan i).length)) (λ k. trial_wishes plan i (600 + (interstage_at plan i).length + k)) g n site kept.0 kept.1 lt clean
        (λ k hi. wished k g lt ∙ sym (wished 0 g lt)) le

pub clean_ends : CleanEndsInItsStage
unfolding refused_in
clean_ends plan r i site count clean =
    ends_in_stage plan r i site count
    (none_refused (is_settled plan r i) (refused_in plan r i) _ ((interstage_at plan i).length + 1) refl clean (interstage_at plan i).length (omega arith))
