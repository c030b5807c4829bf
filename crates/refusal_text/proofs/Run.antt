-- What is said of the turns that the guard refuses.
use Rattle.std.proofs.Common.{◌≡◌, ◌∙◌, ℕ, ◌-◌, ◌<◌, Bool, true, List, length, get_or, sym, ap, arith}
use Rattle.std.specs.Prelude.{if◌then◌else◌}
use Rattle.std.proofs.lemmas.Bool.{ne_eqb}
use Rattle.sig_types.specs.declared.refused.TurnRefusal.{TurnRefusal}
use Rattle.sig_types.specs.Rules.{Rules}
use Rattle.sig_types.specs.Turns.{History, trace}
use Rattle.sig_guard.specs.Safety.{IsHistory}
use Rattle.sig_guard.specs.Step.{guard_picture, guard_refused, last_picture}
use Rattle.log_judge.specs.declared.why.Finding.{Finding}
use Rattle.log_judge.specs.declared.why.Finding.TheVariants.{Borne}
use Rattle.log_judge.specs.Explained.{finding_now, reason_now}
use Rattle.log_judge.specs.Laws.{at_rest}
use Rattle.log_judge.specs.Stands.{past_of}
use Rattle.log_judge.proofs.Explaining.{refusals_are_explained}
use Rattle.refusal_text.specs.declared.refusal.Said.TheVariants as said
use Rattle.refusal_text.specs.Laws.{RunsAreBorneOut, is_borne}
use Rattle.refusal_text.specs.Refusals.{pasts_of, said_by, said_of, terms_from}
use Rattle.refusal_text.proofs.Same.{tab_at}

borne : (r : Rules) (h : History) (wishes : List Bool) (turn : TurnRefusal) → 0 < length h →
    finding_now r at_rest (length h) (last_picture h) (pasts_of at_rest r.count h) (guard_picture r h wishes) turn ≡ Borne →
    is_borne (said_of r (terms_from 1) h (guard_picture r h wishes) turn) ≡ true
unfolding said_of
borne r h wishes turn some found =
    let p = guard_picture r h wishes in
    let why = reason_now r (length h) (last_picture h) (pasts_of at_rest r.count h) (guard_picture r h wishes) turn in
    ap (λ (b : Bool). is_borne (if b then said.Unknown else said_by (finding_now r at_rest (length h) (last_picture h) (pasts_of at_rest r.count h) p turn) why))
    (ne_eqb (length h) 0 (λ e. omega (arith, e, some)))
    ∙ ap (λ (f : Finding). is_borne (said_by f why)) found

pub runs_are_borne_out : RunsAreBorneOut
runs_are_borne_out r h wishes is =
    let all = refusals_are_explained r h wishes (pasts_of at_rest r.count h) is (λ g lt. tab_at (λ i. past_of at_rest (trace h i) (length h - 1)) r.count g _ lt) in
    λ i d lt. borne r h wishes (get_or (guard_refused r h wishes) i d) (omega (arith, is.begun)) (all i d lt)
