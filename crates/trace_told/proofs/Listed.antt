-- Events, one after the other.
use Rattle.std.proofs.Common.{◌≡◌, ◌∙◌, ◌+◌, ◌<◌, ◌≤◌, ℕ, zero, suc, Bool, true, false, ℤ, List, [], ◌∷◌, ◌++◌, length, drop, get_or, refl, sym, ap, arith, append_assoc, add-one, codes, eq-eqb, drop-cons, take, ◌-◌, length-drop, take_all}
use Rattle.std.proofs.lemmas.List.{append-nil, drop_all}
use Rattle.sig_types.specs.declared.kinds.CommandKind.{CommandKind}
use Rattle.sig_types.specs.declared.kinds.CommandKind.TheVariants.{Interstage, SgGreen, SgRed, ClearFronts, ClearRears, SetCycle}
use Rattle.sig_types.specs.declared.numbers.StagePlace.{StagePlace}
use Rattle.sig_types.specs.declared.record.Record.{Record}
use Rattle.pua_model.specs.Plan.{PlanOf}
use Rattle.vap_ast.specs.Syntax.{Program}
use Rattle.trace_watch.specs.declared.event.Event.{Event}
use Rattle.trace_watch.specs.declared.event.Event.TheVariants as event
use Rattle.trace_told.specs.declared.became.Answered.{Answered}
use Rattle.trace_told.specs.Became.{answered, answered_by, answered_one, is_obeyed}
use Rattle.trace_told.specs.Listing.{event_text, events_from, full_text}

-- those from a place on begin with the one there
drop_at_place : (xs : List Event) (k : ℕ) (d : Event) → k < length xs → drop k xs ≡ get_or xs k d ∷ drop (k + 1) xs
drop_at_place xs k d below = rw add-one (drop-cons xs k d below)

-- those behind a place are all from the next one on
pub rest_is : (xs : List Event) (n : ℕ) → take (length xs - n) (drop n xs) ≡ drop n xs
rest_is xs n = take_all (length xs - n) (drop n xs) (omega (arith, length-drop n xs))

-- so many events are listed
pub full_is : (count : ℕ) → count ≡ 1000000 → codes "\nno more than 1000000 events are listed" ≡ full_text count
full_is count is = rw (eq-eqb count 1000000 is) refl

-- one event more
pub event_more : (plan : PlanOf) (p : Program) (r : Record) (done next : Answered) (events : List Event) (k : ℕ) (d e : Event) (behind : List Event)
    (text whole : List ℕ) → k < length events → e ≡ get_or events k d → behind ≡ drop (k + 1) events → next ≡ answered r.place done e →
    text ++ events_from plan p r done (drop k events) ≡ whole →
    (text ++ event_text plan p r done e behind) ++ events_from plan p r next (drop (k + 1) events) ≡ whole
event_more plan p r done next events k d e behind text whole below is rest step so_far =
    append_assoc text (event_text plan p r done e behind) (events_from plan p r next (drop (k + 1) events))
    ∙ (λ j. text ++ (event_text plan p r done e (rest j) ++ events_from plan p r (step j) (drop (k + 1) events)))
    ∙ ap (λ es. text ++ events_from plan p r done es) (sym (drop_at_place events k d below ∙ ap (λ (x : Event). x ∷ drop (k + 1) events) (sym is))) ∙ so_far

-- all events
pub events_all : (plan : PlanOf) (p : Program) (r : Record) (done : Answered) (events : List Event) (k : ℕ) (text whole : List ℕ) → length events ≤ k →
    text ++ events_from plan p r done (drop k events) ≡ whole → text ≡ whole
events_all plan p r done events k text whole past so_far =
    sym (append-nil text) ∙ ap (λ es. text ++ events_from plan p r done es) (sym (drop_all k events past)) ∙ so_far

few_one : (done : Answered) (obeyed : Bool) → (answered_one done obeyed).refused ≤ done.refused + 1
few_one done true = omega arith
few_one done false = omega arith

few_by : (place : StagePlace) (done : Answered) (kind : CommandKind) (a b : ℤ) → (answered_by place done kind a b).refused ≤ done.refused + 1
few_by place done Interstage a b = few_one done (is_obeyed place done a b)
few_by place done SgGreen a b = omega arith
few_by place done SgRed a b = omega arith
few_by place done ClearFronts a b = omega arith
few_by place done ClearRears a b = omega arith
few_by place done SetCycle a b = omega arith

-- an event refuses at most one command
pub few_refused : (place : StagePlace) (done : Answered) (e : Event) → (answered place done e).refused ≤ done.refused + 1
few_refused place done (event.Begins line) = omega arith
few_refused place done (event.Returns line) = omega arith
few_refused place done (event.Wants line) = omega arith
few_refused place done (event.Calls r) = omega arith
few_refused place done (event.Reads kind a b) = omega arith
few_refused place done (event.Takes slot) = omega arith
few_refused place done (event.Gives value) = omega arith
few_refused place done (event.Tests value) = omega arith
few_refused place done (event.Sets slot before after) = omega arith
few_refused place done (event.Times kind timer) = omega arith
few_refused place done (event.Commands kind a b) = few_by place done kind a b
