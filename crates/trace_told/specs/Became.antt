-- What became of the commands of a second's pass, as the record of the second tells it.
use Rattle.std.specs.Prelude.{ℕ, zero, suc, ◌+◌, Bool, true, false, ◌&&◌, not, List, [], ◌∷◌, ◌++◌, codes, ℤ, pos, Option, None, Some, if◌then◌else◌, slice_get, slice_index_or, ◌==◌}
use Rattle.std.specs.List.{flat_map, list_any}
use Rattle.sig_types.specs.declared.aspect.Aspect.TheVariants.{Red}
use Rattle.sig_types.specs.declared.kinds.CommandKind.{CommandKind}
use Rattle.sig_types.specs.declared.kinds.CommandKind.TheVariants.{Interstage, SgGreen, SgRed, ClearFronts, ClearRears, SetCycle}
use Rattle.sig_types.specs.declared.numbers.StagePlace.{StagePlace}
use Rattle.sig_types.specs.declared.numbers.StagePlace.TheVariants.{NoPlan, Stage, Inter}
use Rattle.sig_types.specs.declared.record.Record.{Record}
use Rattle.sig_types.specs.declared.refused.Fault.{Fault}
use Rattle.sig_types.specs.declared.refused.StageRefusal.{StageRefusal}
use Rattle.sig_types.specs.declared.refused.TurnRefusal.{TurnRefusal}
use Rattle.sig_types.specs.LogForm.{letter}
use Rattle.sig_types.specs.Number.{equal}
use Rattle.pua_model.specs.Plan.{PlanOf, group_of}
use Rattle.signal_log.specs.Log.{rule_name, turn_text}
use Rattle.trace_watch.specs.declared.event.Event.{Event}
use Rattle.trace_watch.specs.declared.event.Event.TheVariants as event
use Rattle.trace_told.specs.declared.became.Answered.{Answered}

-- No interstage command was answered: none was obeyed, and none was refused.
abbrev pub none_answered : Answered
none_answered = record { obeyed = false; refused = 0 }

-- whether an interstage from one stage to another is in its first second
abbrev pub begins_between : StagePlace → ℤ → ℤ → Bool
begins_between NoPlan a b = false
begins_between (Stage s) a b = false
begins_between (Inter from to zero) a b = equal (pos from.0) a && equal (pos to.0) b
begins_between (Inter from to (suc t)) a b = false

-- Whether an interstage command is the one that was obeyed: the first of those for the interstage that begins in the second.
abbrev pub is_obeyed : StagePlace → Answered → ℤ → ℤ → Bool
is_obeyed place done a b = not done.obeyed && begins_between place a b

-- one interstage command more
abbrev pub answered_one : Answered → Bool → Answered
answered_one done true = record { obeyed = true; refused = done.refused }
answered_one done false = record { obeyed = done.obeyed; refused = done.refused + 1 }

-- how they are answered behind a command
abbrev pub answered_by : StagePlace → Answered → CommandKind → ℤ → ℤ → Answered
answered_by place done Interstage a b = answered_one done (is_obeyed place done a b)
answered_by place done SgGreen a b = done
answered_by place done SgRed a b = done
answered_by place done ClearFronts a b = done
answered_by place done ClearRears a b = done
answered_by place done SetCycle a b = done

-- how they are answered behind an event
abbrev pub answered : StagePlace → Answered → Event → Answered
answered place done (event.Begins line) = done
answered place done (event.Returns line) = done
answered place done (event.Wants line) = done
answered place done (event.Calls r) = done
answered place done (event.Reads kind a b) = done
answered place done (event.Takes slot) = done
answered place done (event.Gives value) = done
answered place done (event.Tests value) = done
answered place done (event.Sets slot before after) = done
answered place done (event.Times kind timer) = done
answered place done (event.Commands kind a b) = answered_by place done kind a b

-- a refused command's rule
abbrev pub rule_text : Option StageRefusal → List ℕ
rule_text None = []
rule_text (Some refusal) = codes "refused: " ++ rule_name refusal.rule

-- what became of an interstage command: it was obeyed, or it was refused, as the refusals of the record say in order
abbrev pub interstage_text : Record → Answered → ℤ → ℤ → List ℕ
interstage_text r done a b = if is_obeyed r.place done a b then codes "obeyed" else rule_text (slice_get r.stages done.refused)

-- whether a command is a wish for the group of a number
abbrev pub is_wish : ℤ → CommandKind → ℤ → Bool
is_wish number Interstage a = false
is_wish number SgGreen a = equal a number
is_wish number SgRed a = equal a number
is_wish number ClearFronts a = false
is_wish number ClearRears a = false
is_wish number SetCycle a = false

-- whether an event is a wish for the group of a number
abbrev pub wishes : ℤ → Event → Bool
wishes number (event.Begins line) = false
wishes number (event.Returns line) = false
wishes number (event.Wants line) = false
wishes number (event.Calls r) = false
wishes number (event.Reads kind a b) = false
wishes number (event.Takes slot) = false
wishes number (event.Gives value) = false
wishes number (event.Tests value) = false
wishes number (event.Sets slot before after) = false
wishes number (event.Times kind timer) = false
wishes number (event.Commands kind a b) = is_wish number kind a

-- a refused turn, where it is that of this group
abbrev pub turn_of : PlanOf → ℕ → TurnRefusal → List ℕ
turn_of plan g turn = if turn.group.0 == g then codes ", refused " ++ turn_text plan.names turn else []

-- the refused turn of a group, if one of its was
abbrev pub turns_text : PlanOf → ℕ → List TurnRefusal → List ℕ
turns_text plan g turns = flat_map (turn_of plan g) turns

-- what a group shows, and its refused turn
abbrev pub shown_text : PlanOf → Record → Option ℕ → List ℕ
shown_text plan r None = []
shown_text plan r (Some g) = codes "wished, shows " ++ (letter (slice_index_or r.picture g Red) ∷ [] ++ turns_text plan g r.turns)

-- what became of a wish for the group of a number, behind which these events come
abbrev pub wish_text : PlanOf → Record → ℤ → List Event → List ℕ
wish_text plan r number behind =
    if list_any (wishes number) behind then codes "a later one counts" else shown_text plan r (group_of plan number)

-- what became of a command where the pass had no fault
abbrev pub done_text : PlanOf → Record → Answered → CommandKind → ℤ → ℤ → List Event → List ℕ
done_text plan r done Interstage a b behind = interstage_text r done a b
done_text plan r done SgGreen a b behind = wish_text plan r a behind
done_text plan r done SgRed a b behind = wish_text plan r a behind
done_text plan r done ClearFronts a b behind = codes "from the next second on"
done_text plan r done ClearRears a b behind = codes "from the next second on"
done_text plan r done SetCycle a b behind = codes "from the next second on"

-- the same, where a fault takes all commands back
abbrev pub became_by : Option Fault → List ℕ → List ℕ
became_by None text = text
became_by (Some fault) text = codes "taken back"

-- What became of a command, behind which these events come.
abbrev pub became_text : PlanOf → Record → Answered → CommandKind → ℤ → ℤ → List Event → List ℕ
became_text plan r done kind a b behind = became_by r.fault (done_text plan r done kind a b behind)
