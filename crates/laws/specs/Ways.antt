-- The way over a plan's interstages to a stage, and the passes that take it.
use Rattle.std.specs.Prelude.{◌≡◌, ℕ, ◌+◌, ◌-◌, ◌≤◌, ◌==◌, Bool, true, List, [], ◌∷◌, Option, Some, None, if◌then◌else◌}
use Rattle.std.specs.Option.{option_or}
use Rattle.sig_types.specs.declared.numbers.Command.{Command}
use Rattle.sig_types.specs.declared.numbers.Command.TheVariants.{Interstage, SgGreen, SgRed, ClearFronts, ClearRears, SetCycle}
use Rattle.sig_types.specs.declared.numbers.StagePlace.{StagePlace}
use Rattle.sig_types.specs.declared.numbers.StagePlace.TheVariants.{NoPlan, Stage, Inter}
use Rattle.pua_model.specs.Plan.{PlanOf, length_between}
use Rattle.stage_machine.specs.Orders.{Order, over}
use Rattle.controller.specs.Second.{last_direct}

-- A way to the stage `goal` from the stages that are `on` it: each but the goal has a next one, which is on the way too, the plan has
-- an interstage to it, and `seconds` adds up the lengths of all interstages from there to the goal.
pub record IsWay (plan : PlanOf) (goal : ℕ) (on : ℕ → Bool) (next seconds : ℕ → ℕ) : Type 0 where
  pub there : seconds goal ≡ 0
  pub leads : (stage : ℕ) → on stage ≡ true → (stage ≡ goal → ⊥) →
      (length : ℕ) × ((length_between plan stage (next stage) ≡ Some length) × (1 ≤ length)
      × (seconds stage ≡ length + seconds (next stage)) × (on (next stage) ≡ true))

-- the stage to which the last order leads, which stands first; without an order the starting stage
abbrev pub heading : PlanOf → List Order → ℕ
heading plan [] = plan.start
heading plan (order ∷ before) = order.to

-- the seconds from this one on until the goal is active: the rest of the interstage that runs, and the way from its to-stage
abbrev pub left : PlanOf → (seconds : ℕ → ℕ) → List Order → (second : ℕ) → ℕ
left plan seconds [] second = seconds plan.start
left plan seconds (order ∷ before) second = (over plan order - second) + seconds order.to

-- the to-stage of a command, where it is a stage command from this stage
abbrev pub to_from : (stage : ℕ) → Command → Option ℕ
to_from stage (Interstage from to) = if stage == from.0 then Some to.0 else None
to_from stage (SgGreen group) = None
to_from stage (SgRed group) = None
to_from stage (ClearFronts detector) = None
to_from stage (ClearRears detector) = None
to_from stage (SetCycle seconds) = None

-- the to-stage of the first stage command from this stage
abbrev pub first_from : (stage : ℕ) → List Command → Option ℕ
first_from stage [] = None
first_from stage (command ∷ commands) = option_or (to_from stage command) (first_from stage commands)

-- What a pass gives that steers to the goal, by the place in which its second begins. In a stage on the way the first of its commands
-- from that stage is the one to the next; in the goal it gives none from there, and wishes no group directly. While an interstage
-- runs it may give what it likes, and in a stage any commands from other stages: they are refused.
abbrev pub Steers : (on : ℕ → Bool) → (goal : ℕ) → (next : ℕ → ℕ) → StagePlace → List Command → Type 0
Steers on goal next NoPlan commands = Unit {0}
Steers on goal next (Inter from to second) commands = Unit {0}
Steers on goal next (Stage active) commands =
    (on active.0 ≡ true → (active.0 ≡ goal → ⊥) → first_from active.0 commands ≡ Some (next active.0))
    × (active.0 ≡ goal → (first_from goal commands ≡ None) × ((group : ℕ) → last_direct group commands ≡ None))
