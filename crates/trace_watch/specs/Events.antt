-- What happens in a pass, in order, of what is seen of it.
use Rattle.std.specs.Prelude.{◌≡◌, ℕ, zero, suc, Bool, true, false, List, [], ◌∷◌, ◌++◌, Option, None, Some, ℤ, pos, Result, Ok, Err, slice_get, slice_index_or, take, length}
use Rattle.sig_types.specs.Arity.{reading_arity, command_arity}
use Rattle.sig_types.specs.declared.kinds.FaultKind.{FaultKind}
use Rattle.sig_types.specs.declared.kinds.TimerKind.TheVariants as timer
use Rattle.sig_types.specs.Number.{Answer}
use Rattle.sig_types.specs.Pass.{cell}
use Rattle.vap_code.specs.declared.Instr.{Instr}
use Rattle.vap_code.specs.declared.Instr.TheVariants as instr
use Rattle.vap_code.specs.Machine.{State}
use Rattle.vap_code.specs.Sights.{Sight}
use Rattle.trace_watch.specs.declared.event.Event.{Event}
use Rattle.trace_watch.specs.declared.event.Event.TheVariants.{Begins, Returns, Wants, Calls, Reads, Takes, Gives, Tests, Sets, Times, Commands}
use Rattle.trace_watch.specs.declared.event.Slot.TheVariants.{Variable, Timer, Cell}

-- the operand that lies so many places under the top one; 0 where there is none
abbrev pub number_at : State → ℕ → ℤ
number_at s depth = slice_index_or s.operands depth (pos 0)

-- the first number of a word that has so many, 0 where it has none
abbrev pub first_number : ℕ → State → ℤ
first_number zero s = pos 0
first_number (suc zero) s = number_at s 0
first_number (suc (suc n)) s = number_at s 1

-- and the second one
abbrev pub second_number : ℕ → State → ℤ
second_number zero s = pos 0
second_number (suc zero) s = pos 0
second_number (suc (suc n)) s = number_at s 0

-- the value of an answer, if it is one
abbrev pub cell_value : Answer → Option ℤ
cell_value (Ok v) = Some v
cell_value (Err kind) = None

-- a tick, with these units: the flag tells whether it spends the unit of a way back
abbrev pub tick_event : Bool → ℕ → ℕ → Event
tick_event back line zero = Wants line
tick_event true line (suc units) = Returns line
tick_event false line (suc units) = Begins line

-- whether an instruction goes back to a caller, of which these places are noted; the last one of a pass goes back to nobody
abbrev pub goes_back : Instr → List ℕ → Bool
goes_back instr.Ret (place ∷ noted) = true
goes_back i noted = false

-- whether an instruction takes a value: that of a reading, a variable, a timer or a cell
abbrev pub is_taking : Instr → Bool
is_taking (instr.Read kind) = true
is_taking (instr.Load x) = true
is_taking (instr.Timer t) = true
is_taking (instr.Cell a) = true
is_taking i = false

-- what an instruction does; the flag tells whether the one before went back to a caller
abbrev pub event_of : Bool → Instr → State → List Event
event_of back (instr.Tick line) s = tick_event back line s.units ∷ []
event_of back (instr.Call r) s = Calls r ∷ []
event_of back (instr.Read kind) s = Reads kind (first_number (reading_arity kind) s) (second_number (reading_arity kind) s) ∷ []
event_of back (instr.Load x) s = Takes (Variable x) ∷ []
event_of back (instr.Timer t) s = Takes (Timer t) ∷ []
event_of back (instr.Cell a) s = Takes (Cell a (number_at s 0)) ∷ []
event_of back (instr.JumpZero place) s = Tests (number_at s 0) ∷ []
event_of back (instr.Store x) s = Sets (Variable x) (slice_get s.store.variables x) (number_at s 0) ∷ []
event_of back (instr.SetCell a) s = Sets (Cell a (number_at s 1)) (cell_value (cell s.store a (number_at s 1))) (number_at s 0) ∷ []
event_of back (instr.Start t) s = Times timer.Start t ∷ []
event_of back (instr.Stop t) s = Times timer.Stop t ∷ []
event_of back (instr.Reset t) s = Times timer.Reset t ∷ []
event_of back (instr.Do kind) s = Commands kind (first_number (command_arity kind) s) (second_number (command_arity kind) s) ∷ []
event_of back i s = []

-- the value that the instruction before has put on top, if it takes one
abbrev pub value_behind : Bool → State → List Event
value_behind true s = Gives (number_at s 0) ∷ []
value_behind false s = []

-- what is known of the sight before: whether it takes a value, and whether it goes back to a caller
pub record Behind : Type 0 where
  pub taking : Bool
  pub back : Bool

-- before the first sight
abbrev pub at_first : Behind
at_first = record { taking = false; back = false }

-- behind a sight
abbrev pub behind : Sight → Behind
behind s = record { taking = is_taking s.instr; back = goes_back s.instr s.state.noted }

-- what happens at a sight: the value that was taken before, and what the instruction does
abbrev pub events_at : Behind → Sight → List Event
events_at before s = value_behind before.taking s.state ++ event_of before.back s.instr s.state

-- what happens in these sights
abbrev pub events_from : Behind → List Sight → List Event
events_from before [] = []
events_from before (s ∷ sights) = events_at before s ++ events_from (behind s) sights

-- what happens in the sights of a pass
abbrev pub events_of : List Sight → List Event
events_of sights = events_from at_first sights
