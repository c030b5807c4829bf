-- Readings, commands and slots as a program writes them.
use Rattle.std.specs.Prelude.{ℕ, zero, suc, Bool, List, [], ◌++◌, codes, ℤ, Option, None, Some, slice_index_or}
use Rattle.std.specs.Fmt.{decimal, signed_decimal}
use Rattle.sig_types.specs.declared.kinds.ReadingKind.{ReadingKind}
use Rattle.sig_types.specs.declared.kinds.ReadingKind.TheVariants as reading
use Rattle.sig_types.specs.declared.kinds.CommandKind.{CommandKind}
use Rattle.sig_types.specs.declared.kinds.CommandKind.TheVariants as command
use Rattle.sig_types.specs.declared.kinds.TimerKind.{TimerKind}
use Rattle.sig_types.specs.declared.kinds.TimerKind.TheVariants as timer
use Rattle.sig_types.specs.Arity.{reading_arity, command_arity}
use Rattle.vap_ast.specs.Syntax.{Program}
use Rattle.vap_check.specs.Names.{sub_names}
use Rattle.trace_watch.specs.declared.event.Slot.{Slot}
use Rattle.trace_watch.specs.declared.event.Slot.TheVariants.{Variable, Timer, Cell}
use Rattle.trace_told.specs.declared.columns.Column.{Column}
use Rattle.trace_told.specs.declared.columns.Column.TheVariants as column
use Rattle.trace_told.specs.Columns.{name_of}

-- the word of a reading
abbrev pub reading_word : ReadingKind → List ℕ
reading_word reading.Detection = codes "Detection"
reading_word reading.Occupancy = codes "Occupancy"
reading_word reading.Headway = codes "Headway"
reading_word reading.FrontEnds = codes "Front_ends"
reading_word reading.RearEnds = codes "Rear_ends"
reading_word reading.IsRed = codes "Current_state"
reading_word reading.IsRedAmber = codes "Current_state"
reading_word reading.IsGreen = codes "Current_state"
reading_word reading.IsAmber = codes "Current_state"
reading_word reading.TGreen = codes "T_green"
reading_word reading.TRed = codes "T_red"
reading_word reading.StageActive = codes "Stage_active"
reading_word reading.StageDuration = codes "Stage_duration"
reading_word reading.InterstageActive = codes "Interstage_active"
reading_word reading.AnyInterstage = codes "Any_interstage_active"
reading_word reading.CycleSecond = codes "T"
reading_word reading.CycleLength = codes "Tc"

-- the state that stands behind a reading's group
abbrev pub state_word : ReadingKind → List ℕ
state_word reading.Detection = []
state_word reading.Occupancy = []
state_word reading.Headway = []
state_word reading.FrontEnds = []
state_word reading.RearEnds = []
state_word reading.IsRed = codes ", red"
state_word reading.IsRedAmber = codes ", redamber"
state_word reading.IsGreen = codes ", green"
state_word reading.IsAmber = codes ", amber"
state_word reading.TGreen = []
state_word reading.TRed = []
state_word reading.StageActive = []
state_word reading.StageDuration = []
state_word reading.InterstageActive = []
state_word reading.AnyInterstage = []
state_word reading.CycleSecond = []
state_word reading.CycleLength = []

-- the word of a command
abbrev pub command_word : CommandKind → List ℕ
command_word command.Interstage = codes "Interstage"
command_word command.SgGreen = codes "Sg_green"
command_word command.SgRed = codes "Sg_red"
command_word command.ClearFronts = codes "Clear_front_ends"
command_word command.ClearRears = codes "Clear_rear_ends"
command_word command.SetCycle = codes "Set_cycle"

-- the word of what is done with a timer
abbrev pub timer_word : TimerKind → List ℕ
timer_word timer.Start = codes "Start"
timer_word timer.Stop = codes "Stop"
timer_word timer.Reset = codes "Reset"

-- one number in brackets, with more behind it
abbrev pub one_text : ℤ → List ℕ → List ℕ
one_text a more = codes "(" ++ (signed_decimal a ++ (more ++ codes ")"))

-- two numbers in brackets
abbrev pub two_text : ℤ → ℤ → List ℕ
two_text a b = codes "(" ++ (signed_decimal a ++ (codes ", " ++ (signed_decimal b ++ codes ")")))

-- as many numbers in brackets as a word has, with more behind a single one; no brackets where it has none
abbrev pub numbers_text : ℕ → ℤ → ℤ → List ℕ → List ℕ
numbers_text zero a b more = []
numbers_text (suc zero) a b more = one_text a more
numbers_text (suc (suc n)) a b more = two_text a b

-- a reading with its numbers
abbrev pub reading_text : ReadingKind → ℤ → ℤ → List ℕ
reading_text kind a b = reading_word kind ++ numbers_text (reading_arity kind) a b (state_word kind)

-- a command with its numbers
abbrev pub command_text : CommandKind → ℤ → ℤ → List ℕ
command_text kind a b = command_word kind ++ numbers_text (command_arity kind) a b []

-- the place of a cell in brackets
abbrev pub place_text : Slot → List ℕ
place_text (Variable x) = []
place_text (Timer t) = []
place_text (Cell a place) = codes "[" ++ (signed_decimal place ++ codes "]")

-- the value of whose name a slot has its own: that of a variable, a timer, or of an array, whatever its cell
abbrev pub named_as : Slot → Column
named_as (Variable x) = column.Variable x
named_as (Timer t) = column.Timer t
named_as (Cell a place) = column.Cell a 0

-- a slot by its name
abbrev pub slot_text : Program → Slot → List ℕ
slot_text p slot = name_of p (named_as slot) ++ place_text slot

-- the name of a subroutine
abbrev pub sub_text : Program → ℕ → List ℕ
sub_text p r = slice_index_or (sub_names p) r []
