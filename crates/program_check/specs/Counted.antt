-- Commands and readings of a program that want others: counts never cleared, a cycle never set, ways between stages.
use Rattle.std.specs.Prelude.{ℕ, nat_eq, ℤ, pos, Bool, true, false, not, ◌&&◌, if◌then◌else◌}
use Rattle.std.specs.Prelude.{List, [], ◌∷◌, ◌++◌, flat_map, Option, Some, None, is_some}
use Rattle.std.specs.List.{filter_map, list_any}
use Rattle.std.specs.Ordering.{int_eq}
use denote.Enum.Bare.{sameb}
use Rattle.sig_types.specs.Detectors.{detector_of}
use Rattle.sig_types.specs.contracts.kinds.CommandKind.{the_type as command_type}
use Rattle.sig_types.specs.contracts.kinds.ReadingKind.{the_type as reading_type}
use Rattle.sig_types.specs.declared.kinds.CommandKind.{CommandKind}
use Rattle.sig_types.specs.declared.kinds.CommandKind.TheVariants as command
use Rattle.sig_types.specs.declared.kinds.ReadingKind.{ReadingKind}
use Rattle.sig_types.specs.declared.kinds.ReadingKind.TheVariants as reading
use Rattle.program_check.specs.declared.calls.Call.{Call}
use Rattle.program_check.specs.declared.calls.CallKind.{CallKind}
use Rattle.program_check.specs.declared.calls.CallKind.TheVariants.{Command, Reading}
use Rattle.program_check.specs.declared.counted.Count.{Count}
use Rattle.program_check.specs.declared.counted.Count.TheVariants as count
use Rattle.program_check.specs.declared.detectors.DetectorRead.{DetectorRead}
use Rattle.program_check.specs.declared.warnings.Meant.TheVariants.{First, Name}
use Rattle.program_check.specs.declared.warnings.ProgramWarning.TheVariants.{NoSetCycle, NeverCleared}
use Rattle.program_check.specs.declared.warnings.Warned.{Warned}
use Rattle.program_check.specs.Firsts.{firsts}

-- ---- kinds

-- whether a command is of this kind
abbrev pub is_kind_of_command : CommandKind → CommandKind → Bool
is_kind_of_command = sameb command_type

-- whether a reading is of this kind
abbrev pub is_kind_of_reading : ReadingKind → ReadingKind → Bool
is_kind_of_reading = sameb reading_type

-- whether this is a command of this kind
abbrev pub is_command : CommandKind → CallKind → Bool
is_command wanted (Command kind) = is_kind_of_command kind wanted
is_command wanted (Reading kind) = false

-- whether this is a reading of this kind
abbrev pub is_reading : ReadingKind → CallKind → Bool
is_reading wanted (Command kind) = false
is_reading wanted (Reading kind) = is_kind_of_reading kind wanted

-- ---- counts that are never cleared

-- the detector that a known number names
abbrev pub known_detector : Option ℤ → Option ℕ
known_detector None = None
known_detector (Some number) = detector_of number

-- a reading of a detector, where there is one
abbrev pub read_of : Call → Option ℕ → List DetectorRead
read_of call None = []
read_of call (Some d) = record { line = call.line; kind = call.kind; detector = record { 0 = d } } ∷ []

-- the reading of a count
abbrev pub reading_of : Count → ReadingKind
reading_of count.Fronts = reading.FrontEnds
reading_of count.Rears = reading.RearEnds

-- the command that clears it
abbrev pub clearing_of : Count → CommandKind
clearing_of count.Fronts = command.ClearFronts
clearing_of count.Rears = command.ClearRears

-- the known detector of which a call reads this count
abbrev pub count_detector : Count → Call → Option ℕ
count_detector what call = if is_reading (reading_of what) call.kind then known_detector call.first else None

-- a reading of this count of a known detector
abbrev pub count_read : Count → Call → List DetectorRead
count_read what call = read_of call (count_detector what call)

-- the first reading of this count of each known detector
abbrev pub count_reads : Count → List Call → List DetectorRead
count_reads what calls = firsts nat_eq (λ r. r.detector.0) (flat_map (count_read what) calls)

-- a known number is this one, or it is not known
abbrev pub may_be : ℕ → Option ℤ → Bool
may_be d None = true
may_be d (Some number) = int_eq number (pos d)

-- a command clears this count of detector d, or may do so
abbrev pub clears : Count → ℕ → Call → Bool
clears what d call = is_command (clearing_of what) call.kind && may_be d call.first

-- the warning of the first reading of a count that no command clears
abbrev pub never_cleared : Count → List Call → DetectorRead → List Warned
never_cleared what calls r =
    if list_any (clears what r.detector.0) calls then []
    else record { line = r.line; meant = First r.kind (pos r.detector.0); warning = NeverCleared what r.detector } ∷ []

-- the counts that are read and never cleared: fronts, and then rears
abbrev pub uncleared : List Call → List Warned
uncleared calls =
    flat_map (never_cleared count.Fronts calls) (count_reads count.Fronts calls)
    ++ flat_map (never_cleared count.Rears calls) (count_reads count.Rears calls)

-- ---- the cycle

-- a reading of the cycle
abbrev pub cycle_kind : CallKind → Option ReadingKind
cycle_kind (Command kind) = None
cycle_kind (Reading reading.CycleSecond) = Some reading.CycleSecond
cycle_kind (Reading reading.CycleLength) = Some reading.CycleLength
cycle_kind (Reading reading.Detection) = None
cycle_kind (Reading reading.Occupancy) = None
cycle_kind (Reading reading.Headway) = None
cycle_kind (Reading reading.FrontEnds) = None
cycle_kind (Reading reading.RearEnds) = None
cycle_kind (Reading reading.IsRed) = None
cycle_kind (Reading reading.IsRedAmber) = None
cycle_kind (Reading reading.IsGreen) = None
cycle_kind (Reading reading.IsAmber) = None
cycle_kind (Reading reading.TGreen) = None
cycle_kind (Reading reading.TRed) = None
cycle_kind (Reading reading.StageActive) = None
cycle_kind (Reading reading.StageDuration) = None
cycle_kind (Reading reading.InterstageActive) = None
cycle_kind (Reading reading.AnyInterstage) = None

-- a reading of the cycle, as a warning of its word
abbrev pub cycle_read : ℕ → Option ReadingKind → Option Warned
cycle_read line None = None
cycle_read line (Some kind) = Some (record { line = line; meant = Name; warning = NoSetCycle kind })

-- the first of these
abbrev pub first_of : List Warned → List Warned
first_of [] = []
first_of (w ∷ ws) = w ∷ []

-- the first reading of a cycle that no command sets
abbrev pub no_set_cycle : List Call → List Warned
no_set_cycle calls =
    if list_any (λ c. is_command command.SetCycle c.kind) calls then []
    else first_of (filter_map (λ c. cycle_read c.line (cycle_kind c.kind)) calls)

-- ---- ways between stages

-- two known numbers
abbrev pub pair_of : Option ℤ → Option ℤ → List (ℤ × ℤ)
pair_of (Some from) (Some to) = (from, to) ∷ []
pair_of (Some from) None = []
pair_of None to = []

-- the two stages that a command for an interstage names, where both are known
abbrev pub way_in : Call → List (ℤ × ℤ)
way_in call = if is_command command.Interstage call.kind then pair_of call.first call.second else []

-- a command for an interstage names a stage that is not known
abbrev pub hides_way : Call → Bool
hides_way call = is_command command.Interstage call.kind && not (is_some call.first && is_some call.second)
