-- What a run's log says is read of it.
use Rattle.std.specs.Prelude.{◌≡◌, ◌==◌, ℕ, ◌+◌, ◌^◌, ◌<◌, ◌≤◌, true, false, List, [], ◌∷◌, ◌++◌, length, All, Option, None, Some}
use Rattle.std.specs.Option.{ForSome}
use Rattle.pua_model.specs.Plan.{are_apart, are_names}
use Rattle.sig_types.specs.declared.aspect.Rule.{Rule}
use Rattle.sig_types.specs.declared.aspect.Rule.TheVariants.{Sequence, MinGreen, MinRed, Conflict, Intergreen, Running, WrongStage, NoInterstage}
use Rattle.sig_types.specs.declared.numbers.GroupNo.{GroupNo}
use Rattle.sig_types.specs.declared.numbers.StageNo.{StageNo}
use Rattle.sig_types.specs.declared.numbers.StagePlace.{StagePlace}
use Rattle.sig_types.specs.declared.numbers.StagePlace.TheVariants.{NoPlan, Stage, Inter}
use Rattle.sig_types.specs.declared.record.Record.{Record}
use Rattle.sig_types.specs.declared.refused.StageRefusal.{StageRefusal}
use Rattle.sig_types.specs.Limits.{last_line}
use Rattle.sig_types.specs.Recorded.{IsRecord}
use Rattle.signal_log.specs.Laws.{IsBounded}
use Rattle.signal_log.specs.Log.{log_text}
use Rattle.log_read.specs.declared.refusal.LogWhy.{LogWhy}
use Rattle.log_read.specs.Readings.{IsRecords}
use Rattle.log_read.specs.declared.begin.Begin.TheVariants.{AtOne}
use Rattle.log_read.specs.Watchers.{is_watch, told_lines}

-- names of the groups of a plan: 1 to 64, of which none stands twice, in any case
pub record AreGroups (names : List (List ℕ)) : Type 0 where
  pub some : 1 ≤ length names
  pub few : length names ≤ 64
  pub names_are : are_names names ≡ true
  pub apart : are_apart names ≡ true

-- a number of a stage that a plan can have
abbrev pub IsStage : StageNo → Type 0
IsStage stage = (1 ≤ stage.0) × (stage.0 ≤ 32)

-- no stages, a stage that a plan can have, or second 0 to 125 of an interstage between two of these
abbrev pub IsPlace : StagePlace → Type 0
IsPlace NoPlan = Unit {0}
IsPlace (Stage s) = IsStage s
IsPlace (Inter from to t) = IsStage from × IsStage to × (t ≤ 125)

-- a rule that a stage command breaks
abbrev pub IsOfCommands : Rule → Type 0
IsOfCommands Sequence = ⊥
IsOfCommands MinGreen = ⊥
IsOfCommands MinRed = ⊥
IsOfCommands Conflict = ⊥
IsOfCommands Intergreen = ⊥
IsOfCommands Running = Unit {0}
IsOfCommands WrongStage = Unit {0}
IsOfCommands NoInterstage = Unit {0}

-- a refused stage command between stages that a plan can have, by a rule of stage commands
pub record IsRefusedCommand (r : StageRefusal) : Type 0 where
  pub from : IsStage r.from
  pub to : IsStage r.to
  pub rule : IsOfCommands r.rule

-- a rule that a turn breaks, with another group exactly where the rule speaks of two
abbrev pub IsOfTurns : Rule → Option GroupNo → Type 0
IsOfTurns Sequence other = other ≡ None
IsOfTurns MinGreen other = other ≡ None
IsOfTurns MinRed other = other ≡ None
IsOfTurns Conflict other = (group : GroupNo) × (other ≡ Some group)
IsOfTurns Intergreen other = (group : GroupNo) × (other ≡ Some group)
IsOfTurns Running other = ⊥
IsOfTurns WrongStage other = ⊥
IsOfTurns NoInterstage other = ⊥

-- The record of second k of so many groups, with values as a run has them: it is bounded, its place and its refused stage
-- commands name stages that a plan can have, its counts have 32 bits, each refusal has a rule of its kind, and a fault names a
-- line that a program can have.
pub record IsOfRun (groups k : ℕ) (r : Record) : Type 0 where
  pub second : r.second.0 ≡ k
  pub parts : IsRecord groups r
  pub bounded : IsBounded r
  pub place : IsPlace r.place
  pub counts : All (λ c. (c.0 < 2 ^ 32) × (c.1 < 2 ^ 32)) r.frame
  pub commands : All IsRefusedCommand r.stages
  pub turns : All (λ turn. IsOfTurns turn.rule turn.other) r.turns
  pub fault : ForSome r.fault (λ fault. fault.line ≤ last_line)

-- the records of the seconds from k on are such
abbrev pub AreOfRun : ℕ → ℕ → List Record → Type 0
AreOfRun groups k [] = Unit {0}
AreOfRun groups k (r ∷ rs) = IsOfRun groups k r × AreOfRun groups (k + 1) rs

-- records of at most 604,801 seconds from second 1 on, of groups with these names
pub record IsLoggedRun (names : List (List ℕ)) (records : List Record) : Type 0 where
  pub groups : AreGroups names
  pub few : length records ≤ 604801
  pub records_are : AreOfRun (length names) 1 records

-- A log that a run writes is accepted to its end: its header names these groups, and its lines say these records, each with its
-- second, its stage or interstage, its aspects, its counts, what was refused with rule and groups, and its fault.
abbrev pub WrittenIsRead : Type 0
WrittenIsRead = (names : List (List ℕ)) (records : List Record) → IsLoggedRun names records →
    IsRecords false AtOne names (log_text names records) records None

-- Nothing else is read of it: whatever names, records and refused line are an answer to its text, they are these names and these
-- records, and no line is refused.
abbrev pub OnlyWrittenIsRead : Type 0
OnlyWrittenIsRead =
    (names others : List (List ℕ)) (records read : List Record) (refused : Option (ℕ × LogWhy)) → IsLoggedRun names records →
    IsRecords false AtOne others (log_text names records) read refused → (others ≡ names) × (read ≡ records) × (refused ≡ None)

-- Behind such a log a watcher's line changes nothing of the lines that tell it, whatever stands behind that line.
abbrev pub WatcherIsBehindLog : Type 0
WatcherIsBehindLog = (names : List (List ℕ)) (records : List Record) (line rest : List ℕ) → All (λ b. (b == 10) ≡ false) line →
    is_watch line ≡ true → told_lines (log_text names records ++ (line ++ 10 ∷ rest)) ≡ told_lines (log_text names records)
