-- What a call of `log_report` answers.
use Rattle.std.specs.Prelude.{false, ◌≡◌, ℕ, ◌<◌, ◌≤◌, List, length, Some, None, Result, Ok, Err}
use Rattle.sig_types.specs.declared.record.Record.{Record}
use Rattle.log_read.specs.declared.refusal.LogWhy.{LogWhy}
use Rattle.log_read.specs.Readings.{IsRecords}
use Rattle.log_read.specs.declared.begin.Begin.TheVariants.{AtOne}
use Rattle.report_seen.specs.declared.diagram_form.Window.{Window}
use Rattle.report_seen.specs.declared.stop.Stop.{Stop}
use Rattle.report_seen.specs.declared.stop.Stop.TheVariants.{Memory, Words, TooManySeconds, ReadFault, WriteFault, Line, LogEnds}
use Rattle.log_svg.specs.declared.diagram.Diagram.{Diagram}
use Rattle.log_svg.specs.ShownIn.{shown_in}
use Rattle.report_seen.specs.Gathered.{IsGathered}

-- the log is refused at this line for this reason
abbrev pub IsRefusedAt : List ℕ → ℕ → LogWhy → Type 0
IsRefusedAt bytes line why = (names : List (List ℕ)) × ((records : List Record) × IsRecords false AtOne names bytes records (Some (line, why)))

-- all lines of the log are accepted, and it ends before second `to` with this one
abbrev pub EndsEarly : List ℕ → ℕ → ℕ → Type 0
EndsEarly bytes to last =
    (names : List (List ℕ)) × ((records : List Record) × (IsRecords false AtOne names bytes records None × (length records ≡ last) × (last < to)))

-- reading may stop so
abbrev pub IsOfReading : Stop → Type 0
IsOfReading Memory = Unit {0}
IsOfReading Words = ⊥
IsOfReading TooManySeconds = ⊥
IsOfReading ReadFault = Unit {0}
IsOfReading WriteFault = ⊥
IsOfReading (Line line why) = Unit {0}
IsOfReading (LogEnds last) = Unit {0}

-- why a log with these bytes is not drawn up to second `to`
abbrev pub IsUndrawn : List ℕ → ℕ → Stop → Type 0
IsUndrawn bytes to Memory = Unit {0}
IsUndrawn bytes to Words = ⊥
IsUndrawn bytes to TooManySeconds = ⊥
IsUndrawn bytes to ReadFault = Unit {0}
IsUndrawn bytes to WriteFault = ⊥
IsUndrawn bytes to (Line line why) = IsRefusedAt bytes line why
IsUndrawn bytes to (LogEnds last) = EndsEarly bytes to last

-- a diagram of these seconds of a log with these bytes, all of which is accepted
pub record IsDiagramOf (bytes : List ℕ) (window : Window) (d : Diagram) : Type 0 where
  pub names : List (List ℕ)
  pub records : List Record
  pub log : IsRecords false AtOne names bytes records None
  pub long : window.to ≤ length records
  pub gathered : IsGathered names records window.from window.to (shown_in d)

-- what the gathering of a diagram answers
abbrev pub IsGathering : List ℕ → Window → Result Diagram Stop → Type 0
IsGathering bytes window (Ok d) = IsDiagramOf bytes window d
IsGathering bytes window (Err stop) = IsUndrawn bytes window.to stop
