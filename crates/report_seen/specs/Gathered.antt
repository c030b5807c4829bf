-- What a diagram gathers of the records of a log.
use Rattle.std.specs.Prelude.{◌≡◌, ℕ, ◌+◌, ◌-◌, ◌<◌, ◌==◌, Bool, if◌then◌else◌}
use Rattle.std.specs.Prelude.{List, [], ◌∷◌, ◌++◌, length, map, take, drop, replicate, slice_index_or, Option, Some, None}
use Rattle.std.specs.List.{flat_map}
use Rattle.sig_types.specs.declared.aspect.Aspect.TheVariants.{Red}
use Rattle.sig_types.specs.declared.numbers.StagePlace.{StagePlace}
use Rattle.sig_types.specs.declared.numbers.StagePlace.TheVariants.{NoPlan}
use Rattle.sig_types.specs.declared.record.Record.{Record}
use Rattle.sig_types.specs.declared.refused.Fault.{Fault}
use Rattle.sig_types.specs.declared.refused.StageRefusal.{StageRefusal}
use Rattle.sig_types.specs.declared.refused.TurnRefusal.{TurnRefusal}
use Rattle.sig_types.specs.Turns.{History}
use Rattle.log_sums.specs.Detectors.{occupied}
use Rattle.log_sums.specs.Told.{fronts_by, rears_by, told}
use Rattle.log_chart.specs.Spans.{AreSpans, IsChart}
use Rattle.log_chart.specs.Stays.{without_second}
use Rattle.log_svg.specs.declared.fronts.FrontMark.{FrontMark}
use Rattle.log_svg.specs.declared.marks.FaultMark.{FaultMark}
use Rattle.log_svg.specs.declared.marks.Refused.TheVariants.{Command, Turn}
use Rattle.log_svg.specs.declared.marks.RefusalMark.{RefusalMark}
use Rattle.log_svg.specs.Diagram.{Shown}

-- the history of a log: all groups are red in second 0, and show the picture of its record in each second after it
abbrev pub history_of : ℕ → List Record → History
history_of groups records = replicate groups Red ∷ map (λ r. r.picture) records

-- the place of the run in second t
abbrev pub places_of : List Record → ℕ → StagePlace
places_of records t = without_second (slice_index_or (NoPlan ∷ map (λ r. r.place) records) t NoPlan)

-- the detector at this place, which is its number less 1, is covered at the end of second t: its fronts so far are more than its
-- rears so far
abbrev pub covered_in : List Record → ℕ → ℕ → Bool
covered_in records p t = occupied (told (fronts_by p) 0 records) (told (rears_by p) 0 records) t

-- the records of the seconds from `from` to `to`
abbrev pub window_in : ℕ → ℕ → List Record → List Record
window_in from to records = take (to + 1 - from) (drop (from - 1) records)

-- the mark of a detector's fronts, if it has any
abbrev pub front_by : ℕ → ℕ → ℕ → List FrontMark
front_by second d fronts = if fronts == 0 then [] else record { second = second; detector = record { 0 = d }; fronts = fronts } ∷ []

-- the fronts of the detectors from detector d on
abbrev pub fronts_from : ℕ → ℕ → List (ℕ × ℕ) → List FrontMark
fronts_from second d [] = []
fronts_from second d (c ∷ cs) = front_by second d c.0 ++ fronts_from second (d + 1) cs

-- the marks of the fronts of a record
abbrev pub fronts_in : Record → List FrontMark
fronts_in r = fronts_from r.second.0 1 r.frame

-- the marks of refused stage commands
abbrev pub commands_by : ℕ → List StageRefusal → List RefusalMark
commands_by second stages = map (λ x. record { second = second; refused = Command x }) stages

-- the marks of refused turns
abbrev pub turns_by : ℕ → List TurnRefusal → List RefusalMark
turns_by second turns = map (λ x. record { second = second; refused = Turn x }) turns

-- the refused commands of a record: the stage commands and then the turns
abbrev pub refusals_in : Record → List RefusalMark
refusals_in r = commands_by r.second.0 r.stages ++ turns_by r.second.0 r.turns

-- the mark of a fault, where there is one
abbrev pub fault_by : ℕ → Option Fault → List FaultMark
fault_by second None = []
fault_by second (Some fault) = record { second = second; fault = fault } ∷ []

-- the mark of the fault of a record
abbrev pub faults_in : Record → List FaultMark
faults_in r = fault_by r.second.0 r.fault

-- what a diagram shows of a log with these records
pub record IsGathered (names : List (List ℕ)) (records : List Record) (from to : ℕ) (s : Shown) : Type 0 where
  pub names_are : s.names ≡ names
  pub from_is : s.from ≡ from
  pub to_is : s.to ≡ to
  pub chart : IsChart (history_of (length names) records) (length names) from (to + 1) s.rows
  pub stays : AreSpans (places_of records) from (to + 1) s.stays
  pub fronts : s.fronts ≡ flat_map fronts_in (window_in from to records)
  pub size : length s.covers ≡ 64
  pub covers : (p : ℕ) → p < 64 → AreSpans (covered_in records p) from (to + 1) (slice_index_or s.covers p [])
  pub refusals : s.refusals ≡ flat_map refusals_in (window_in from to records)
  pub faults : s.faults ≡ flat_map faults_in (window_in from to records)
