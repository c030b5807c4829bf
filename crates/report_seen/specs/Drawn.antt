-- A diagram while the records of a log are read.
use Rattle.std.specs.Prelude.{◌≡◌, ℕ, ◌+◌, ◌<◌, ◌≤◌, max, min, List, [], length, slice_index_or}
use Rattle.std.specs.List.{flat_map}
use Rattle.sig_types.specs.declared.numbers.StagePlace.{StagePlace}
use Rattle.sig_types.specs.declared.record.Record.{Record}
use Rattle.sig_types.specs.Turns.{History}
use Rattle.log_chart.specs.declared.cover.Cover.{Cover}
use Rattle.log_chart.specs.Spans.{AreSpans, IsChart}
use Rattle.log_chart.specs.Covers.{IsCover}
use Rattle.log_read.specs.Records.{IsEntry}
use Rattle.log_sums.specs.Told.{AgreesTo, fronts_by, rears_by, told}
use Rattle.log_svg.specs.declared.diagram.Diagram.{Diagram}
use Rattle.report_seen.specs.Gathered.{faults_in, fronts_in, history_of, places_of, refusals_in, window_in}

-- record k of these is that of second k, as a line of a log of these groups says it
abbrev pub AreSaid : List (List ℕ) → List Record → Type 0
AreSaid names records =
    (k : ℕ) (d : Record) → k < length records → (line : List ℕ) × IsEntry names (k + 1) line (slice_index_or records k d)

-- the second before which the chart of a window ends where so many records were read
abbrev pub past_of : ℕ → ℕ → ℕ → ℕ
past_of from to count = max from (min to count + 1)

-- a history has these pictures up to second n
abbrev pub ShowsTo : History → History → ℕ → Type 0
ShowsTo h shown n = (t : ℕ) → t ≤ n → slice_index_or h t [] ≡ slice_index_or shown t []

-- a run is at these places up to second n
abbrev pub IsAtTo : (ℕ → StagePlace) → (ℕ → StagePlace) → ℕ → Type 0
IsAtTo a places n = (t : ℕ) → t ≤ n → a t ≡ places t

-- what the diagram of a window shows of these records, whatever follows them
pub record IsDrawn (names : List (List ℕ)) (records : List Record) (from to : ℕ) (d : Diagram) : Type 0 where
  pub names_are : d.names.items ≡ names
  pub from_is : d.from ≡ from
  pub to_is : d.to ≡ to
  pub begins : d.chart.from ≡ from
  pub past_is : d.chart.past ≡ past_of from to (length records)
  pub chart : (h : History) → ShowsTo h (history_of (length names) records) (length records) →
      IsChart h (length names) from d.chart.past d.chart.rows
  pub stays : (a : ℕ → StagePlace) → IsAtTo a (places_of records) (length records) → AreSpans a from d.chart.past d.stays.items
  pub fronts : d.fronts.items ≡ flat_map fronts_in (window_in from to records)
  pub refusals : d.refusals.items ≡ flat_map refusals_in (window_in from to records)
  pub faults : d.faults.items ≡ flat_map faults_in (window_in from to records)

-- what is known of the detectors behind those of these records that are not after second `to`, whatever follows them
pub record AreCovered (records : List Record) (from to : ℕ) (covers : List Cover) : Type 0 where
  pub size : length covers ≡ 64
  pub each : (p : ℕ) (d : Cover) (f r : ℕ → ℕ) → p < 64 → AgreesTo f (told (fronts_by p) 0 records) (length records) →
      AgreesTo r (told (rears_by p) 0 records) (length records) → IsCover f r from (min to (length records)) (slice_index_or covers p d)
