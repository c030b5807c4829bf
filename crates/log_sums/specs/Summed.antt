-- What the records of a log add up to.
use Rattle.std.specs.Prelude.{◌≡◌, ℕ, ◌<◌, nat_lt, List, [], length, slice_index_or, take}
use Rattle.sig_types.specs.declared.aspect.Aspect.TheVariants.{Red}
use Rattle.sig_types.specs.declared.record.Record.{Record}
use Rattle.log_sums.specs.declared.detector.DetectorSums.{DetectorSums}
use Rattle.log_sums.specs.declared.group.GroupSums.{GroupSums}
use Rattle.log_sums.specs.Detectors.{AreDetectorSums}
use Rattle.log_sums.specs.Groups.{AreGroupSums}
use Rattle.log_sums.specs.Keys.{command_code, fault_code, place_code, turn_code}
use Rattle.log_sums.specs.Tallies.{AreTallies}
use Rattle.log_sums.specs.declared.sums.LogSums.{LogSums}
use Rattle.log_sums.specs.Early.{early_of}
use Rattle.log_sums.specs.Serves.{AreServed}
use Rattle.log_sums.specs.Told.{commands_by, faults_by, fronts_by, places_by, rears_by, rules_by, shown_by, told, turns_by}

-- What these records add up to, of so many groups, where seconds from `from` on count. Fronts in green are told of fewer than 1,048,576
-- records; a log has at most 604,801.
pub record AreSums (groups from : ℕ) (records : List Record) (x : LogSums) : Type 0 where
  pub seconds_are : x.seconds ≡ length records
  pub groups_are : (g : ℕ) (d : GroupSums) → g < groups →
      AreGroupSums (told (shown_by g) Red records) from (length records) (slice_index_or x.groups g d)
  pub size : length x.detectors ≡ 64
  pub detectors_are : (p : ℕ) (d : DetectorSums) → p < 64 →
      AreDetectorSums (told (fronts_by p) 0 records) (told (rears_by p) 0 records) from (length records) (slice_index_or x.detectors p d)
  pub places_are : AreTallies place_code (told places_by [] records) from (length records) x.places.items
  pub commands_are : AreTallies command_code (told commands_by [] records) from (length records) x.commands.items
  pub turns_are : AreTallies turn_code (told turns_by [] records) from (length records) x.turns.items
  pub rules_are : AreTallies turn_code (told rules_by [] records) from (length records) x.rules.items
  pub early_are : AreTallies turn_code (early_of (λ g. told (shown_by g) Red records) (told turns_by [] records)) from (length records) x.early.items
  pub faults_are : AreTallies fault_code (told faults_by [] records) from (length records) x.faults.items
  pub serves_are : length records < 1048576 → AreServed from records x.serves.items

-- what the seconds from `from` to `to` of a log with these records add up to, and whether the log goes on behind them
pub record AreSumsOf (groups from to : ℕ) (records : List Record) (x : LogSums) : Type 0 where
  pub from_is : x.from ≡ from
  pub to_is : x.to ≡ to
  pub sums : AreSums groups from (take to records) x
  pub goes_on : x.goes_on ≡ nat_lt to (length records)
