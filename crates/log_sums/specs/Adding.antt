-- Sums while the records of a log are read.
use Rattle.std.specs.Prelude.{◌≡◌, ℕ, ◌+◌, ◌<◌, ◌≤◌, nat_lt, List, [], length, map, slice_index_or, take}
use Rattle.sig_types.specs.declared.aspect.Aspect.{Aspect}
use Rattle.sig_types.specs.declared.aspect.Aspect.TheVariants.{Red}
use Rattle.sig_types.specs.declared.record.Record.{Record}
use Rattle.sig_types.specs.declared.refused.StageRefusal.{StageRefusal}
use Rattle.sig_types.specs.declared.refused.TurnRefusal.{TurnRefusal}
use Rattle.log_sums.specs.declared.detector.DetectorSums.{DetectorSums}
use Rattle.log_sums.specs.declared.group.GroupSums.{GroupSums}
use Rattle.log_sums.specs.declared.tally.Tally.{Tally}
use Rattle.log_sums.specs.Detectors.{AreDetectorSums}
use Rattle.log_sums.specs.Groups.{AreGroupSums, greens_of}
use Rattle.log_sums.specs.Keys.{command_code, fault_code, place_code, turn_code}
use Rattle.log_sums.specs.Spells.{begins, last_to}
use Rattle.log_sums.specs.Tallies.{AreTallies}
use Rattle.log_sums.specs.declared.sums.LogSums.{LogSums}
use Rattle.log_sums.specs.Early.{early_of}
use Rattle.log_sums.specs.Serves.{AddServes}
use Rattle.log_sums.specs.Told.{AgreesTo, alone, commands_by, faults_by, fronts_by, places_by, rears_by, rules_by, shown_by, told, turns_by}

-- tallies of what f tells of these records, whatever follows them
abbrev pub AddTallies : {K : Type 0} → (K → ℕ) → (Record → List K) → ℕ → List Record → List (Tally K) → Type 0
AddTallies code f from records xs = (a : ℕ → List _) → AgreesTo a (told f [] records) (length records) → AreTallies code a from (length records) xs

-- what these records add up to, whatever follows them
pub record AddsUp (groups from : ℕ) (records : List Record) (x : LogSums) : Type 0 where
  pub seconds_are : x.seconds ≡ length records
  pub groups_are : (g : ℕ) (d : GroupSums) → g < groups → (a : ℕ → Aspect) → AgreesTo a (told (shown_by g) Red records) (length records) →
      AreGroupSums a from (length records) (slice_index_or x.groups g d)
  pub size : length x.detectors ≡ 64
  pub detectors_are : (p : ℕ) (d : DetectorSums) → p < 64 → (f r : ℕ → ℕ) → AgreesTo f (told (fronts_by p) 0 records) (length records) →
      AgreesTo r (told (rears_by p) 0 records) (length records) → AreDetectorSums f r from (length records) (slice_index_or x.detectors p d)
  pub places_are : AddTallies place_code places_by from records x.places.items
  pub commands_are : AddTallies command_code commands_by from records x.commands.items
  pub turns_are : AddTallies turn_code turns_by from records x.turns.items
  pub rules_are : AddTallies turn_code rules_by from records x.rules.items
  pub early_are : (shown : ℕ → ℕ → Aspect) (turns : ℕ → List TurnRefusal) →
      ((g : ℕ) → AgreesTo (shown g) (told (shown_by g) Red records) (length records)) → AgreesTo turns (told turns_by [] records) (length records) →
      AreTallies turn_code (early_of shown turns) from (length records) x.early.items
  pub others_are : (g : ℕ) → groups ≤ g → (a : ℕ → Aspect) → AgreesTo a (told (shown_by g) Red records) (length records) →
      last_to (begins (greens_of a)) (length records) ≡ 0
  pub faults_are : AddTallies fault_code faults_by from records x.faults.items
  pub serves_are : length records < 1048576 → AddServes from records x.serves.items

-- what the seconds up to `to` of a log add up to that begins with these records
pub record AddsUpTo (groups from to : ℕ) (records : List Record) (x : LogSums) : Type 0 where
  pub from_is : x.from ≡ from
  pub to_is : x.to ≡ to
  pub sums : AddsUp groups from (take to records) x
  pub goes_on : x.goes_on ≡ nat_lt to (length records)

-- the tallies of what was refused are those with this record too, and all else is as before
pub record AreRefusalsShown (r : Record) (old new : LogSums) : Type 0 where
  pub commands : (a : ℕ → List StageRefusal) (n : ℕ) → r.second.0 ≡ n + 1 → r.second.0 < 2147483648 → a r.second.0 ≡ r.stages →
      AreTallies command_code a old.from n old.commands.items → AreTallies command_code a old.from r.second.0 new.commands.items
  pub turns : (a : ℕ → List TurnRefusal) (n : ℕ) → r.second.0 ≡ n + 1 → r.second.0 < 2147483648 → a r.second.0 ≡ r.turns →
      AreTallies turn_code a old.from n old.turns.items → AreTallies turn_code a old.from r.second.0 new.turns.items
  pub rules : (a : ℕ → List TurnRefusal) (n : ℕ) → r.second.0 ≡ n + 1 → r.second.0 < 2147483648 → a r.second.0 ≡ map alone r.turns →
      AreTallies turn_code a old.from n old.rules.items → AreTallies turn_code a old.from r.second.0 new.rules.items
  pub from : new.from ≡ old.from
  pub to : new.to ≡ old.to
  pub seconds : new.seconds ≡ old.seconds
  pub goes_on : new.goes_on ≡ old.goes_on
  pub groups : new.groups ≡ old.groups
  pub detectors : new.detectors ≡ old.detectors
  pub places : new.places.items ≡ old.places.items
  pub faults : new.faults.items ≡ old.faults.items
  pub serves : new.serves.items ≡ old.serves.items
  pub early : new.early.items ≡ old.early.items
