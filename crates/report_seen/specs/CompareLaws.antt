-- What follows from what is told of two logs.
use Rattle.std.specs.Prelude.{◌≡◌, ℕ, Bool, true, false, List, None}
use Rattle.sig_types.specs.declared.record.Record.{Record}
use Rattle.log_read.specs.Readings.{IsRecords}
use Rattle.log_read.specs.declared.begin.Begin.TheVariants.{AtOne}
use Rattle.report_seen.specs.CompareForm.{Asked}
use Rattle.report_seen.specs.Told.{IsTextOf}

-- the groups of two logs have the same names in the same order, and the logs have the same records
pub record AreAlike (names others : List (List ℕ)) (rs ss : List Record) : Type 0 where
  pub names_are : names ≡ others
  pub records_are : rs ≡ ss

-- two logs are told as alike exactly where they are
abbrev pub AlikeIsTold : Type 0
AlikeIsTold = (asked : Asked) (bytes other_bytes : List ℕ) (differ : Bool) (text : List ℕ) → IsTextOf asked bytes other_bytes differ text →
    (names others : List (List ℕ)) (rs ss : List Record) → IsRecords false AtOne names bytes rs None → IsRecords false AtOne others other_bytes ss None →
    (differ ≡ false → AreAlike names others rs ss) × (differ ≡ true → AreAlike names others rs ss → ⊥)
