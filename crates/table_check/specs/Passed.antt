-- What is held between two records of a table.
use Rattle.std.specs.Prelude.{◌≡◌, ◌+◌, ℕ, Bool, true, List, [], ◌∷◌, length, Option}
use Rattle.pua_model.specs.Plan.{PlanOf}
use Rattle.sig_tables.specs.Records.{Row, is_header}
use Rattle.sig_tables.specs.Refusals.{Refusal, numbered}
use Rattle.table_check.specs.declared.rows.Rows.{Rows}
use Rattle.table_check.specs.declared.table.Table.{Table}
use Rattle.table_check.specs.Read.{HasRead}
use Rattle.table_check.specs.Refused.{headers_in, record_reason, refused_each}
use Rattle.table_check.specs.Seen.{HasSeenBy}

-- the header and the records before number n were read
pub record HasPassed (plan : Option PlanOf) (table : Table) (text : List ℕ) (r : Rows) (fields n : ℕ) (seen : List Bool)
    (refused : List Refusal) : Type 0 where
  pub header : Row
  pub before : List Row
  pub read : HasRead r text (header ∷ before)
  pub right : is_header (headers_in table) header ≡ true
  pub fields_are : length header ≡ fields
  pub number : n ≡ length before + 2
  pub sees : HasSeenBy plan table before seen
  pub size : length seen ≡ 4096
  pub refused_are : refused ≡ refused_each (numbered (record_reason plan table fields)) [] before
