-- A reader that has read some records of a table.
use Rattle.std.specs.Prelude.{◌≡◌, ℕ, List, true, Some}
use Rattle.std.specs.Borrow.{Bor}
use Rattle.csv.specs.Reading.{Reached, Ready, default_config, source_of, strip_bom}
use Rattle.csv.specs.declared.parser.State.TheVariants as st
use Rattle.csv.specs.declared.reader.Trim.TheVariants as trim
use Rattle.sig_tables.specs.Records.{Row}
use Rattle.table_check.specs.declared.rows.Rows.{Rows}

-- the reader has read these records of the text, and no more
pub record HasRead (r : Rows) (text : List ℕ) (rows : List Row) : Type 0 where
  pub trim : r.reader.trim ≡ trim.None
  pub flexible : r.reader.flexible ≡ true
  pub ready : Ready r.reader
  pub config : r.reader.config ≡ default_config
  pub rest : List ℕ
  pub source : source_of (λ (s : Bor (List ℕ)). Some s.now) r.reader ≡ Some rest
  pub reached : Reached default_config st.StartRecord (strip_bom text) rows r.reader.state rest
