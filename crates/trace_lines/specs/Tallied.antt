-- What has been tallied of a run.
use Rattle.std.specs.Prelude.{◌≡◌, ℕ, ◌+◌, ◌<◌, Bool, false, ◌||◌, List, [], ◌∷◌, All, if◌then◌else◌, length, map, nat_lt, slice_index_or}
use Rattle.vap_code.specs.declared.Instr.{Instr}
use Rattle.vap_code.specs.Sights.{Sight}
use Rattle.trace_watch.specs.declared.counts.Counts.{Counts}
use Rattle.trace_watch.specs.Counted.{HasCounted, HasPlaces}
use Rattle.trace_lines.specs.declared.line.Answers.{Answers}
use Rattle.trace_lines.specs.declared.tally.Tally.{Tally}
use Rattle.trace_lines.specs.Lines.{LineOf, all_sights, capped, seconds_with}
use Rattle.trace_lines.specs.Rows.{IsRowWithin, RowOf, row_in, rows_of}

-- no line
abbrev pub no_row : RowOf
no_row = record { line = 0; statements = []; tests = [] }

-- the row at a place
abbrev pub row_at : List RowOf → ℕ → RowOf
row_at rows r = slice_index_or rows r no_row

-- whether a statement at one of these places was counted
abbrev pub any_begun : List ℕ → List ℕ → Bool
any_begun begun [] = false
any_begun begun (place ∷ places) = nat_lt 0 (slice_index_or begun place 0) || any_begun begun places

-- a count of seconds, with one second more if it is such
abbrev pub with_second : ℕ → Bool → ℕ
with_second n such = if such then capped (n + 1) else n

-- how often a statement was counted at a place
abbrev pub begun_in : Counts → ℕ → ℕ
begun_in counts place = slice_index_or counts.begun.items place 0

-- how the test at a place was counted
abbrev pub answers_in : Counts → ℕ → Answers
answers_in counts place =
    record { yes = slice_index_or counts.yes.items place 0; no = slice_index_or counts.no.items place 0 }

-- what was counted of a row that ran in so many seconds
abbrev pub line_by : Counts → ℕ → RowOf → LineOf
line_by counts seconds row = record {
  number = row.line;
  seconds = seconds;
  statements = map (begun_in counts) row.statements;
  tests = map (answers_in counts) row.tests;
}

-- The rows of a code were tallied in these seconds: all that was counted, and in how many of the seconds each row ran.
pub record IsTallied (rows : List RowOf) (ran : List ℕ) (all : Counts) (instrs : List Instr) (seconds : List (List Sight)) : Type 0 where
  pub rows_are : rows ≡ rows_of instrs
  pub within : All (IsRowWithin (length instrs)) rows
  pub has_places : HasPlaces all (length instrs)
  pub counted : HasCounted all (all_sights seconds)
  pub long : length ran ≡ length rows
  pub with_statement : (r : ℕ) → r < length rows → slice_index_or ran r 0 ≡ seconds_with seconds (row_at rows r).statements

-- these seconds of a code with these instructions were tallied, and the next one can be counted at all its places
abbrev pub HasTallied : Tally → List Instr → List (List Sight) → Type 0
HasTallied t instrs seconds =
    IsTallied (map row_in t.rows.items) t.seconds.items t.all instrs seconds × HasPlaces t.second (length instrs)
