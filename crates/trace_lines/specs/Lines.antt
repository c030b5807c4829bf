-- What is counted of the lines of a program in the seconds of a run.
use Rattle.std.specs.Prelude.{ℕ, Bool, false, ◌||◌, List, [], ◌∷◌, count_by, map, min, nat_lt, sum_by}
use Rattle.std.specs.List.{flat_map}
use Rattle.vap_code.specs.declared.Instr.{Instr}
use Rattle.vap_code.specs.Sights.{Sight}
use Rattle.trace_watch.specs.Counted.{answers_no, answers_yes, begins, most_counted}
use Rattle.trace_lines.specs.declared.line.Answers.{Answers}
use Rattle.trace_lines.specs.declared.line.Line.{Line}
use Rattle.trace_lines.specs.Rows.{RowOf, rows_of}

-- all that is seen in seconds
abbrev pub all_sights : List (List Sight) → List Sight
all_sights seconds = flat_map (λ sights. sights) seconds

-- a count, as far as a counter can tell
abbrev pub capped : ℕ → ℕ
capped n = min most_counted n

-- whether a statement at one of these places begins among sights
abbrev pub ran : List ℕ → List Sight → Bool
ran [] sights = false
ran (place ∷ places) sights = nat_lt 0 (count_by (begins place) sights) || ran places sights

-- in how many seconds a statement at one of these places begins
abbrev pub seconds_with : List (List Sight) → List ℕ → ℕ
seconds_with seconds places = capped (count_by (ran places) seconds)

-- how often the statement at a place begins
abbrev pub times_at : List Sight → ℕ → ℕ
times_at sights place = capped (count_by (begins place) sights)

-- how often the test at a place is answered yes, and how often no
abbrev pub answers_at : List Sight → ℕ → Answers
answers_at sights place =
    record { yes = capped (count_by (answers_yes place) sights); no = capped (count_by (answers_no place) sights) }

-- A line with a statement: in how many seconds one of its statements began, how often each of them began, and how each of its
-- tests was answered.
pub record LineOf : Type 0 where
  pub number : ℕ
  pub seconds : ℕ
  pub statements : List ℕ
  pub tests : List Answers

-- a line as the program holds it
abbrev pub line_in : Line → LineOf
line_in line =
    record { number = line.number; seconds = line.seconds; statements = line.statements.items; tests = line.tests.items }

-- what is counted of a row
abbrev pub line_of : List (List Sight) → RowOf → LineOf
line_of seconds row = record {
  number = row.line;
  seconds = seconds_with seconds row.statements;
  statements = map (times_at (all_sights seconds)) row.statements;
  tests = map (answers_at (all_sights seconds)) row.tests;
}

-- what is counted of all lines of a code that have a statement
unfoldable pub lines_counted : List Instr → List (List Sight) → List LineOf
lines_counted instrs seconds = map (line_of seconds) (rows_of instrs)

-- a sum, as far as a counter can tell
abbrev pub total_by : {X : Type 0} → (X → ℕ) → List X → ℕ
total_by number xs = capped (sum_by number xs)

-- how often statements of a line began
abbrev pub times_of : LineOf → ℕ
times_of line = total_by (λ n. n) line.statements

-- how often a test was answered yes
abbrev pub yes_of : Answers → ℕ
yes_of answers = answers.yes

-- and how often no
abbrev pub no_of : Answers → ℕ
no_of answers = answers.no
