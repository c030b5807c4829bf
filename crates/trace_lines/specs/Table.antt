-- The counts of lines beside the text of the program.
use Rattle.std.specs.Prelude.{ℕ, ◌+◌, ◌*◌, ◌-◌, ◌/◌, ◌==◌, Bool, ◌&&◌, List, [], ◌∷◌, ◌++◌, codes, count_by, if◌then◌else◌, length, nat_eq, nat_lt, replicate, Option, None, Some}
use Rattle.std.specs.Fmt.{decimal}
use Rattle.std.specs.List.{find}
use Rattle.trace_lines.specs.declared.line.Answers.{Answers}
use Rattle.trace_lines.specs.Csv.{answers_text}
use Rattle.trace_lines.specs.Lcov.{was_reached}
use Rattle.trace_lines.specs.Lines.{LineOf, capped, no_of, times_of, total_by, yes_of}

-- a byte before the first of these lines
abbrev pub with_byte : ℕ → List (List ℕ) → List (List ℕ)
with_byte b [] = (b ∷ []) ∷ []
with_byte b (line ∷ lines) = (b ∷ line) ∷ lines

-- the lines of a text, without the bytes 10 that end them
abbrev pub text_lines : List ℕ → List (List ℕ)
text_lines [] = []
text_lines (b ∷ bs) = if nat_eq b 10 then [] ∷ text_lines bs else with_byte b (text_lines bs)

-- bytes at the right of a column
abbrev pub right : ℕ → List ℕ → List ℕ
right width bytes = replicate (width - length bytes) 32 ++ bytes

-- in how many seconds a line ran
abbrev pub seconds_text : LineOf → List ℕ
seconds_text line = if nat_lt 0 (times_of line) then decimal line.seconds else codes "never"

-- the counts of a line; none where no statement begins in it
unfoldable pub cells_text : Option LineOf → List ℕ
cells_text None = right 43 []
cells_text (Some line) =
    right 10 (seconds_text line) ++ (right 11 (decimal (times_of line))
    ++ (right 11 (answers_text yes_of line.tests) ++ right 11 (answers_text no_of line.tests)))

-- whether a line has this number
abbrev pub is_numbered : ℕ → LineOf → Bool
is_numbered n line = line.number == n

-- a line of the text with its number, behind its counts
unfoldable pub beside_text : Option LineOf → ℕ → List ℕ → List ℕ
beside_text counts n line = cells_text counts ++ right 7 (decimal n) ++ codes ": " ++ line ++ codes "\n"

-- lines of the text, the first of which has this number
abbrev pub rows_text : List LineOf → ℕ → List (List ℕ) → List ℕ
rows_text lines n [] = []
rows_text lines n (t ∷ ts) = beside_text (find (is_numbered n) lines) n t ++ rows_text lines (n + 1) ts

-- so many in a hundred, cut to a whole number
abbrev pub share_text : ℕ → ℕ → List ℕ
share_text n all = if nat_lt 0 all then codes ", " ++ decimal (capped (n * 100) / all) ++ codes " in a hundred" else []

-- so many of all
unfoldable pub sum_text : List ℕ → ℕ → ℕ → List ℕ
sum_text name n all = name ++ decimal n ++ codes " of " ++ decimal all ++ share_text n all ++ codes "\n"

-- how many statements of a line there are, and how many of them began
abbrev pub statements_of : LineOf → ℕ
statements_of line = length line.statements

-- whether a count isn't 0
abbrev pub some : ℕ → Bool
some n = nat_lt 0 n

-- how many statements of a line began
abbrev pub begun_of : LineOf → ℕ
begun_of line = count_by some line.statements

-- how many tests a line has
abbrev pub tests_of : LineOf → ℕ
tests_of line = length line.tests

-- whether a test was answered both ways
abbrev pub is_both : Answers → Bool
is_both test = some test.yes && some test.no

-- how many tests of a line were answered both ways
abbrev pub both_of : LineOf → ℕ
both_of line = count_by is_both line.tests

-- what was reached of all
unfoldable pub sums_text : List LineOf → List ℕ
sums_text lines =
    sum_text (codes "lines reached: ") (count_by was_reached lines) (length lines)
    ++ sum_text (codes "statements reached: ") (total_by begun_of lines) (total_by statements_of lines)
    ++ sum_text (codes "tests answered both ways: ") (total_by both_of lines) (total_by tests_of lines)

-- the header, the text with its counts, and the sums
unfoldable pub table_text : List ℕ → List LineOf → List ℕ
table_text text lines =
    codes "   seconds      times        yes         no   line\n"
    ++ (rows_text lines 1 (text_lines text) ++ (codes "\n" ++ sums_text lines))
