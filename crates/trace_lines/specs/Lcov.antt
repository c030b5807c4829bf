-- The counts of lines as a tracefile of LCOV.
use Rattle.std.specs.Prelude.{ℕ, ◌+◌, ◌*◌, Bool, ◌&&◌, ◌==◌, List, [], ◌∷◌, ◌++◌, codes, count_by, if◌then◌else◌, length, nat_lt, slice_index_or}
use Rattle.std.specs.Fmt.{decimal}
use Rattle.std.specs.List.{flat_map}
use Rattle.trace_lines.specs.declared.line.Answers.{Answers}
use Rattle.trace_lines.specs.Lines.{LineOf, times_of, total_by}

-- how often a branch was taken; `-` where its test was never answered
abbrev pub taken_text : Answers → ℕ → List ℕ
taken_text test n = if test.yes == 0 && test.no == 0 then codes "-" else decimal n

-- the record of a branch: line, block, branch, how often
abbrev pub branch_text : ℕ → ℕ → ℕ → Answers → ℕ → List ℕ
branch_text line block branch test n =
    codes "BRDA:" ++ decimal line ++ codes "," ++ decimal block ++ codes "," ++ decimal branch ++ codes "," ++ taken_text test n ++ codes "\n"

-- the records of a test: branch 0 is yes, branch 1 is no
unfoldable pub test_text : ℕ → ℕ → Answers → List ℕ
test_text line block test = branch_text line block 0 test test.yes ++ branch_text line block 1 test test.no

-- the test at a place
abbrev pub test_at : List Answers → ℕ → Answers
test_at tests k = slice_index_or tests k (record { yes = 0; no = 0 })

-- the records of the tests of a line, whose blocks count from this number
abbrev pub tests_text : ℕ → ℕ → List Answers → List ℕ
tests_text line block [] = []
tests_text line block (test ∷ tests) = test_text line block test ++ tests_text line (block + 1) tests

-- those of a line
abbrev pub branches_text : LineOf → List ℕ
branches_text line = tests_text line.number 0 line.tests

-- the record of a line: how often its statements began
unfoldable pub line_text : LineOf → List ℕ
line_text line = codes "DA:" ++ (decimal line.number ++ (codes "," ++ (decimal (times_of line) ++ codes "\n")))

-- how many branches the tests of a line have
abbrev pub branches_of : LineOf → ℕ
branches_of line = 2 * length line.tests

-- 1 where a branch was taken
abbrev pub taken : ℕ → ℕ
taken n = if nat_lt 0 n then 1 else 0

-- how many branches of a test were taken
abbrev pub taken_in : Answers → ℕ
taken_in test = taken test.yes + taken test.no

-- how many branches of a line were taken
abbrev pub taken_of : LineOf → ℕ
taken_of line = total_by taken_in line.tests

-- whether a statement of a line began
abbrev pub was_reached : LineOf → Bool
was_reached line = nat_lt 0 (times_of line)

-- a record of a number, behind its name
abbrev pub number_text : List ℕ → ℕ → List ℕ
number_text name n = name ++ (decimal n ++ codes "\n")

-- the tracefile of a program with this name
unfoldable pub lcov_text : List ℕ → List LineOf → List ℕ
lcov_text name lines =
    codes "SF:" ++ name ++ codes "\n" ++ flat_map branches_text lines
    ++ number_text (codes "BRF:") (total_by branches_of lines) ++ number_text (codes "BRH:") (total_by taken_of lines)
    ++ flat_map line_text lines
    ++ number_text (codes "LF:") (length lines) ++ number_text (codes "LH:") (count_by was_reached lines)
    ++ codes "end_of_record\n"
