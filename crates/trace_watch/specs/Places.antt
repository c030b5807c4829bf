-- Where in a code statements begin and tests are answered, and the lines of the text from which they come.
use Rattle.std.specs.Prelude.{ℕ, ◌+◌, ◌<◌, Bool, false, List, [], ◌∷◌, ◌++◌}
use Rattle.vap_code.specs.declared.Instr.{Instr}
use Rattle.vap_code.specs.declared.Instr.TheVariants.{Tick, JumpZero}
use Rattle.vap_code.specs.Valid.{is_call}
use Rattle.trace_watch.specs.declared.places.Mark.{Mark}

-- a mark is at a place of a code with so many instructions
abbrev pub IsWithin : ℕ → Mark → Type 0
IsWithin places m = m.place < places

-- the statement that begins with an instruction, if one does. The flag tells whether the instruction before calls a subroutine: a
-- tick behind it spends the unit of the return, and begins no statement.
abbrev pub statement_at : ℕ → Bool → Instr → List Mark
statement_at place false (Tick line) = record { place = place; line = line } ∷ []
statement_at place behind_call i = []

-- the statements from a place on
abbrev pub statements_from : ℕ → Bool → List Instr → List Mark
statements_from place behind_call [] = []
statements_from place behind_call (i ∷ is) = statement_at place behind_call i ++ statements_from (place + 1) (is_call i) is

-- the statements of a code, in the order in which they stand there
abbrev pub statements_in : List Instr → List Mark
statements_in instrs = statements_from 0 false instrs

-- the line after an instruction: that of the last tick
abbrev pub line_after : ℕ → Instr → ℕ
line_after line (Tick next) = next
line_after line i = line

-- the test that an instruction answers, if it does
abbrev pub test_at : ℕ → ℕ → Instr → List Mark
test_at place line (JumpZero target) = record { place = place; line = line } ∷ []
test_at place line i = []

-- the tests from a place on, in the statement of this line
abbrev pub tests_from : ℕ → ℕ → List Instr → List Mark
tests_from place line [] = []
tests_from place line (i ∷ is) = test_at place line i ++ tests_from (place + 1) (line_after line i) is

-- the tests of a code, in the order in which they stand there
abbrev pub tests_in : List Instr → List Mark
tests_in instrs = tests_from 0 0 instrs
