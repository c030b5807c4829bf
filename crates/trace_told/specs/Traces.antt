-- The TRACE statements of a program, each with its place in the code and the values that it prints.
use Rattle.std.specs.Prelude.{ℕ, ◌+◌, ◌-◌, Bool, false, List, [], ◌∷◌, ◌++◌, Option, None, Some, drop, if◌then◌else◌, slice_get, slice_index_or, take}
use Rattle.vap_ast.specs.declared.name.Entry.{Entry}
use Rattle.vap_ast.specs.Syntax.{Program}
use Rattle.vap_code.specs.declared.Instr.{Instr}
use Rattle.vap_lex.specs.declared.token.Token.{Token}
use Rattle.trace_watch.specs.declared.places.Mark.{Mark}
use Rattle.trace_watch.specs.Places.{statements_in}
use Rattle.trace_told.specs.declared.columns.Column.{Column}
use Rattle.trace_told.specs.declared.brackets.Brackets.{Brackets}
use Rattle.trace_told.specs.declared.traces.Trace.{Trace}
use Rattle.trace_told.specs.Brackets.{brackets_in}
use Rattle.trace_told.specs.Named.{named_in}
use Rattle.trace_told.specs.Statements.{program_traces}

-- a TRACE: its place in the code, its line in the text, and the values that it prints
pub record TraceOf : Type 0 where
  pub place : ℕ
  pub line : ℕ
  pub columns : List Column

-- a TRACE as the program holds it
abbrev pub trace_in : Trace → TraceOf
trace_in trace = record { place = trace.place; line = trace.line; columns = trace.columns.items }

-- a mark, if it is to be taken
abbrev pub taken : Bool → Mark → List Mark
taken such m = if such then m ∷ [] else []

-- those marks, of which the first has this number, for which a list says so
abbrev pub taken_from : ℕ → List Bool → List Mark → List Mark
taken_from k flags [] = []
taken_from k flags (m ∷ ms) = taken (slice_index_or flags k false) m ++ taken_from (k + 1) flags ms

-- the tokens in brackets
abbrev pub inside : List Token → Brackets → List Token
inside tokens b = take (b.end - b.first) (drop b.first tokens)

-- the TRACE at a mark with these brackets
abbrev pub trace_at : List Entry → List Column → List Token → Mark → Option Brackets → List TraceOf
trace_at names columns tokens mark None = []
trace_at names columns tokens mark (Some b) =
    record { place = mark.place; line = mark.line; columns = named_in names columns (inside tokens b) } ∷ []

-- the TRACE statements at marks, of which the first has this number, each with the brackets of its number
abbrev pub traces_from : List Entry → List Column → List Token → List Brackets → ℕ → List Mark → List TraceOf
traces_from names columns tokens brackets k [] = []
traces_from names columns tokens brackets k (mark ∷ marks) =
    trace_at names columns tokens mark (slice_get brackets k) ++ traces_from names columns tokens brackets (k + 1) marks

-- The TRACE statements of a program with these names, with the tokens of its text and the instructions of its code: the k-th
-- statement of the code is the k-th of the tree, and the k-th TRACE of the tree has the k-th brackets of the text.
abbrev pub traces_of : List Entry → Program → List Column → List Token → List Instr → List TraceOf
traces_of names program columns tokens instrs =
    traces_from names columns tokens (brackets_in tokens) 0 (taken_from 0 (program_traces program) (statements_in instrs))
