-- What the TRACE statements of a program print while a pass runs.
use Rattle.std.specs.Prelude.{ℕ, ◌==◌, List, [], ◌++◌, codes, if◌then◌else◌}
use Rattle.std.specs.Fmt.{decimal}
use Rattle.std.specs.List.{flat_map}
use Rattle.sig_types.specs.Counts.{Counts}
use Rattle.sig_types.specs.Pass.{Store}
use Rattle.vap_ast.specs.Syntax.{Program}
use Rattle.vap_code.specs.Codes.{CodeOf}
use Rattle.vap_code.specs.Machine.{State}
use Rattle.vap_code.specs.Sights.{Sight}
use Rattle.controller.specs.Past.{Site, Past, next_second}
use Rattle.controller.specs.Seen.{sights_in}
use Rattle.trace_watch.specs.Counted.{spends}
use Rattle.trace_told.specs.declared.columns.Column.{Column}
use Rattle.trace_told.specs.Columns.{label_of}
use Rattle.trace_told.specs.ValueRows.{value_text}
use Rattle.trace_told.specs.Traces.{TraceOf}

-- a value of a store, with its name
unfoldable pub named_value : Program → Store → Column → List ℕ
named_value p s c = codes " " ++ (label_of p c ++ (codes "=" ++ value_text s c))

-- these values
abbrev pub named_values : Program → Store → List Column → List ℕ
named_values p s columns = flat_map (named_value p s) columns

-- the line of one call of a TRACE in a second, where the store stands so
unfoldable pub call_text : Program → (second : ℕ) → Store → TraceOf → List ℕ
call_text p second s t =
    decimal second ++ (codes " line " ++ (decimal t.line ++ (codes ":" ++ (named_values p s t.columns ++ codes "\n"))))

-- what a TRACE prints where a statement begins at the place of this state: its line, if it is the one at this place
abbrev pub printed_by : Program → (second : ℕ) → State → TraceOf → List ℕ
printed_by p second s t = if t.place == s.place then call_text p second s.store t else []

-- what is printed at a sight: nothing unless a statement begins there
abbrev pub printed_at : Program → List TraceOf → (second : ℕ) → Sight → List ℕ
printed_at p traces second sight =
    if spends sight.instr sight.state.units then flat_map (printed_by p second sight.state) traces else []

-- what is printed while a pass is seen so, one line after the other
abbrev pub printed_in : Program → List TraceOf → (second : ℕ) → List Sight → List ℕ
printed_in p traces second sights = flat_map (printed_at p traces second) sights

-- What is told of the second after a past with this frame, of a code at a site: what its pass prints.
abbrev pub prints_told : Program → List TraceOf → CodeOf → Site → Past → Counts → List ℕ
prints_told p traces code site past frame = printed_in p traces (next_second past) (sights_in code site past frame)
