-- What is written of the values that a second leaves.
use Rattle.std.specs.Prelude.{ℕ, nat_le, ◌&&◌, List, [], ◌++◌, codes, if◌then◌else◌, ℤ, pos, slice_index_or, Ok, Err}
use Rattle.std.specs.Fmt.{decimal, signed_decimal}
use Rattle.std.specs.List.{flat_map}
use Rattle.sig_types.specs.Counts.{Counts}
use Rattle.sig_types.specs.Number.{Answer}
use Rattle.sig_types.specs.Pass.{Store, cell}
use Rattle.vap_ast.specs.Syntax.{Program}
use Rattle.vap_code.specs.Codes.{CodeOf}
use Rattle.vap_code.specs.Machine.{machine}
use Rattle.vap_code.specs.Stores.{stopped}
use Rattle.controller.specs.Past.{Site, Past, next_second}
use Rattle.controller.specs.Second.{past_after_second}
use Rattle.trace_told.specs.declared.columns.Column.{Column}
use Rattle.trace_told.specs.declared.columns.Column.TheVariants.{Variable, Timer, Cell}
use Rattle.trace_told.specs.Columns.{label_of}

-- the value of a cell; 0 where there is none
abbrev pub or_zero : Answer → ℤ
or_zero (Ok v) = v
or_zero (Err kind) = pos 0

-- a value of a store, as it is written: that of a timer is its count
abbrev pub value_text : Store → Column → List ℕ
value_text s (Variable v) = signed_decimal (slice_index_or s.variables v (pos 0))
value_text s (Timer t) = decimal (slice_index_or s.timers t stopped).count
value_text s (Cell a place) = signed_decimal (or_zero (cell s a (pos place)))

-- a value behind a comma
abbrev pub value_field : Store → Column → List ℕ
value_field s c = codes "," ++ value_text s c

-- these values of a store
abbrev pub value_fields : Store → List Column → List ℕ
value_fields s columns = flat_map (value_field s) columns

-- the row of a second that left this store
unfoldable pub row_text : ℕ → Store → List Column → List ℕ
row_text second s columns = decimal second ++ (value_fields s columns ++ codes "\n")

-- how a value is named, behind a comma
abbrev pub label_field : Program → Column → List ℕ
label_field p c = codes "," ++ label_of p c

-- how these values are named
abbrev pub label_fields : Program → List Column → List ℕ
label_fields p columns = flat_map (label_field p) columns

-- the row above those of the seconds
unfoldable pub header_text : Program → List Column → List ℕ
header_text p columns = codes "SECOND" ++ (label_fields p columns ++ codes "\n")

-- the row of a second, if it is one of those from the first to the last that are asked for
abbrev pub row_within : (first last : ℕ) → ℕ → Store → List Column → List ℕ
row_within first last second s columns = if nat_le first second && nat_le second last then row_text second s columns else []

-- What is told of the second after a past with this frame, of a code at a site: the values that it leaves.
abbrev pub row_told : (first last : ℕ) → List Column → CodeOf → Site → Past → Counts → List ℕ
row_told first last columns code site past frame =
    row_within first last (next_second past) (past_after_second (machine code) site past frame).store columns
