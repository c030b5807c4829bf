-- The lines of a text, and the records of a table.
use Rattle.std.specs.Prelude.{ℕ, ◌+◌, ◌-◌, ◌==◌, ◌&&◌, ◌||◌, Bool, false, not, List, [], ◌∷◌, ◌++◌, length, map, filter, slice_index_or}
use Rattle.std.specs.Prelude.{Option, Some, None, unwrap_or, if◌then◌else◌}
use Rattle.std.specs.List.{onto_first, slice_split}
use Rattle.std.specs.Str.Lines.{strip_carriage_return}
use Rattle.table_check.specs.declared.lines.Begin.{Begin}

-- the piece with this number, which counts from 1; no bytes where there is none
abbrev pub numbered : List (List ℕ) → ℕ → List ℕ
numbered pieces n = if n == 0 then [] else slice_index_or pieces (n - 1) []

-- the lines of a text: what stands between line feeds, less a carriage return at its end
abbrev pub lines_of : List ℕ → List (List ℕ)
lines_of text = map strip_carriage_return (slice_split (λ b. b == 10) text)

-- a line feed or a carriage return
abbrev pub ends_line : ℕ → Bool
ends_line b = (b == 10) || (b == 13)

-- a byte at which text between quotes begins or ends turns one into the other
abbrev pub quoted_after : Bool → ℕ → Bool
quoted_after quoted b = if b == 34 then not quoted else quoted

-- a line end that does not stand between quotes
abbrev pub ends_piece : Bool → ℕ → Bool
ends_piece quoted b = ends_line b && not (quoted_after quoted b)

-- the pieces between line ends that do not stand between quotes
abbrev pub unquoted_pieces : Bool → List ℕ → List (List ℕ)
unquoted_pieces quoted [] = [] ∷ []
unquoted_pieces quoted (b ∷ bs) =
    if ends_piece quoted b then [] ∷ unquoted_pieces (quoted_after quoted b) bs
    else onto_first b (unquoted_pieces (quoted_after quoted b) bs)

-- the pieces that are not empty
abbrev pub filled : List (List ℕ) → List (List ℕ)
filled pieces = filter (λ piece. not (length piece == 0)) pieces

-- the records of a table: blank lines are none, and a line end between quotes ends none
abbrev pub records_of : List ℕ → List (List ℕ)
records_of text = filled (unquoted_pieces false text)

-- where the byte behind this one stands, of a text whose lines end at line feeds
abbrev pub begin_after : Begin → ℕ → Begin
begin_after at b =
    if b == 10 then record { line = at.line + 1; before = 0 } else record { line = at.line; before = at.before + 1 }

-- where a record begins that has begun
abbrev pub begun_at : Option Begin → List Begin
begun_at None = []
begun_at (Some begin) = begin ∷ []

-- where the records of a rest of a table begin, that stands here, where a record may have begun before it
abbrev pub begins_of_rest : Bool → Begin → Option Begin → List ℕ → List Begin
begins_of_rest quoted at begun [] = begun_at begun
begins_of_rest quoted at begun (b ∷ bs) =
    if ends_piece quoted b then begun_at begun ++ begins_of_rest (quoted_after quoted b) (begin_after at b) None bs
    else begins_of_rest (quoted_after quoted b) (begin_after at b) (Some (unwrap_or begun at)) bs

-- where the records of a table begin: their lines, as an editor counts them, from 1, and how many bytes stand before them there
unfoldable pub record_begins : List ℕ → List Begin
record_begins text = begins_of_rest false (record { line = 1; before = 0 }) None text

-- stands for where a record begins that there isn't
abbrev pub nowhere : Begin
nowhere = record { line = 0; before = 0 }

-- where the record with this number begins; in line 0 where there is none
unfoldable pub record_begin : List ℕ → ℕ → Begin
record_begin text n = if n == 0 then nowhere else slice_index_or (record_begins text) (n - 1) nowhere
