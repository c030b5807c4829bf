-- The values of a program, how they are named, and which of them words choose.
use Rattle.std.specs.Prelude.{◌≡◌, ℕ, ◌+◌, ◌<◌, Bool, ◌||◌, List, [], ◌∷◌, ◌++◌, codes, filter, length, slice_index_or}
use Rattle.std.specs.Fmt.{decimal}
use Rattle.std.specs.List.{flat_map}
use Rattle.std.specs.Str.{bytes_eq}
use Rattle.sig_types.specs.Words.{tabulate}
use Rattle.vap_ast.specs.Name.{lowered}
use Rattle.vap_ast.specs.Syntax.{Array, Program}
use Rattle.vap_check.specs.Names.{array_names, timers, variables}
use Rattle.trace_told.specs.declared.columns.Column.{Column}
use Rattle.trace_told.specs.declared.columns.Column.TheVariants.{Variable, Timer, Cell}

-- the cell of an array behind so many others
abbrev pub cell_behind : ℕ → ℕ → Column
cell_behind array others = Cell array (others + 1)

-- the cells of these arrays, the first of which has this number
abbrev pub array_columns : ℕ → List Array → List Column
array_columns a [] = []
array_columns a (array ∷ arrays) = tabulate (cell_behind a) (length array.values) ++ array_columns (a + 1) arrays

-- All values of a program: the variables, the timers, and the cells of its arrays, each from place 1 on.
abbrev pub columns_of : Program → List Column
columns_of p = tabulate Variable (length (variables p)) ++ (tabulate Timer (length (timers p)) ++ array_columns 0 p.arrays)

-- the name of a variable, of a timer, or of the array of a cell
abbrev pub name_of : Program → Column → List ℕ
name_of p (Variable v) = slice_index_or (variables p) v []
name_of p (Timer t) = slice_index_or (timers p) t []
name_of p (Cell a place) = slice_index_or (array_names p) a []

-- the place of a cell in brackets
abbrev pub place_text : Column → List ℕ
place_text (Variable v) = []
place_text (Timer t) = []
place_text (Cell a place) = codes "[" ++ (decimal place ++ codes "]")

-- how a value is named
abbrev pub label_of : Program → Column → List ℕ
label_of p c = name_of p c ++ place_text c

-- whether bytes name a value: as it is named, or by the name of its array
abbrev pub is_named : Program → List ℕ → Column → Bool
is_named p bytes c = bytes_eq (name_of p c) bytes || bytes_eq (label_of p c) bytes

-- whether a word names a value, in letters of either case
abbrev pub is_meant : Program → List ℕ → Column → Bool
is_meant p word c = is_named p (lowered word) c

-- the values among these that a word names
abbrev pub meant_by : Program → List Column → List ℕ → List Column
meant_by p columns word = filter (is_meant p word) columns

-- the values among these that words name, in the order of the words
abbrev pub chosen_by : Program → List Column → List (List ℕ) → List Column
chosen_by p columns words = flat_map (meant_by p columns) words

-- a word names some of these values
abbrev pub NamesSome : Program → List Column → List ℕ → Type 0
NamesSome p columns word = meant_by p columns word ≡ [] → ⊥

-- the word at this place is the first that names none of these values
pub record IsUnknown (p : Program) (columns : List Column) (words : List (List ℕ)) (place : ℕ) : Type 0 where
  pub there : place < length words
  pub none : meant_by p columns (slice_index_or words place []) ≡ []
  pub before : (k : ℕ) → k < place → NamesSome p columns (slice_index_or words k [])
