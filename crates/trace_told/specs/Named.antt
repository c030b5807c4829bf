-- Which values a TRACE prints, by the tokens in its brackets.
use Rattle.std.specs.Prelude.{ℕ, Bool, false, ◌==◌, List, [], ◌∷◌, Option, None, Some, codes, filter, if◌then◌else◌}
use Rattle.std.specs.List.{flat_map}
use Rattle.std.specs.Str.{bytes_eq}
use Rattle.vap_ast.specs.declared.name.Entry.{Entry}
use Rattle.vap_ast.specs.declared.name.Meaning.{Meaning}
use Rattle.vap_ast.specs.declared.name.Meaning.TheVariants as meaning
use Rattle.vap_ast.specs.Names.{meaning_in}
use Rattle.vap_lex.specs.declared.token.Token.{Token}
use Rattle.vap_lex.specs.declared.token.TokenKind.{TokenKind}
use Rattle.vap_lex.specs.declared.token.TokenKind.TheVariants.{Word, Number, Sign}
use Rattle.trace_told.specs.declared.columns.Column.{Column}
use Rattle.trace_told.specs.declared.columns.Column.TheVariants.{Variable, Timer, Cell}

-- whether a value is that variable
abbrev pub is_variable : ℕ → Column → Bool
is_variable variable (Variable v) = v == variable
is_variable variable (Timer t) = false
is_variable variable (Cell a place) = false

-- whether a value is that timer
abbrev pub is_timer : ℕ → Column → Bool
is_timer timer (Variable v) = false
is_timer timer (Timer t) = t == timer
is_timer timer (Cell a place) = false

-- whether a value is a cell of that array
abbrev pub is_in_array : ℕ → Column → Bool
is_in_array array (Variable v) = false
is_in_array array (Timer t) = false
is_in_array array (Cell a place) = a == array

-- whether a name with this meaning names a value: a variable, a timer, or an array, which names all its cells
abbrev pub is_meant : Option Meaning → Column → Bool
is_meant (Some (meaning.Variable variable)) c = is_variable variable c
is_meant (Some (meaning.Timer timer)) c = is_timer timer c
is_meant (Some (meaning.Array array)) c = is_in_array array c
is_meant (Some (meaning.Constant value)) c = false
is_meant (Some (meaning.Sub sub)) c = false
is_meant None c = false

-- the values among these that a token names
abbrev pub named_by : List Entry → List Column → TokenKind → List Column
named_by names columns (Word name) = filter (is_meant (meaning_in names name)) columns
named_by names columns (Number n) = []
named_by names columns (Sign s) = []

-- those that tokens name, in the order of the tokens
abbrev pub named_by_all : List Entry → List Column → List Token → List Column
named_by_all names columns tokens = flat_map (λ t. named_by names columns t.kind) tokens

-- the values of a TRACE whose first token is this word: ALL, alone, prints all, VARIABLE those that are named behind it
abbrev pub named_behind : List Entry → List Column → List ℕ → List Token → List Column
named_behind names columns word [] = if bytes_eq word (codes "all") then columns else []
named_behind names columns word (t ∷ ts) = if bytes_eq word (codes "variable") then named_by_all names columns (t ∷ ts) else []

-- the same, by the kind of the first token
abbrev pub named_first : List Entry → List Column → TokenKind → List Token → List Column
named_first names columns (Word word) ts = named_behind names columns word ts
named_first names columns (Number n) ts = []
named_first names columns (Sign s) ts = []

-- the values that the tokens in the brackets of a TRACE choose among these; any but ALL and VARIABLE choose none
abbrev pub named_in : List Entry → List Column → List Token → List Column
named_in names columns [] = []
named_in names columns (t ∷ ts) = named_first names columns t.kind ts
