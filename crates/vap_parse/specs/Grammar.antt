-- The grammar: which marked tokens spell which tree.
--
-- This is what is to be believed of the language: one definition for each rule, over whole lists of tokens, without
-- reading any of them first. `parse` promises its answers by the last definitions of this file alone. The rules are
-- written once more in Descent.antt, as the code reads them; nothing has to be believed of that file, since the proofs
-- show that both say the same.
use Rattle.std.specs.Prelude.{◌≡◌, ℕ, zero, suc, List, [], ◌∷◌, ◌++◌, ℤ, neg_ℤ, codes}
use Rattle.sig_types.specs.declared.kinds.ReadingKind.{ReadingKind}
use Rattle.sig_types.specs.declared.kinds.ReadingKind.TheVariants.{AnyInterstage}
use Rattle.sig_types.specs.declared.kinds.CommandKind.{CommandKind}
use Rattle.sig_types.specs.declared.kinds.TimerKind.{TimerKind}
use Rattle.vap_lex.specs.declared.token.Token.{Token}
use Rattle.vap_ast.specs.declared.tree.UnaryOp.TheVariants.{Neg, Not}
use Rattle.vap_ast.specs.declared.tree.BinaryOp.{BinaryOp}
use Rattle.vap_ast.specs.Syntax.{Expr, Item, Stmt, Constant, Array, Routine, Program}
use Rattle.vap_ast.specs.Syntax as tree
use Rattle.vap_ast.specs.Tree.{exprs, items as one_after_another}
use Rattle.vap_parse.specs.declared.kind.Kind.{Kind}
use Rattle.vap_parse.specs.declared.kind.Kind.TheVariants as k
use Rattle.vap_parse.specs.declared.kind.Rank.{Rank}
use Rattle.vap_parse.specs.declared.kind.Rank.TheVariants as rank
use Rattle.vap_parse.specs.declared.kind.Reason.{Reason}
use Rattle.vap_parse.specs.declared.kind.Reason.TheVariants.{Unexpected, Frequency, TooDeep}
use Rattle.vap_parse.specs.Kinds.{kind_of, operator_of, reading_of, command_of, timer_of}
use Rattle.vap_parse.specs.Input.{Mark, deep, wrong, number_in, aspect_in, name_at, where_kind, with_line, line_of, no_limit, as_many, limit, below, frequency_mark, max_operators, max_levels, max_ifs}
use Rattle.vap_parse.specs.Forms.{Marked, fines, Form, Picks, Gives, Either, Many, Anew, Balanced, ◌>>=◌, ◌>>◌}

-- ---- tokens

-- a token of this kind, which gives its line
abbrev pub expect : Kind → Form ℕ
expect kind = Picks (where_kind kind line_of) no_limit as_many

-- a name, which gives its word and its line
abbrev pub name : Form (List ℕ × ℕ)
name = Picks name_at no_limit as_many

-- a number
abbrev pub number : Form ℤ
number = Picks (λ t. number_in t.kind) no_limit as_many

-- a token that opens a level, of which `levels` more may open; it is too deep where none may
abbrev pub enter : ℕ → Kind → Form ℕ
enter levels kind = Picks (where_kind kind line_of) (λ n t. limit levels) as_many

-- an operator of this rank; it is too deep where the statement may have no more
abbrev pub operator : Rank → Form BinaryOp
operator rank = Picks (λ t. operator_of rank (kind_of t.kind)) (λ n t. limit n) below

-- the word of a reading
abbrev pub reading : Form ReadingKind
reading = Picks (λ t. reading_of (kind_of t.kind)) no_limit as_many

-- the name of an aspect
abbrev pub aspect : Form ReadingKind
aspect = Picks (λ t. aspect_in t.kind) no_limit as_many

-- the word of a command, which gives its kind and its line
abbrev pub command : Form (CommandKind × ℕ)
command = Picks (λ t. with_line (command_of (kind_of t.kind)) t.line) no_limit as_many

-- the word of a timer command, which gives its kind and its line
abbrev pub timer : Form (TimerKind × ℕ)
timer = Picks (λ t. with_line (timer_of (kind_of t.kind)) t.line) no_limit as_many

-- a number, which is wrong where it is not 1
abbrev pub frequency : Form ℤ
frequency = Picks (λ t. number_in t.kind) frequency_mark as_many

-- ---- expressions

-- an operator and its right side
unfoldable pub operation : Rank → Form Expr → Expr → Form Expr
operation rank operand left = do
  op ← operator rank
  right ← operand
  Gives (tree.Binary op left right)

-- operands with operators of one rank between them, which group to the left
unfoldable pub chain : Rank → Form Expr → Form Expr
chain rank operand = operand >>= Many (operation rank operand)

-- a number as an expression
unfoldable pub literal : Form Expr
literal = do
  n ← number
  Gives (tree.Literal n)

-- What stands one level deeper is spelled by `inner`.
module _ (levels : ℕ) (inner : Rank → Form Expr) where
  -- `[ expr ]`, which opens a level
  unfoldable pub index : Form Expr
  index = do
    enter levels k.OpenIndex
    x ← inner rank.Or
    expect k.CloseIndex
    Gives x

  -- `( expr )`, which opens a level
  unfoldable pub brackets : Form Expr
  brackets = do
    enter levels k.Open
    x ← inner rank.Or
    expect k.Close
    Gives x

  -- `, expr` behind these arguments
  unfoldable pub next_argument : List Expr → Form (List Expr)
  next_argument xs = do
    expect k.Comma
    x ← inner rank.Or
    Gives (xs ++ x ∷ [])

  -- one argument or more
  unfoldable pub some_arguments : Form (List Expr)
  some_arguments = inner rank.Or >>= (λ x. Many next_argument (x ∷ []))

  -- `( .. )`, which opens a level, with any number of arguments
  unfoldable pub arguments : Form (List Expr)
  arguments = do
    enter levels k.Open
    xs ← Either some_arguments (Gives [])
    expect k.Close
    Gives xs

  -- a reading and its arguments
  unfoldable pub a_reading : Form Expr
  a_reading = do
    r ← reading
    xs ← arguments
    Gives (tree.Read r (exprs xs))

  -- `CURRENT_STATE ( expr , aspect )`, which opens a level
  unfoldable pub current_state : Form Expr
  current_state = do
    expect k.CurrentState
    enter levels k.Open
    x ← inner rank.Or
    expect k.Comma
    a ← aspect
    expect k.Close
    Gives (tree.Read a (exprs (x ∷ [])))

  -- `( )`, which opens a level
  unfoldable pub empty_brackets : Form ℕ
  empty_brackets = do
    enter levels k.Open
    expect k.Close

  -- `ANY_INTERSTAGE_ACTIVE`, with empty brackets or without
  unfoldable pub any_interstage : Form Expr
  any_interstage = do
    expect k.AnyInterstageActive
    Either empty_brackets (Gives 0)
    Gives (tree.Read AnyInterstage (exprs []))

  -- a cell of the array of this name
  unfoldable pub cell_of : List ℕ → Form Expr
  cell_of name = do
    i ← index
    Gives (tree.Expr.Cell name i)

  -- a name, or a cell
  unfoldable pub name_or_cell : Form Expr
  name_or_cell = do
    w ← name
    Either (cell_of w.0) (Gives (tree.Expr.Name w.0))

  -- what has no operator before or behind it
  unfoldable pub atom : Form Expr
  atom = Either literal (Either name_or_cell (Either brackets (Either current_state (Either any_interstage a_reading))))

  -- `-` before a sign, which opens a level
  unfoldable pub negative : Form Expr
  negative = do
    enter levels k.Minus
    x ← inner rank.Sign
    Gives (tree.Unary Neg x)

  -- with `-` before it, or without
  unfoldable pub sign : Form Expr
  sign = Either negative atom

  -- signs with `*` and `/`
  unfoldable pub product : Form Expr
  product = chain rank.Product sign

  -- products with `+` and `-`
  unfoldable pub sum : Form Expr
  sum = chain rank.Sum product

  -- comparisons are not chained
  unfoldable pub comparison : Form Expr
  comparison = sum >>= (λ left. Either (operation rank.Compare sum left) (Gives left))

  -- `NOT` before a negation, which opens a level
  unfoldable pub inverse : Form Expr
  inverse = do
    enter levels k.Not
    x ← inner rank.Not
    Gives (tree.Unary Not x)

  -- with `NOT` before it, or without
  unfoldable pub negation : Form Expr
  negation = Either inverse comparison

  -- negations with `AND`
  unfoldable pub conjunction : Form Expr
  conjunction = chain rank.And negation

  -- conjunctions with `OR`
  unfoldable pub disjunction : Form Expr
  disjunction = chain rank.Or conjunction

  -- what stands at each rank, the loosest first
  abbrev pub of_rank : Rank → Form Expr
  of_rank rank.Or = disjunction
  of_rank rank.And = conjunction
  of_rank rank.Not = negation
  of_rank rank.Compare = comparison
  of_rank rank.Sum = sum
  of_rank rank.Product = product
  of_rank rank.Sign = sign
  of_rank rank.Atom = atom

-- What stands too deep is one number: its token is never reached.
abbrev pub inner : ℕ → Rank → Form Expr
inner zero r = literal
inner (suc l) r = of_rank l (inner l) r

-- an expression of this rank, where l more levels may open
abbrev pub expr : ℕ → Rank → Form Expr
expr l = of_rank l (inner l)

-- ---- statements

-- the expression of a statement
unfoldable pub expression : Form Expr
expression = Anew (expr max_levels rank.Or)

-- one semicolon
unfoldable pub one_semi : Unit {0} → Form (Unit {0})
one_semi u = expect k.Semi >> Gives tt

-- any number of semicolons
unfoldable pub semis : Form (Unit {0})
semis = Many one_semi tt

-- `:` behind a name: a label
unfoldable pub labelled : List ℕ × ℕ → Form Item
labelled w = expect k.Colon >> Gives (tree.Label w.0 w.1)

-- `:= expr` behind a name
unfoldable pub assigned : List ℕ × ℕ → Form Item
assigned w = do
  expect k.Assign
  x ← expression
  Gives (tree.Step w.1 (tree.Assign w.0 x))

-- `[ expr ] := expr` behind a name, whose operators are counted together
unfoldable pub cell_assigned : List ℕ × ℕ → Form Item
cell_assigned w = do
  i ← index max_levels (inner max_levels)
  expect k.Assign
  x ← expr max_levels rank.Or
  Gives (tree.Step w.1 (tree.Stmt.Cell w.0 i x))

-- what begins with a name: a label, or an assignment to a variable or a cell
unfoldable pub named_item : Form Item
named_item = name >>= (λ w. Either (labelled w) (Either (assigned w) (Anew (cell_assigned w))))

-- the label of a jump
unfoldable pub to_label : Form (List ℕ)
to_label = name >>= (λ w. Gives w.0)

-- `PROG_ENDE` as the label `prog_ende`
unfoldable pub to_end : Form (List ℕ)
to_end = expect k.ProgEnde >> Gives (codes "prog_ende")

-- where a jump leads
abbrev pub destination : Form (List ℕ)
destination = Either to_end to_label

-- `GOTO` and where it leads
unfoldable pub goto : Form Item
goto = do
  at ← expect k.Goto
  l ← destination
  Gives (tree.Step at (tree.Goto l))

-- `GOSUB name`
unfoldable pub gosub : Form Item
gosub = do
  at ← expect k.Gosub
  w ← name
  Gives (tree.Step at (tree.Gosub w.0))

-- `TRACE ( .. )`
unfoldable pub trace : Form Item
trace = do
  at ← expect k.Trace
  expect k.Open
  Balanced
  Gives (tree.Step at tree.Trace)

-- a timer command: `START ( name )` and the like
unfoldable pub timer_statement : Form Item
timer_statement = do
  t ← timer
  expect k.Open
  w ← name
  expect k.Close
  Gives (tree.Step t.1 (tree.Timer t.0 w.0))

-- a command and its arguments, whose operators are counted together
unfoldable pub command_statement : Form Item
command_statement = do
  c ← command
  xs ← Anew (arguments max_levels (inner max_levels))
  Gives (tree.Step c.1 (tree.Do c.0 (exprs xs)))

-- a statement that begins with a reserved word and has no branches
unfoldable pub simple_statement : Form Item
simple_statement = Either goto (Either gosub (Either trace (Either timer_statement command_statement)))

-- What stands in a branch is spelled by `deeper`.
module _ (ifs : ℕ) (deeper : Form (List Item)) where
  -- `ELSE` and a branch
  unfoldable pub other_branch : Form (List Item)
  other_branch = expect k.Else >> deeper

  -- the branch behind `ELSE`, or none
  unfoldable pub else_branch : Form (List Item)
  else_branch = Either other_branch (Gives [])

  -- `IF expr THEN .. ELSE .. END`, which opens a level of IF
  unfoldable pub branch : Form Item
  branch = do
    at ← enter ifs k.If
    x ← expression
    expect k.Then
    ys ← deeper
    ns ← else_branch
    expect k.End
    Gives (tree.Step at (tree.If x (one_after_another ys) (one_after_another ns)))

  -- a label or a statement
  unfoldable pub item : Form Item
  item = Either named_item (Either branch simple_statement)

  -- one item behind these, and semicolons
  unfoldable pub one_more : List Item → Form (List Item)
  one_more xs = do
    x ← item
    semis
    Gives (xs ++ x ∷ [])

  -- items, each with semicolons behind it
  unfoldable pub items : Form (List Item)
  items = Many one_more []

  -- semicolons, and then items
  unfoldable pub block : Form (List Item)
  block = semis >> items

-- In a branch that is too deep nothing stands: its IF is the last token that is reached.
abbrev pub inside : ℕ → Form (List Item)
inside zero = semis >> Gives []
inside (suc n) = block n (inside n)

-- a body, in which IF may nest n levels deep
abbrev pub body : ℕ → Form (List Item)
body n = block n (inside n)

-- ---- declarations

-- `-` and a number: the number below zero
unfoldable pub below_zero : Form ℤ
below_zero = do
  expect k.Minus
  n ← number
  Gives (neg_ℤ n)

-- a number with its sign
unfoldable pub value : Form ℤ
value = Either below_zero number

-- `name = value`
unfoldable pub constant : Form Constant
constant = do
  w ← name
  expect k.Eq
  v ← value
  Gives (record { name = w.0; line = w.1; value = v })

-- `, constant` behind these
unfoldable pub next_constant : List Constant → Form (List Constant)
next_constant cs = do
  expect k.Comma
  c ← constant
  Gives (cs ++ c ∷ [])

-- `CONST` and constants, behind these
unfoldable pub constants : List Constant → Form (List Constant)
constants cs = do
  expect k.Const
  c ← constant
  Many next_constant (cs ++ c ∷ [])

-- `, value` behind these
unfoldable pub next_value : List ℤ → Form (List ℤ)
next_value vs = do
  expect k.Comma
  v ← value
  Gives (vs ++ v ∷ [])

-- `[ value , .. ]`
unfoldable pub values : Form (List ℤ)
values = do
  expect k.OpenIndex
  v ← value
  vs ← Many next_value (v ∷ [])
  expect k.CloseIndex
  Gives vs

-- `name [ number ] = [ value , .. ]`
unfoldable pub array : Form Array
array = do
  w ← name
  expect k.OpenIndex
  n ← number
  expect k.CloseIndex
  expect k.Eq
  vs ← values
  Gives (record { name = w.0; line = w.1; size = n; values = vs })

-- `, array` behind these
unfoldable pub next_array : List Array → Form (List Array)
next_array arrays_ = do
  expect k.Comma
  a ← array
  Gives (arrays_ ++ a ∷ [])

-- `ARRAY` and arrays, behind these
unfoldable pub arrays : List Array → Form (List Array)
arrays arrays_ = do
  expect k.Array
  a ← array
  Many next_array (arrays_ ++ a ∷ [])

-- the constants and the arrays so far
abbrev pub Declared : Type 0
Declared = List Constant × List Array

-- `VAP_FREQUENCY 1`
unfoldable pub frequencies : Form (Unit {0})
frequencies = do
  expect k.VapFrequency
  frequency
  Gives tt

-- a frequency, which declares nothing
unfoldable pub declared_frequency : Declared → Form Declared
declared_frequency d = frequencies >> Gives d

-- constants, behind what is declared so far
unfoldable pub declared_constants : Declared → Form Declared
declared_constants d = constants d.0 >>= (λ cs. Gives (cs, d.1))

-- arrays, behind what is declared so far
unfoldable pub declared_arrays : Declared → Form Declared
declared_arrays d = arrays d.1 >>= (λ arrays_. Gives (d.0, arrays_))

-- one line of declarations
unfoldable pub one_declaration : Declared → Form Declared
one_declaration d = Either (declared_frequency d) (Either (declared_constants d) (declared_arrays d))

-- one line of declarations, and semicolons
unfoldable pub declaration : Declared → Form Declared
declaration d = do
  e ← one_declaration d
  semis
  Gives e

-- ---- programs

-- `PROG_ENDE : .` and semicolons
unfoldable pub ending : Form (Unit {0})
ending = do
  expect k.ProgEnde
  expect k.Colon
  expect k.Dot
  semis

-- `SUBROUTINE name`, a body and its end
unfoldable pub sub : Form Routine
sub = do
  expect k.Subroutine
  w ← name
  xs ← body max_ifs
  ending
  Gives (record { name = w.0; line = w.1; body = one_after_another xs })

-- a subroutine behind these
unfoldable pub next_sub : List Routine → Form (List Routine)
next_sub rs = do
  r ← sub
  Gives (rs ++ r ∷ [])

-- `PROGRAM name`, declarations, subroutines, the main body and its end
unfoldable pub program : Form Program
program = do
  expect k.Program
  w ← name
  semis
  d ← Many declaration ([], [])
  rs ← Many next_sub []
  xs ← items max_ifs (inside max_ifs)
  ending
  Gives (record { consts = d.0; arrays = d.1; subs = rs; main = record { name = w.0; line = w.1; body = one_after_another xs } })

-- ---- texts

-- marked tokens spell a program, whose operators are counted from the beginning
abbrev pub Text : List Marked → Program → Type 0
Text ms p = (n : ℕ) × program max_operators ms p n

-- the tokens are a text, each of them within the limits
abbrev pub Accepts : List Token → Program → Type 0
Accepts ts p = Text (fines ts) p

-- these tokens with these marks are a beginning of a text
abbrev pub Begins : List Marked → Type 0
Begins ms = (more : List Marked) × (p : Program) × Text (ms ++ more) p

-- The parse of `beginning ++ rest` ends at the first token of the rest, or behind the last one.
abbrev pub Ends : Reason → List Token → List Token → Type 0
Ends Unexpected beginning [] = Begins (fines beginning) × ((p : Program) → Accepts beginning p → ⊥)
Ends Unexpected beginning (t ∷ s) = Begins (fines beginning) × ((mark : Mark) → Begins (fines beginning ++ (t, mark) ∷ []) → ⊥)
Ends Frequency beginning [] = ⊥
Ends Frequency beginning (t ∷ s) = Begins (fines beginning ++ (t, wrong) ∷ [])
Ends TooDeep beginning [] = ⊥
Ends TooDeep beginning (t ∷ s) = Begins (fines beginning ++ (t, deep) ∷ [])

-- the tokens behind this beginning are refused for this reason, from the first token of the rest on
abbrev pub Refuses : List Token → Reason → List Token → Type 0
Refuses ts why rest = (beginning : List Token) × (ts ≡ beginning ++ rest) × Ends why beginning rest
