-- What the check keeps of the names of a program, and what it finds wrong by them.
use Rattle.std.specs.Prelude.{◌≡◌, ℕ, Bool, true, false, if◌then◌else◌, List, fold, map, filter, Option, None, Some, slice_index_or as get_or}
use Rattle.std.specs.Option.{option_or}
use Rattle.std.specs.BTreeMap.{BTreeMap, get}
use Rattle.std.specs.Cmp.Lexicographic.{slice_cmp}
use Rattle.std.specs.Ordering.{nat_cmp}
use Rattle.std.specs.Str.{bytes_eq}
use Rattle.vap_ast.specs.Syntax.{Constant, Program, Item, Items, Stmt}
use Rattle.vap_check.specs.declared.kinds.Declared.{Declared}
use Rattle.vap_check.specs.declared.kinds.Declared.TheVariants as what
use Rattle.vap_check.specs.declared.kinds.Kind.{Kind}
use Rattle.vap_check.specs.declared.kinds.Kind.TheVariants as kind
use Rattle.vap_check.specs.declared.known.Known.{Known}
use Rattle.vap_check.specs.declared.kinds.Names.{Names}
use Rattle.vap_check.specs.declared.uses.Scope.{Scope}
use Rattle.vap_check.specs.declared.finding.Finding.{Finding}
use Rattle.vap_check.specs.Findings as wrong
use Rattle.vap_check.specs.Trees.{tree_of}
use Rattle.vap_check.specs.Names.{timers, variables, among, is_kind, array_names, sub_names, timer_names}

-- what names are by their first declarations; None where they have none
abbrev pub Declarations : Type 0
Declarations = List ℕ → Option Declared

-- what names are by a tree of declarations
abbrev pub held_in : BTreeMap (List ℕ) Declared → Declarations
held_in tree name = get (slice_cmp nat_cmp) tree name

-- what a name is by the tree at this place
abbrev pub held_at : List (BTreeMap (List ℕ) Declared) → ℕ → Declarations
held_at trees place name = get_or (map (λ tree. held_in tree name) trees) place None

-- what is kept of a name, in its tree
unfoldable pub declared_in : Known → Declarations
declared_in k name = held_at k.trees.items (tree_of name) name

-- these declarations, and this one of this name unless it has one
abbrev pub with_declared : Declared → Declarations → List ℕ → Declarations
with_declared d known name other = option_or (known other) (if bytes_eq other name then Some d else None)

-- these declarations, and this one of each of the names that has none
abbrev pub with_all : Declared → Declarations → List (List ℕ) → Declarations
with_all d = fold (with_declared d)

-- a constant's first declaration
abbrev pub constant_is : Constant → Declared
constant_is c = what.Constant (record { line = c.line; value = c.value })

-- these declarations, and that of a constant unless its name has one
abbrev pub with_constant : Declarations → Constant → Declarations
with_constant known c = with_declared (constant_is c) known c.name

-- these declarations, and those of the constants, one after another
abbrev pub with_constants : Declarations → List Constant → Declarations
with_constants = fold with_constant

-- the kind that a declaration tells; a name that has none is a variable
abbrev pub kind_as : Option Declared → Kind
kind_as (Some (what.Constant first)) = kind.Constant
kind_as (Some what.Array) = kind.Array
kind_as (Some what.Sub) = kind.Sub
kind_as (Some what.Timer) = kind.Timer
kind_as None = kind.Variable

-- the line of a constant's first declaration
abbrev pub line_as : Option Declared → Option ℕ
line_as (Some (what.Constant first)) = Some first.line
line_as (Some what.Array) = None
line_as (Some what.Sub) = None
line_as (Some what.Timer) = None
line_as None = None

-- whether it is a constant or an array
abbrev pub taken_as : Option Declared → Bool
taken_as (Some (what.Constant first)) = true
taken_as (Some what.Array) = true
taken_as (Some what.Sub) = false
taken_as (Some what.Timer) = false
taken_as None = false

-- the kind of a name, by the names that are kept
abbrev pub kind_in : Known → List ℕ → Kind
kind_in k name = kind_as (declared_in k name)

-- the line of the first constant of a name
abbrev pub line_in : Known → List ℕ → Option ℕ
line_in k name = line_as (declared_in k name)

-- whether a name is that of a constant or an array
abbrev pub taken_in : Known → List ℕ → Bool
taken_in k name = taken_as (declared_in k name)

-- the names of this kind among these
abbrev pub of_kind : Known → Kind → List (List ℕ) → List (List ℕ)
of_kind k wanted names = filter (λ n. is_kind wanted (kind_in k n)) names

-- what the names of a program are by their first declarations: constants, arrays, subroutines and then timers
abbrev pub declared_of : Program → Declarations
declared_of p =
    with_all what.Timer (with_all what.Sub (with_all what.Array (with_constants (λ name. None) p.consts)
    (array_names p)) (sub_names p)) (timer_names p)

-- what is kept is that of the program
abbrev pub Knows : Known → Program → Type 0
Knows k p = declared_in k ≡ declared_of p

-- the names that are kept are all those of the program, each list in the order of its numbers
pub record KnowsAll (n : Names) (p : Program) : Type 0 where
  pub known : Knows n.known p
  pub arrays : n.arrays.keys ≡ array_names p
  pub subs : n.subs.keys ≡ sub_names p
  pub timers : n.timers.keys ≡ timers p
  pub variables : n.variables.keys ≡ variables p

-- what is wrong with statements, items and bodies, by the names that are kept of a routine
module _ (s : Scope) where
  -- with a statement of this line
  abbrev pub stmt_findings : ℕ → Stmt → List Finding
  stmt_findings = wrong.stmt_findings (kind_in s.known.now) (among s.above.now.keys) (among s.labels.now.keys)

  -- with an item
  abbrev pub item_findings : Item → List Finding
  item_findings = wrong.item_findings (kind_in s.known.now) (among s.above.now.keys) (among s.labels.now.keys)

  -- with the items of a body
  abbrev pub items_findings : Items → List Finding
  items_findings = wrong.items_findings (kind_in s.known.now) (among s.above.now.keys) (among s.labels.now.keys)
