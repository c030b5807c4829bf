-- The numbers of the names of a program.
use Rattle.std.specs.Prelude.{ℕ, ◌+◌, List, [], ◌∷◌, ◌++◌, map, length}
use Rattle.vap_ast.specs.declared.name.Entry.{Entry}
use Rattle.vap_ast.specs.declared.name.Meaning.{Meaning}
use Rattle.vap_ast.specs.declared.name.Meaning.TheVariants.{Constant, Array, Sub, Timer, Variable}
use Rattle.vap_ast.specs.declared.tree.Program.{Program as Tree}
use Rattle.vap_ast.specs.Syntax.{Program}
use Rattle.vap_ast.specs.Tree.{program_of}
use Rattle.vap_check.specs.Names.{array_names, sub_names, timers, variables}

-- names with the numbers from this one on
abbrev pub numbered : (ℕ → Meaning) → ℕ → List (List ℕ) → List Entry
numbered meaning n [] = []
numbered meaning n (name ∷ names) = record { name = name; meaning = meaning n } ∷ numbered meaning (n + 1) names

-- constants with their values, and then arrays, subroutines, timers and variables, each with their numbers from 0
abbrev pub entries : (consts : List Entry) (arrays subs timers variables : List (List ℕ)) → List Entry
entries consts arrays subs timers variables =
    consts ++ (numbered Array 0 arrays ++ (numbered Sub 0 subs ++ (numbered Timer 0 timers ++ numbered Variable 0 variables)))

-- the constants with their values
abbrev pub consts_of : Program → List Entry
consts_of p = map (λ c. record { name = c.name; meaning = Constant c.value }) p.consts

-- What the names of a program are: arrays and subroutines are numbered in the order of their declarations, timers and
-- variables in the order of their first uses.
abbrev pub names_of : Program → List Entry
names_of p = entries (consts_of p) (array_names p) (sub_names p) (timers p) (variables p)

-- what a checked program is seen as: the tree as it was read, what its names are, and how many variables and timers it has
pub record Meant : Type 0 where
  pub tree : Tree
  pub names : List Entry
  pub variables : ℕ
  pub timers : ℕ

-- what a program is seen as once it is checked
abbrev pub checked_of : Tree → Meant
checked_of tree =
    let p = program_of tree in
    record { tree = tree; names = names_of p; variables = length (variables p); timers = length (timers p) }
