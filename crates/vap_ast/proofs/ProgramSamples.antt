-- Small programs, computed: statements, faults and their lines, jumps into branches, calls and units.
use Rattle.std.proofs.Common.{◌≡◌, ℕ, List, [], ◌∷◌, refl}
use Rattle.std.specs.Prelude.{pos, codes, true, false}
use Rattle.sig_types.specs.declared.kinds.FaultKind.TheVariants.{Budget, ZeroDivisor, Overflow, Index, Number}
use Rattle.sig_types.specs.declared.kinds.CommandKind.TheVariants.{Interstage}
use Rattle.sig_types.specs.declared.kinds.TimerKind.TheVariants.{Stop, Reset}
use Rattle.sig_types.specs.Pass.{Store, World}
use Rattle.vap_ast.specs.declared.name.Entry.{Entry}
use Rattle.vap_ast.specs.declared.name.Meaning.TheVariants.{Variable, Sub as SubOf}
use Rattle.vap_ast.specs.declared.tree.BinaryOp.TheVariants.{Add, Lt, Mul}
use Rattle.vap_ast.specs.Syntax.{Expr, Exprs, Item, Items, Stmt}
use Rattle.vap_ast.specs.Rest.{rest_from}
use Rattle.vap_ast.specs.Mean.{Outcome, Done, Faulted, mean}
use Rattle.vap_ast.proofs.ValueSamples.{x, names, n, start, nowhere, zero_div, over}

abbrev l : List ℕ
l = codes "l"

-- one statement
abbrev one_step : ℕ → Stmt → Items
one_step line what = Items.next (Item.Step line what) Items.none

-- a main routine alone
abbrev alone : Items → ℕ → Outcome
alone items units = mean record { names = names; subs = []; main = items } nowhere items items start units

-- the index is computed before the value, and compared with the size after it
index_last : alone (one_step 3 (Stmt.Cell (codes "arr") (n 0) zero_div)) 5 ≡ Faulted ZeroDivisor 3
index_last = refl

index_first : alone (one_step 3 (Stmt.Cell (codes "arr") over zero_div)) 5 ≡ Faulted Overflow 3
index_first = refl

index_none : alone (one_step 3 (Stmt.Cell (codes "arr") (n 3) (n 1))) 5 ≡ Faulted Index 3
index_none = refl

index_there : alone (one_step 3 (Stmt.Cell (codes "arr") (n 2) (n 9))) 5 ≡ Done record { variables = pos 0 ∷ []; arrays = (pos 1 ∷ pos 9 ∷ []) ∷ []; timers = record { count = 7; runs = true } ∷ []; commands = [] } 4
index_there = refl

-- a number that names nothing, and a fault in an argument before it
no_command : alone (one_step 6 (Stmt.Do Interstage (Exprs.next (n 1) (Exprs.next (n 2) Exprs.none)))) 5 ≡ Faulted Number 6
no_command = refl

command_value : alone (one_step 6 (Stmt.Do Interstage (Exprs.next (n 1) (Exprs.next zero_div Exprs.none)))) 5 ≡ Faulted ZeroDivisor 6
command_value = refl

-- a timer goes on running when it is reset, and keeps its count when it is stopped
reset : alone (one_step 6 (Stmt.Timer Reset (codes "t"))) 5 ≡ Done record { variables = pos 0 ∷ []; arrays = (pos 1 ∷ pos 2 ∷ []) ∷ []; timers = record { count = 0; runs = true } ∷ []; commands = [] } 4
reset = refl

stop : alone (one_step 6 (Stmt.Timer Stop (codes "t"))) 5 ≡ Done record { variables = pos 0 ∷ []; arrays = (pos 1 ∷ pos 2 ∷ []) ∷ []; timers = record { count = 7; runs = false } ∷ []; commands = [] } 4
stop = refl

-- a unit is needed before a statement, and none for a label
no_unit : alone (one_step 6 Stmt.Trace) 0 ≡ Faulted Budget 6
no_unit = refl

label_costs_nothing : alone (Items.next (Item.Label l 2) Items.none) 0 ≡ Done start 0
label_costs_nothing = refl

-- an endless loop
for_ever : alone (Items.next (Item.Label l 2) (one_step 3 (Stmt.Goto l))) 5 ≡ Faulted Budget 3
for_ever = refl

-- x := 0; l: x := x + 1; if x < 3 then goto l end; trace
abbrev loop : Items
loop =
    Items.next (Item.Step 1 (Stmt.Assign x (n 0)))
    (Items.next (Item.Label l 2)
    (Items.next (Item.Step 2 (Stmt.Assign x (Expr.Binary Add (Expr.Name x) (n 1))))
    (Items.next (Item.Step 3 (Stmt.If (Expr.Binary Lt (Expr.Name x) (n 3)) (one_step 4 (Stmt.Goto l)) Items.none))
    (one_step 5 Stmt.Trace))))

-- ten statements, and no unit less
just_enough : alone loop 10 ≡ Done record { variables = pos 3 ∷ []; arrays = (pos 1 ∷ pos 2 ∷ []) ∷ []; timers = record { count = 7; runs = true } ∷ []; commands = [] } 0
just_enough = refl

one_short : alone loop 9 ≡ Faulted Budget 5
one_short = refl

-- if 0 then else if 1 then l: x := 5 end; x := x + 1 end; x := x * 2, from l on
abbrev nested : Items
nested =
    Items.next (Item.Step 1 (Stmt.Goto l))
    (Items.next (Item.Step 2 (Stmt.If (n 0) Items.none
    (Items.next (Item.Step 3 (Stmt.If (n 1) (Items.next (Item.Label l 4) (one_step 4 (Stmt.Assign x (n 5)))) Items.none))
    (one_step 5 (Stmt.Assign x (Expr.Binary Add (Expr.Name x) (n 1)))))))
    (one_step 6 (Stmt.Assign x (Expr.Binary Mul (Expr.Name x) (n 2)))))

from_nested : alone nested 9 ≡ Done record { variables = pos 12 ∷ []; arrays = (pos 1 ∷ pos 2 ∷ []) ∷ []; timers = record { count = 7; runs = true } ∷ []; commands = [] } 5
from_nested = refl

-- a subroutine that jumps to its own l, and then to its end
abbrev up : Items
up =
    Items.next (Item.Step 1 (Stmt.Goto l))
    (Items.next (Item.Step 2 (Stmt.Assign x (n 1)))
    (Items.next (Item.Label l 3)
    (Items.next (Item.Step 3 (Stmt.Goto (codes "prog_ende")))
    (one_step 4 (Stmt.Assign x (n 2))))))

-- a call of it, and a label of the same name
abbrev main : Items
main = Items.next (Item.Step 7 (Stmt.Gosub (codes "up"))) (Items.next (Item.Label l 8) (one_step 8 Stmt.Trace))

abbrev called : ℕ → Outcome
called units = mean record { names = names; subs = up ∷ []; main = main } nowhere main main start units

-- two units for the jumps, one for the call, one for the return and one behind it
returns : called 5 ≡ Done start 0
returns = refl

no_unit_for_the_return : called 3 ≡ Faulted Budget 7
no_unit_for_the_return = refl

no_unit_behind_it : called 4 ≡ Faulted Budget 8
no_unit_behind_it = refl

no_unit_in_it : called 2 ≡ Faulted Budget 3
no_unit_in_it = refl

-- ---- two variables, of which x is 0 and y is 1

abbrev y : List ℕ
y = codes "y"

abbrev two_names : List Entry
two_names = record { name = x; meaning = Variable 0 } ∷ record { name = y; meaning = Variable 1 } ∷ record { name = codes "up"; meaning = SubOf 0 } ∷ []

abbrev zeros : Store
zeros = record { variables = pos 0 ∷ pos 0 ∷ []; arrays = []; timers = []; commands = [] }

abbrev set : ℕ → List ℕ → Expr → Item
set line name e = Item.Step line (Stmt.Assign name e)

-- `x := 1; goto a; if 0 then x := 5; a: else x := 9 end; y := x`
abbrev into_branch : Items
into_branch =
    Items.next (set 1 x (n 1))
    (Items.next (Item.Step 2 (Stmt.Goto (codes "a")))
    (Items.next (Item.Step 3 (Stmt.If (n 0) (Items.next (set 4 x (n 5)) (Items.next (Item.Label (codes "a") 5) Items.none)) (Items.next (set 6 x (n 9)) Items.none)))
    (Items.next (set 7 y (Expr.Name x)) Items.none)))

-- a label at the end of a branch: what stands behind the IF comes next
behind_if : rest_from (codes "a") into_branch ≡ Items.next (set 7 y (Expr.Name x)) Items.none
behind_if = refl

jumps_into : (w : World) → mean record { names = two_names; subs = []; main = into_branch } w into_branch into_branch zeros 10 ≡ Done record { variables = pos 1 ∷ pos 1 ∷ []; arrays = []; timers = []; commands = [] } 7
jumps_into w = refl

-- a call costs its own unit, the body's, and one for the return
abbrev calls : Items
calls = Items.next (Item.Step 1 (Stmt.Gosub (codes "up"))) Items.none

abbrev plus_one : Items
plus_one = Items.next (set 2 x (Expr.Binary Add (Expr.Name x) (n 1))) Items.none

calls_once : (w : World) → mean record { names = two_names; subs = plus_one ∷ []; main = calls } w calls calls zeros 10 ≡ Done record { variables = pos 1 ∷ pos 0 ∷ []; arrays = []; timers = []; commands = [] } 7
calls_once w = refl

unit_of_return : (w : World) → mean record { names = two_names; subs = plus_one ∷ []; main = calls } w calls calls zeros 2 ≡ Faulted Budget 1
unit_of_return w = refl
