-- Values of expressions, computed: the order of operands and arguments, cut division, ranges, timers and cells.
use Rattle.std.proofs.Common.{◌≡◌, ℕ, List, [], ◌∷◌, Ok, Err, refl, Some, None}
use Rattle.std.specs.Prelude.{pos, negsuc, codes, true, ◌-ℤ◌}
use Rattle.sig_types.specs.declared.kinds.FaultKind.TheVariants.{ZeroDivisor, Overflow, Index}
use Rattle.sig_types.specs.declared.kinds.ReadingKind.TheVariants.{InterstageActive}
use Rattle.sig_types.specs.Pass.{Store, World}
use Rattle.vap_ast.specs.declared.name.Entry.{Entry}
use Rattle.vap_ast.specs.declared.name.Meaning.TheVariants.{Variable, Constant, Array as ArrayOf, Timer as TimerOf, Sub as SubOf}
use Rattle.vap_ast.specs.declared.tree.BinaryOp.TheVariants.{And, Or, Sub, Div, Add}
use Rattle.vap_ast.specs.declared.tree.UnaryOp.TheVariants.{Neg}
use Rattle.vap_ast.specs.Syntax.{Expr, Exprs}
use Rattle.vap_ast.specs.Value.{value}

abbrev pub x : List ℕ
x = codes "x"

-- x is variable 0, arr array 0, t timer 0, up subroutine 0, and c the constant -5
abbrev pub names : List Entry
names = record { name = x; meaning = Variable 0 } ∷ record { name = codes "arr"; meaning = ArrayOf 0 } ∷ record { name = codes "t"; meaning = TimerOf 0 } ∷ record { name = codes "up"; meaning = SubOf 0 } ∷ record { name = codes "c"; meaning = Constant (negsuc 4) } ∷ []

abbrev pub n : ℕ → Expr
n k = Expr.Literal (pos k)

-- x is 0, arr is 1 and 2, and t runs and counts 7
abbrev pub start : Store
start = record { variables = pos 0 ∷ []; arrays = (pos 1 ∷ pos 2 ∷ []) ∷ []; timers = record { count = 7; runs = true } ∷ []; commands = [] }

-- no number names anything
abbrev pub nowhere : World
nowhere = record { reading = λ k a b. None; command = λ k a b. None }

-- each reading is the difference of its arguments
abbrev apart : World
apart = record { reading = λ k a b. Some (a -ℤ b); command = λ k a b. None }

-- a division by 0
abbrev pub zero_div : Expr
zero_div = Expr.Binary Div (n 1) (n 0)

-- a sum that is out of range
abbrev pub over : Expr
over = Expr.Binary Add (n 2147483647) (n 1)

-- the left side faults first
left_first : value names nowhere start (Expr.Binary Add zero_div over) ≡ Err ZeroDivisor
left_first = refl

left_only : value names nowhere start (Expr.Binary Add over zero_div) ≡ Err Overflow
left_only = refl

-- both sides of AND are computed
both : value names nowhere start (Expr.Binary And (n 0) zero_div) ≡ Err ZeroDivisor
both = refl

-- 7 / -2 is -3, and the least number has no negative
toward_zero : value names nowhere start (Expr.Binary Div (n 7) (Expr.Literal (negsuc 1))) ≡ Ok (negsuc 2)
toward_zero = refl

least : value names nowhere start (Expr.Unary Neg (Expr.Literal (negsuc 2147483647))) ≡ Err Overflow
least = refl

least_div : value names nowhere start (Expr.Binary Div (Expr.Literal (negsuc 2147483647)) (Expr.Literal (negsuc 0))) ≡ Err Overflow
least_div = refl

-- arguments keep their order, and fault before the number is looked up
order_of_arguments : value names apart start (Expr.Read InterstageActive (Exprs.next (n 3) (Exprs.next (n 1) Exprs.none))) ≡ Ok (pos 2)
order_of_arguments = refl

no_reading : value names nowhere start (Expr.Read InterstageActive (Exprs.next (n 3) (Exprs.next zero_div Exprs.none))) ≡ Err ZeroDivisor
no_reading = refl

-- a timer's name is its count, a constant's its value
counts : value names nowhere start (Expr.Binary Add (Expr.Name (codes "t")) (Expr.Name (codes "c"))) ≡ Ok (pos 2)
counts = refl

-- cells are counted from 1
cells : value names nowhere start (Expr.Cell (codes "arr") (n 2)) ≡ Ok (pos 2)
cells = refl

no_cell : value names nowhere start (Expr.Cell (codes "arr") (n 0)) ≡ Err Index
no_cell = refl

-- the left side comes first
difference : value names nowhere start (Expr.Binary Sub (n 1) (n 2)) ≡ Ok (negsuc 0)
difference = refl

-- both sides of OR are computed
both_of_or : value names nowhere start (Expr.Binary Or (n 1) zero_div) ≡ Err ZeroDivisor
both_of_or = refl
