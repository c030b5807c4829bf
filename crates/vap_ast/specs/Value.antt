-- The value of an expression.
use Rattle.std.specs.Prelude.{ℕ, List, [], ◌∷◌, Option, Some, ℤ, pos, Result, Ok, Err, ◌+ℤ◌, ◌-ℤ◌, ◌*ℤ◌, neg_ℤ, int_lt, int_le, not, ◌&&◌, ◌||◌}
use Rattle.sig_types.specs.declared.kinds.FaultKind.{FaultKind}
use Rattle.sig_types.specs.Number.{Answer, bounded, truth, holds, quotient, equal}
use Rattle.sig_types.specs.Pass.{Store, World, at, cell, timer_count, read}
use Rattle.vap_ast.specs.declared.name.Meaning.{Meaning}
use Rattle.vap_ast.specs.declared.name.Meaning.TheVariants.{Constant, Array, Timer, Variable}
use Rattle.vap_ast.specs.declared.tree.BinaryOp.{BinaryOp}
use Rattle.vap_ast.specs.declared.tree.BinaryOp.TheVariants.{Or, And, Eq, Ne, Lt, Le, Gt, Ge, Add, Sub as Minus, Mul, Div}
use Rattle.vap_ast.specs.declared.tree.UnaryOp.{UnaryOp}
use Rattle.vap_ast.specs.declared.tree.UnaryOp.TheVariants.{Neg, Not}
use Rattle.vap_ast.specs.declared.name.Entry.{Entry}
use Rattle.vap_ast.specs.Syntax.{Expr, Exprs}
use Rattle.vap_ast.specs.Names.{meaning_in}

-- an operator on two numbers
abbrev pub binary : BinaryOp → ℤ → ℤ → Answer
binary Or x y = Ok (truth (holds x || holds y))
binary And x y = Ok (truth (holds x && holds y))
binary Eq x y = Ok (truth (equal x y))
binary Ne x y = Ok (truth (not (equal x y)))
binary Lt x y = Ok (truth (int_lt x y))
binary Le x y = Ok (truth (int_le x y))
binary Gt x y = Ok (truth (int_lt y x))
binary Ge x y = Ok (truth (int_le y x))
binary Add x y = bounded (x +ℤ y)
binary Minus x y = bounded (x -ℤ y)
binary Mul x y = bounded (x *ℤ y)
binary Div x y = quotient x y

-- an operator on one number
abbrev pub unary : UnaryOp → ℤ → Answer
unary Neg x = bounded (neg_ℤ x)
unary Not x = Ok (truth (not (holds x)))

-- goes on with a value, or stays at the fault
abbrev pub and_then : {A B : Type 0} → Result A FaultKind → (A → Result B FaultKind) → Result B FaultKind
and_then (Err fault) go = Err fault
and_then (Ok v) go = go v

-- a plain name: a constant, a timer's count or a variable
abbrev pub named : Store → Option Meaning → ℤ
named s (Some (Constant v)) = v
named s (Some (Timer t)) = timer_count s t
named s (Some (Variable x)) = at s.variables x (pos 0)
named s _ = pos 0

-- the number of an array, which a checked program always has
abbrev pub array_number : Option Meaning → ℕ
array_number (Some (Array a)) = a
array_number _ = 0

-- the first argument of a reading or a command; 0 where there is none
abbrev pub first_of : List ℤ → ℤ
first_of [] = pos 0
first_of (x ∷ xs) = x

-- the second argument of a reading or a command; 0 where there is none
abbrev pub second_of : List ℤ → ℤ
second_of [] = pos 0
second_of (x ∷ xs) = first_of xs

module _ (names : List Entry) (world : World) (s : Store) where
  abbrev mutual
    -- the value of an expression, or the first fault from the left
    pub value : Expr → Answer
    value (Expr.Literal v) = Ok v
    value (Expr.Name name) = Ok (named s (meaning_in names name))
    value (Expr.Cell array index) = and_then (value index) (λ i. cell s (array_number (meaning_in names array)) i)
    value (Expr.Unary op arg) = and_then (value arg) (unary op)
    value (Expr.Binary op left right) = and_then (value left) (λ x. and_then (value right) (binary op x))
    value (Expr.Read kind args) = and_then (values args) (λ vs. read world kind (first_of vs) (second_of vs))

    -- the values of arguments, from left to right
    pub values : Exprs → Result (List ℤ) FaultKind
    values Exprs.none = Ok []
    values (Exprs.next arg args) = and_then (value arg) (λ v. and_then (values args) (λ vs. Ok (v ∷ vs)))
