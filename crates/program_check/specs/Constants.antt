-- The answers of expressions that are the same in every pass.
use Rattle.std.specs.Prelude.{ℤ, List, Option, Some, None, Ok, Err}
use Rattle.sig_types.specs.Number.{Answer}
use Rattle.vap_ast.specs.declared.name.Entry.{Entry}
use Rattle.vap_ast.specs.declared.name.Meaning.{Meaning}
use Rattle.vap_ast.specs.declared.name.Meaning.TheVariants.{Constant, Array, Sub, Timer, Variable}
use Rattle.vap_ast.specs.Names.{meaning_in}
use Rattle.vap_ast.specs.Syntax.{Expr}
use Rattle.vap_ast.specs.Value.{binary, unary}

-- the value of a constant
abbrev pub constant_value : Option Meaning → Option ℤ
constant_value (Some (Constant value)) = Some value
constant_value (Some (Array number)) = None
constant_value (Some (Sub number)) = None
constant_value (Some (Timer number)) = None
constant_value (Some (Variable number)) = None
constant_value None = None

-- a known value as an answer
abbrev pub answer_of : Option ℤ → Option Answer
answer_of None = None
answer_of (Some value) = Some (Ok value)

-- goes on with a known value; what is not known and what is a fault stays
abbrev pub after : Option Answer → (ℤ → Option Answer) → Option Answer
after None go = None
after (Some (Err fault)) go = Some (Err fault)
after (Some (Ok value)) go = go value

-- the value of an answer that is known and no fault
abbrev pub value_in : Option Answer → Option ℤ
value_in None = None
value_in (Some (Err fault)) = None
value_in (Some (Ok value)) = Some value

-- where names have these meanings
module _ (names : List Entry) where
  -- the answer of an expression of numbers and constants alone; of an operator whose left side is a fault, that fault
  abbrev pub constant_answer : Expr → Option Answer
  constant_answer (Expr.Literal value) = Some (Ok value)
  constant_answer (Expr.Name name) = answer_of (constant_value (meaning_in names name))
  constant_answer (Expr.Cell array index) = None
  constant_answer (Expr.Unary op arg) = after (constant_answer arg) (λ x. Some (unary op x))
  constant_answer (Expr.Binary op left right) =
      after (constant_answer left) (λ x. after (constant_answer right) (λ y. Some (binary op x y)))
  constant_answer (Expr.Read kind args) = None
