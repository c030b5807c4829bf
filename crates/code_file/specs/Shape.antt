-- Which codes have a text: those that have Shape, with their numbers in the ranges of their types.
use Rattle.std.specs.Prelude.{◌≡◌, ℕ, ◌<◌, ◌≤◌, ◌↔◌, length, true}
use Rattle.std.specs.List.{All, list_all}
use Rattle.sig_types.specs.Number.{fits}
use Rattle.vap_code.specs.declared.Instr.{Instr}
use Rattle.vap_code.specs.declared.operands.Operand.{Operand}
use Rattle.vap_code.specs.declared.operands.Operand.TheVariants as operand
use Rattle.vap_code.specs.Operands.{operand_of}
use Rattle.vap_code.specs.Codes.{CodeOf}
use Rattle.vap_code.specs.Valid.{HasShape, instr_at}
use Rattle.code_file.specs.Text.{HasText}

-- an operand is in the range of its type; which lines a program can have is for Shape
abbrev pub OperandTyped : Operand → Type 0
OperandTyped (operand.Line n) = Unit {0}
OperandTyped (operand.Value v) = fits v ≡ true
OperandTyped (operand.Variable n) = n ≤ 65535
OperandTyped (operand.Array n) = n ≤ 65535
OperandTyped (operand.Timer n) = n ≤ 65535
OperandTyped (operand.Place n) = n ≤ 65535
OperandTyped (operand.Routine n) = n ≤ 65535
OperandTyped operand.Nothing = Unit {0}
OperandTyped (operand.Reading kind) = Unit {0}
OperandTyped (operand.Command kind) = Unit {0}

-- the numbers of an instruction are those of its type
abbrev pub IsTyped : Instr → Type 0
IsTyped i = OperandTyped (operand_of i)

-- the numbers of a code are those of their types: 16 bits for slots, places and routines, 32 bits for values
pub record HasRanges (code : CodeOf) : Type 0 where
  pub instrs : (p : ℕ) → p < length code.instrs → IsTyped (instr_at code.instrs p)
  pub values : All (λ a. list_all fits a ≡ true) code.arrays

-- a code has a text exactly where it has Shape and its numbers are those of their types
abbrev pub TextIffShape : Type 0
TextIffShape = (code : CodeOf) → HasText code ↔ (HasShape code × HasRanges code)
