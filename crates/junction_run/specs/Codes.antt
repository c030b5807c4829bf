-- The text of a code.
use Rattle.std.specs.Prelude.{◌≡◌, ◌+◌, ℕ, List, length, Result, Ok, Err}
use Rattle.code_file.specs.Reading.{code_of}
use Rattle.code_file.specs.Text.{code_text}
use Rattle.code_file.specs.declared.refusal.CodeWhy.{CodeWhy}
use Rattle.vap_ast.specs.Syntax.{Program}
use Rattle.vap_code.specs.Codes.{CodeOf}
use Rattle.vap_code.specs.Valid.{Valid, FirstBroken}
use Rattle.vap_code.specs.declared.VerifyWhy.{VerifyWhy}
use Rattle.junction_run.specs.Programs.{Runs}
use Rattle.junction_run.specs.Reasons.{code_reason, verify_reason}

-- the line of the instruction at a place; lines count from 1, and before the first instruction stand those of the header, VARS,
-- TIMERS, ARRAYS, ROUTINES and CODE, and one for each array and each start
abbrev pub instr_line : CodeOf → ℕ → ℕ
instr_line code place = 7 + length code.arrays + length code.starts + place

-- A text is that of a valid code; or it is refused at a line: at the first that is not as it must be, else at the instruction of
-- the least place at which the first broken check is broken.
pub data CodeIs (bytes : List ℕ) : Result CodeOf (ℕ × List ℕ) → Type 0 where
  no_code : (line : ℕ) (why : CodeWhy) → code_of bytes ≡ Err (line, why) → CodeIs bytes (Err (line, code_reason why))
  unsound : (code : CodeOf) (why : VerifyWhy) (place : ℕ) → code_of bytes ≡ Ok code → FirstBroken code why place
      → CodeIs bytes (Err (instr_line code place, verify_reason why))
  is_code : (code : CodeOf) → code_of bytes ≡ Ok code → Valid code → CodeIs bytes (Ok code)

-- the one text of a valid code that does what a program does; it spells that code
pub record IsCompiled (program : Program) (text : List ℕ) : Type 0 where
  pub code : CodeOf
  pub valid : Valid code
  pub is_text : text ≡ code_text code
  pub spells : code_of text ≡ Ok code
  pub runs : Runs code program
