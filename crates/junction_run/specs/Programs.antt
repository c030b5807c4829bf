-- The text of a program.
use Rattle.std.specs.Prelude.{◌≡◌, ℕ, List, length, map, Result, Ok, Err}
use Rattle.sig_types.specs.Pass.{Logic, Store, World}
use Rattle.vap_ast.specs.Passes.{program_logic, first_store, FitsProgram}
use Rattle.vap_ast.specs.Sound.{source_of}
use Rattle.vap_ast.specs.Syntax.{Program}
use Rattle.vap_lex.specs.declared.token.Token.{Token}
use Rattle.vap_lex.specs.declared.piece.LexWhy.{LexWhy}
use Rattle.vap_lex.specs.Refusal.{IsStuck}
use Rattle.vap_lex.specs.Tokens.{HasTokens, line_at}
use Rattle.vap_parse.specs.declared.kind.Reason.{Reason}
use Rattle.vap_parse.specs.Grammar.{Accepts}
use Rattle.vap_parse.specs.Grammar as grammar
use Rattle.vap_parse.specs.Refusal.{line_of, why_of}
use Rattle.vap_check.specs.declared.refusal.CheckWhy.{CheckWhy}
use Rattle.vap_check.specs.Accepted.{Accepted}
use Rattle.vap_check.specs.Accepted as check
use Rattle.vap_check.specs.Names.{timers, variables}
use Rattle.vap_check.specs.Numbers.{names_of}
use Rattle.vap_check.specs.Readings.{with_readings}
use Rattle.vap_code.specs.Codes.{CodeOf}
use Rattle.vap_code.specs.Machine.{machine}
use Rattle.junction_run.specs.Reasons.{lex_reason, parse_reason, check_reason}

-- A text is that of a program, by its tokens, their tree, the readings of the cycle in it, and its checks; or it is refused at
-- a line: at the first place that is no token, else at the first token with which it is no front of a program, else by the first
-- check that fails.
pub data ProgramIs (bytes : List ℕ) : Result Program (ℕ × List ℕ) → Type 0 where
  no_token : (place : ℕ) (why : LexWhy) → IsStuck bytes place why → ProgramIs bytes (Err (line_at bytes place, lex_reason why))
  no_tree : (tokens : List Token) (rest : List Token) (why : Reason) → HasTokens bytes tokens → grammar.Refuses tokens why rest
      → ProgramIs bytes (Err (line_of tokens rest, parse_reason (why_of tokens rest why)))
  unchecked : (tokens : List Token) (program : Program) (line : ℕ) (why : CheckWhy)
      → HasTokens bytes tokens → Accepts tokens program
      → check.Refuses (with_readings program) line why → ProgramIs bytes (Err (line, check_reason why))
  is_program : (tokens : List Token) (program : Program) → HasTokens bytes tokens → Accepts tokens program
      → Accepted (with_readings program) → ProgramIs bytes (Ok (with_readings program))

-- what a program does in a pass
abbrev pub logic_of : Program → Logic
logic_of program = program_logic (source_of program (names_of program))

-- the store before its first pass
abbrev pub store_of : Program → Store
store_of program = first_store (length (variables program)) (length (timers program)) program.arrays

-- the code has the program's numbers of variables and timers, and its arrays with their values, and does in each pass what the
-- program does
pub record Runs (code : CodeOf) (program : Program) : Type 0 where
  pub variables_are : code.vars ≡ length (variables program)
  pub timers_are : code.timers ≡ length (timers program)
  pub arrays_are : code.arrays ≡ map (λ a. a.values) program.arrays
  pub same : (world : World) (s : Store) → FitsProgram (length (variables program)) (length (timers program)) program.arrays s
      → machine code world s ≡ logic_of program world s
