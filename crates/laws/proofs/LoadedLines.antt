-- Each pass of what is loaded has its fault at a line that a program can have.
use Rattle.std.proofs.Common.{◌≡◌, ℕ, ◌≤◌, List, length, Result, Ok, Err, sym, subst, arith}
use Rattle.sig_types.specs.Limits.{last_line}
use Rattle.vap_ast.specs.Parsed.{Parsed}
use Rattle.vap_ast.specs.Syntax.{Program}
use Rattle.vap_check.specs.KeptTrees.{KeepsParsed}
use Rattle.vap_check.specs.Numbers.{names_of}
use Rattle.vap_code.specs.Codes.{CodeOf}
use Rattle.vap_code.specs.Valid.{Valid}
use Rattle.vap_parse.proofs.Keeps.{parsed}
use Rattle.controller.specs.Past.{Site}
use Rattle.junction_run.specs.Codes.{CodeIs, is_code, no_code, unsound}
use Rattle.junction_run.specs.Form.{CodeFile, ProgramFile, Source}
use Rattle.junction_run.specs.Loading.{AfterSite, IsSource, Playing, Refusal, SourceIs, Unloaded, Value, accepted, limit_of, long, played_at, refused, text_limit}
use Rattle.junction_run.specs.Programs.{ProgramIs, is_program, no_token, no_tree, unchecked}
use Rattle.laws.proofs.CodeLines.{codes_have_lines}
use Rattle.laws.proofs.FaultLines.{HasLines}
use Rattle.laws.proofs.ProgramLines.{programs_have_lines}
use Rattle.laws.proofs.TextLines.{tokens_have_lines}

-- a code that is read is valid
abbrev OfCode : Result CodeOf Refusal → Type 0
OfCode (Ok code) = Valid code
OfCode (Err refusal) = Unit {0}

code_valid : (bytes : List ℕ) (r : Result CodeOf Refusal) → CodeIs bytes r → OfCode r
code_valid bytes r (no_code line why is) = tt
code_valid bytes r (unsound code why place is broken) = tt
code_valid bytes r (is_code code is valid) = valid

-- the lines of a program that is read are those that a program can have
abbrev OfProgram : Result Program Refusal → Type 0
OfProgram (Ok program) = Parsed last_line program
OfProgram (Err refusal) = Unit {0}

abbrev ok_of : Playing → Result Playing Unloaded
ok_of playing = Ok playing

same_playing : (a b : Playing) → ok_of a ≡ ok_of b → a ≡ b
same_playing a b is = cc

module _ (keeps : KeepsParsed) where
  program_parsed : (bytes : List ℕ) (r : Result Program Refusal) → length bytes ≤ text_limit → ProgramIs bytes r → OfProgram r
  program_parsed bytes r short (no_token place why is) = tt
  program_parsed bytes r short (no_tree tokens rest why has refuses) = tt
  program_parsed bytes r short (unchecked tokens program line why has accepts refuses) = tt
  program_parsed bytes r short (is_program tokens program has accepts checked) =
      keeps _ last_line program (parsed last_line tokens program (tokens_have_lines bytes tokens last_line (omega (arith, short)) has) accepts)

  value_lined : (source : Source) (bytes : List ℕ) (value : Value source) (site : Site) → length bytes ≤ limit_of source →
      SourceIs source bytes (Ok value) → HasLines (played_at source site value).logic
  value_lined (ProgramFile word) bytes program site short is =
      programs_have_lines program (names_of program) (program_parsed bytes (Ok program) short is)
  value_lined (CodeFile word) bytes code site short is = codes_have_lines code (code_valid bytes (Ok code) is)

  -- what is played of a value at a site
  abbrev Lined : (source : Source) → Site → Result (Value source) Unloaded → Type 0
  Lined source site (Ok value) = HasLines (played_at source site value).logic
  Lined source site (Err unloaded) = Unit {0}

  source_lined : (source : Source) (bytes : List ℕ) (site : Site) (r : Result (Value source) Unloaded) → IsSource source bytes r → Lined source site r
  source_lined source bytes site r (long more) = tt
  source_lined source bytes site r (refused line reason short is) = tt
  source_lined source bytes site r (accepted value short is) = value_lined source bytes value site short is

  pub loaded_lined : (source : Source) (bytes : List ℕ) (playing : Playing) (o : Result Site Unloaded) →
      AfterSite (played_at source) o (IsSource source bytes) (Ok playing) → HasLines playing.logic
  loaded_lined source bytes playing (Err u) loads = absurd (let e : Ok playing ≡ Err u = loads in cc)
  loaded_lined source bytes playing (Ok site) (Err u, is, same) = absurd (let e : Ok playing ≡ Err u = same in cc)
  loaded_lined source bytes playing (Ok site) (Ok value, is, same) =
      let e : playing ≡ played_at source site value = same_playing playing (played_at source site value) same in
      subst (λ (p : Playing). HasLines p.logic) (sym e) (source_lined source bytes site (Ok value) is)
