-- What is asked for has one text.
use Rattle.std.proofs.Common.{◌≡◌, ◌∙◌, [], ◌∷◌, ◌++◌, ℕ, List, Option, None, Some, Result, Ok, Err, refl, sym, subst}
use Rattle.std.specs.Io.KnownBytes.{append_known}
use Rattle.sig_io.specs.Outside.{Contents}
use Rattle.sig_io.specs.Seen.{Seen}
use Rattle.sig_types.specs.Counts.{Counts}
use Rattle.vap_ast.specs.Syntax.{Program}
use Rattle.vap_lex.specs.declared.token.Token.{Token}
use Rattle.vap_lex.specs.Tokens.{HasTokens}
use Rattle.controller.specs.Past.{Site}
use Rattle.junction_run.specs.declared.status.Status.TheVariants.{Done}
use Rattle.junction_run.specs.declared.stop.LoadStop.TheVariants as load
use Rattle.junction_run.specs.declared.stop.PlayStop.TheVariants as play
use Rattle.junction_run.specs.declared.stop.Stop.TheVariants.{Load, Play}
use Rattle.junction_run.specs.Loading.{program_at}
use Rattle.trace_call.specs.Loaded.{code_for}
use Rattle.trace_told.specs.ValueRows.{header_text}
use Rattle.trace_call.specs.declared.stop.Stop.{Stop}
use Rattle.trace_call.specs.declared.stop.Stop.TheVariants.{Words, NoName, Run}
use Rattle.trace_call.specs.Call.{IsAnswerTo, IsDone, status_by}
use Rattle.trace_call.specs.Form.{Asked, EndsWords, Help, HowEnded, Lines, LinesWords, RunWords, Second, SecondWords, Trace, Values, ValuesWords, Version, form_of}
use Rattle.trace_call.specs.HowEnded.{WereEnds, ends_text}
use Rattle.trace_call.specs.Lines.{AreMade, WereCounted, counted_of, detectors_of, lines_text}
use Rattle.trace_call.specs.Prints.{WerePrints, prints_text}
use Rattle.trace_call.specs.Second.{WasListed, second_text}
use Rattle.trace_call.specs.Values.{WasTold, columns_for, rows_text}
use Rattle.laws.specs.OneProgram.{OneProgram, OneText}

-- a text has one list of tokens
abbrev pub OneList : Type 0
OneList = (text : List ℕ) (ts us : List Token) → HasTokens text ts → HasTokens text us → ts ≡ us

-- detector files of which all seconds were made give one run each
pub made_once : (names : List (List ℕ)) (file : Contents) (xs ys : List (List Counts)) → AreMade names file xs → AreMade names file ys → xs ≡ ys
made_once [] file [] [] a b = refl
made_once [] file [] (y ∷ ys) a b = absurd b
made_once [] file (x ∷ xs) ys a b = absurd a
made_once (name ∷ names) file [] ys a b = absurd a
made_once (name ∷ names) file (x ∷ xs) [] a b = absurd b
made_once (name ∷ names) file (x ∷ xs) (y ∷ ys) a b =
    let first : x ≡ y = sym a.0.0 ∙ b.0.0 in
    let rest : xs ≡ ys = made_once names file xs ys a.1 b.1 in
    (λ j. first j ∷ rest j)

module _ (once : OneProgram) (tokens : OneList) (file : Contents) (old a b : Option (List ℕ)) where
  values_once : (asked : ValuesWords) → WasTold {A = Unit {0}} asked file (Ok tt) old a → WasTold {A = Unit {0}} asked file (Ok tt) old b → a ≡ b
  values_once asked x y =
      let same = once asked.run.program asked.run.site file x.has.site y.has.site x.has.program y.has.program x.has.gives y.has.gives in
      let frames : x.frames ≡ y.frames = sym x.given.0 ∙ y.given.0 in
      let text : Program → Site → List Counts → List ℕ = λ p site fs.
      header_text p (columns_for p asked.names)
      ++ rows_text asked.first asked.last (columns_for p asked.names) (program_at site p) fs in
      x.written ∙ (λ j. append_known old (text (same.1 j) (same.0 j) (frames j))) ∙ sym y.written

  ends_once : (asked : EndsWords) → WereEnds {A = Unit {0}} asked file (Ok tt) old a → WereEnds {A = Unit {0}} asked file (Ok tt) old b → a ≡ b
  ends_once asked x y =
      let same = once asked.run.program asked.run.site file x.site y.site x.program y.program x.gives y.gives in
      let frames : x.frames ≡ y.frames = sym x.given.0 ∙ y.given.0 in
      x.written ∙ (λ j. append_known old (ends_text asked.csv (same.1 j) (same.0 j) (frames j))) ∙ sym y.written

  lines_once : (asked : LinesWords) → WereCounted asked file (λ text. a ≡ append_known old text) →
      WereCounted asked file (λ text. b ≡ append_known old text) → a ≡ b
  lines_once asked x y =
      let same = once asked.run.program asked.run.site file x.site y.site x.program y.program x.gives y.gives in
      let runs : x.runs ≡ y.runs = made_once (detectors_of asked) file x.runs y.runs x.made y.made in
      let text : Program → Site → List (List Counts) → List ℕ = λ p site runs.
      lines_text asked.style asked.run.program (file asked.run.program) (counted_of (code_for p) site runs) in
      x.done ∙ (λ j. append_known old (text (same.1 j) (same.0 j) (runs j))) ∙ sym y.done

  second_once : (asked : SecondWords) → WasListed {A = Unit {0}} asked file (Ok tt) old a → WasListed {A = Unit {0}} asked file (Ok tt) old b → a ≡ b
  second_once asked x y =
      let same = once asked.run.program asked.run.site file x.site y.site x.program y.program x.gives y.gives in
      let frames : x.frames ≡ y.frames = sym x.given.0 ∙ y.given.0 in
      x.written ∙ (λ j. append_known old (second_text asked.second (same.1 j) (same.0 j) (frames j))) ∙ sym y.written

  prints_once : (run : RunWords) → WerePrints {A = Unit {0}} run file (Ok tt) old a → WerePrints {A = Unit {0}} run file (Ok tt) old b → a ≡ b
  prints_once run x y =
      let same = once run.program run.site file x.site y.site x.program y.program x.gives y.gives in
      let frames : x.frames ≡ y.frames = sym x.given.0 ∙ y.given.0 in
      let list : x.tokens ≡ y.tokens = tokens (file run.program) x.tokens y.tokens x.spelled y.spelled in
      x.written ∙ (λ j. append_known old (prints_text (same.1 j) (list j) (same.0 j) (frames j))) ∙ sym y.written

  done_once : (asked : Asked) → IsDone {A = Unit {0}} asked file (Ok tt) old a → IsDone {A = Unit {0}} asked file (Ok tt) old b → a ≡ b
  done_once Help x y = x ∙ sym y
  done_once Version x y = x ∙ sym y
  done_once (Values asked) x y = values_once asked x y
  done_once (HowEnded asked) x y = ends_once asked x y
  done_once (Lines asked) x y = lines_once asked x y
  done_once (Second asked) x y = second_once asked x y
  done_once (Trace run) x y = prints_once run x y

-- nothing else ends so
all_done : (given : Result (Unit {0}) Stop) → Done ≡ status_by given → given ≡ Ok tt
all_done (Ok x) is = refl
all_done (Err Words) is = absurd cc
all_done (Err (NoName word nearest)) is = absurd cc
all_done (Err (Run (Load load.Memory))) is = absurd cc
all_done (Err (Run (Load (load.ReadFault word)))) is = absurd cc
all_done (Err (Run (Load (load.Refused word line reason)))) is = absurd cc
all_done (Err (Run (Load (load.TooLong word)))) is = absurd cc
all_done (Err (Run (Play (play.ReadFault word)))) is = absurd cc
all_done (Err (Run (Play play.WriteFault))) is = absurd cc
all_done (Err (Run (Play (play.RefusedLine word line reason)))) is = absurd cc

-- two answers to what is asked for
answers_once : OneProgram → OneList → (form : Option Asked) (file : Contents) (files others : Seen Contents) (out other_out : Seen (List ℕ))
    (given other : Result (Unit {0}) Stop) → files.old ≡ Some file → others.old ≡ Some file → out.old ≡ other_out.old → given ≡ Ok tt → other ≡ Ok tt →
    IsAnswerTo form files out given → IsAnswerTo form others other_out other → out.new ≡ other_out.new
answers_once once tokens None file files others out other_out given other tells tell same done did x y = x.1 ∙ same ∙ sym y.1
answers_once once tokens (Some asked) file files others out other_out given other tells tell same done did x y =
    done_once once tokens file other_out.old out.new other_out.new asked
    (subst (λ o. IsDone {A = Unit {0}} asked file (Ok tt) o out.new) same (subst (λ r. IsDone {A = Unit {0}} asked file r out.old out.new) done (x file tells)))
    (subst (λ r. IsDone {A = Unit {0}} asked file r other_out.old other_out.new) did (y file tell))

pub text_once : OneProgram → OneList → OneText
text_once once tokens words file files others out other_out notes other_notes tells tell same x y =
    answers_once once tokens (form_of words) file files others out other_out x.given y.given tells tell same
    (all_done x.given x.status_is) (all_done y.given y.status_is) x.answer y.answer
