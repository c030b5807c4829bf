-- What `junction_trace` answers is one thing.
use Rattle.std.proofs.Common.{◌≡◌, ◌∙◌, ◌<◌, ℕ, List, [], ◌∷◌, ◌++◌, codes, Option, None, Some, Result, Ok, Err, slice_index_or, refl, sym, ap, subst, arith, inl, inr}
use Rattle.std.proofs.lemmas.Bool.{cases_order}
use Rattle.std.specs.Io.KnownBytes.{append_known}
use Rattle.sig_io.specs.Outside.{Contents}
use Rattle.sig_types.specs.Counts.{Counts}
use Rattle.vap_ast.specs.Syntax.{Program}
use Rattle.vap_lex.specs.declared.token.Token.{Token}
use Rattle.vap_lex.specs.Tokens.{HasTokens}
use Rattle.controller.specs.Past.{Site}
use Rattle.det_stream.specs.declared.refusal.StreamWhy.{StreamWhy}
use Rattle.det_stream.specs.Stream.{stream_of}
use Rattle.junction_run.specs.declared.status.Status.{Status}
use Rattle.junction_run.specs.declared.status.Status.TheVariants.{Done, Memory, ReadFault, WriteFault, RefusedLine}
use Rattle.junction_run.specs.declared.status.Status.TheVariants as status
use Rattle.junction_run.specs.declared.stop.LineReason.TheVariants.{Frame, Record}
use Rattle.junction_run.specs.declared.stop.LoadStop.TheVariants as load
use Rattle.junction_run.specs.declared.stop.PlayStop.{PlayStop}
use Rattle.junction_run.specs.declared.stop.PlayStop.TheVariants as play
use Rattle.junction_run.specs.declared.stop.Stop.TheVariants.{Load, Play}
use Rattle.junction_run.specs.Answer.{line_note, stream_note, stream_status, unloaded_answer}
use Rattle.junction_run.specs.Form.{Sample, SiteWords}
use Rattle.junction_run.specs.Laws.{LoadsOnce}
use Rattle.junction_run.specs.Loading.{LoadsProgram, Playing, Unloaded, program_at}
use Rattle.junction_run.specs.Loading as loading
use Rattle.junction_run.specs.Notes.{play_note}
use Rattle.junction_run.specs.Played.{IsPlayed}
use Rattle.junction_run.specs.Reasons.{reason_text, stream_reason}
use Rattle.junction_run.specs.Stop.{StopsWith}
use Rattle.trace_told.specs.declared.columns.Column.{Column}
use Rattle.trace_told.specs.declared.columns.Column.TheVariants.{Variable}
use Rattle.trace_told.specs.Columns.{IsUnknown, columns_of, name_of}
use Rattle.trace_told.specs.Nearest.{IsNearest, IsNearestPlace}
use Rattle.trace_told.specs.ValueRows.{header_text}
use Rattle.trace_call.specs.declared.stop.Stop.{Stop}
use Rattle.trace_call.specs.declared.stop.Stop.TheVariants.{Words, NoName, Run}
use Rattle.trace_call.specs.Call.{IsAnswerTo, IsDone, IsNoted, IsTraced, status_by, usage_text, version_text}
use Rattle.trace_call.specs.Chosen.{IsNotNamed}
use Rattle.trace_call.specs.Form.{Asked, EndsWords, Help, HowEnded, Lines, LinesWords, RunWords, Second, SecondWords, Trace, Values, ValuesWords, Version, form_of}
use Rattle.trace_call.specs.HowEnded.{IsHowEnded, ends_text}
use Rattle.trace_call.specs.Lines.{AreMade, AreStopped, IsLines, IsStoppedRun, counted_of, detectors_of, lines_text}
use Rattle.trace_call.specs.Loaded.{FilesGive, code_for}
use Rattle.trace_call.specs.Notes.{nearest_text, status_of, stop_note}
use Rattle.trace_call.specs.Prints.{IsTrace, prints_text}
use Rattle.trace_call.specs.Second.{IsSecond, second_text}
use Rattle.trace_call.specs.Values.{AllNamed, IsValues, columns_for, rows_text}
use Rattle.trace_call.specs.Written.{IsWritten}
use Rattle.laws.specs.OneAnswer.{BeginAlike, Call, WentWell}
use Rattle.laws.specs.OneProgram.{IsWhatRunPlays, OneProgram}
use Rattle.laws.specs.OneTrace.{TraceHasOneAnswer}
use Rattle.laws.proofs.OneText.{OneList, made_once}

-- ---- how a call ends

-- neither want of memory nor a fault ended it
record IsOwnEnd (given : Result (Unit {0}) Stop) : Type 0 where
  pub found : status_by given ≡ Memory → ⊥
  pub read : StopsWith status_of ReadFault given → ⊥
  pub written : StopsWith status_of WriteFault given → ⊥

-- its note, where it has one
abbrev note_by : Result (Unit {0}) Stop → Option (List ℕ)
note_by (Ok x) = None
note_by (Err stop) = Some (stop_note stop)

-- what has been noted behind what was there
abbrev noted : Option (List ℕ) → Option (List ℕ) → Option (List ℕ)
noted old None = old
noted old (Some told_note) = append_known old told_note

-- a status, a note and what has been written, of either of two calls
abbrev AreAlike : (status other : Status) (told_note other_note new other_new : Option (List ℕ)) → Type 0
AreAlike status other told_note other_note new other_new = (status ≡ other) × (told_note ≡ other_note) × (new ≡ other_new)

-- ---- of a form that tells seconds while they are made

-- a form: its files, what is the text of a program at a site over frames, whether a program has what is asked for, and the note where
-- it hasn't
record Telling : Type 1 where
  pub program : List ℕ
  pub words : SiteWords
  pub detectors : List ℕ
  pub IsText : Program → Site → List Counts → List ℕ → Type 0
  pub Named : Program → Type 0
  pub Unnamed : Program → List ℕ → Type 0

-- the note of a detector file that has this first refused line
abbrev frames_note : List ℕ → Option (ℕ × StreamWhy) → Option (List ℕ)
frames_note word None = None
frames_note word (Some at) = Some (line_note word at.0 (stream_reason at.1))

-- how a call of the form ends where nothing fails
data Ending (t : Telling) (file : Contents) (end : Status) (told_note old new : Option (List ℕ)) : Type 0 where
  seconds_told : (p : Program) (s : Site) → FilesGive t.program t.words file s p → t.Named p →
      end ≡ stream_status (stream_of (file t.detectors)).refusal → told_note ≡ frames_note t.detectors (stream_of (file t.detectors)).refusal →
      (text : List ℕ) → t.IsText p s (stream_of (file t.detectors)).frames text → new ≡ append_known old text → Ending t file end told_note old new
  file_refused : (u : Unloaded) → LoadsProgram t.program t.words file (Err u) → end ≡ (unloaded_answer u).status → told_note ≡ Some (unloaded_answer u).note →
      new ≡ old → Ending t file end told_note old new
  name_refused : (p : Program) (s : Site) → FilesGive t.program t.words file s p → (text : List ℕ) → t.Unnamed p text → end ≡ status.Words →
      told_note ≡ Some text → new ≡ old → Ending t file end told_note old new

-- a program has one text, and either all that is asked for is there, or the note is one
record IsSettled (t : Telling) : Type 0 where
  pub text : (p : Program) (s : Site) (frames : List Counts) (a b : List ℕ) → t.IsText p s frames a → t.IsText p s frames b → a ≡ b
  pub apart : (p : Program) (text : List ℕ) → t.Named p → t.Unnamed p text → ⊥
  pub one : (p : Program) (a b : List ℕ) → t.Unnamed p a → t.Unnamed p b → a ≡ b

-- what the proofs stand on
record Once : Type 0 where
  pub program : OneProgram
  pub played : IsWhatRunPlays
  pub loads : LoadsOnce
  pub tokens : OneList

same_unloaded : (u v : Unloaded) → ◌≡◌ {A = Result Playing Unloaded} (Err u) (Err v) → u ≡ v
same_unloaded u v is = cc

-- the files of a program are refused at one place
refused_once : Once → (program : List ℕ) (words : SiteWords) (file : Contents) (u v : Unloaded) → LoadsProgram program words file (Err u) →
    LoadsProgram program words file (Err v) → u ≡ v
refused_once once program words file u v a b = same_unloaded u v (once.loads (Sample program words 0 0) file (Err u) (Err v) a b)

-- and not where they give a program
never_both : Once → (program : List ℕ) (words : SiteWords) (file : Contents) (s : Site) (p : Program) (u : Unloaded) → FilesGive program words file s p →
    LoadsProgram program words file (Err u) → ⊥
never_both once program words file s p u gives refused =
    let is : Ok (program_at s p) ≡ Err u =
    once.loads (Sample program words 0 0) file (Ok (program_at s p)) (Err u) (once.played program words file s p gives) refused in
    cc

ending_once : Once → (t : Telling) (file : Contents) → IsSettled t → (end other : Status) (told_note other_note old other_old new other_new : Option (List ℕ)) →
    old ≡ other_old → Ending t file end told_note old new → Ending t file other other_note other_old other_new →
    AreAlike end other told_note other_note new other_new
ending_once once t file settled end other told_note other_note old other_old new other_new same (seconds_told p s gives named e n text told w) (seconds_told q r given name f m text' tell v) =
    let is = once.program t.program t.words file s r p q gives given in
    let frames = (stream_of (file t.detectors)).frames in
    let moved = subst (λ p. t.IsText p r frames text) is.1 (subst (λ s. t.IsText p s frames text) is.0 told) in
    let texts : text ≡ text' = settled.text q r frames text text' moved tell in
    (e ∙ sym f, n ∙ sym m, w ∙ (λ j. append_known (same j) (texts j)) ∙ sym v)
ending_once once t file settled end other told_note other_note old other_old new other_new same (seconds_told p s gives named e n text told w) (file_refused u refused f m v) =
    absurd (never_both once t.program t.words file s p u gives refused)
ending_once once t file settled end other told_note other_note old other_old new other_new same (seconds_told p s gives named e n text told w) (name_refused q r given lacking unnamed f m v) =
    let is = once.program t.program t.words file s r p q gives given in
    absurd (settled.apart q lacking (subst t.Named is.1 named) unnamed)
ending_once once t file settled end other told_note other_note old other_old new other_new same (file_refused u refused e n w) (seconds_told q r given name f m text' tell v) =
    absurd (never_both once t.program t.words file r q u given refused)
ending_once once t file settled end other told_note other_note old other_old new other_new same (file_refused u refused e n w) (file_refused v refuse f m z) =
    let is = refused_once once t.program t.words file u v refused refuse in
    (e ∙ ap (λ x. (unloaded_answer x).status) is ∙ sym f, n ∙ ap (λ x. Some (unloaded_answer x).note) is ∙ sym m, w ∙ same ∙ sym z)
ending_once once t file settled end other told_note other_note old other_old new other_new same (file_refused u refused e n w) (name_refused q r given text unnamed f m v) =
    absurd (never_both once t.program t.words file r q u given refused)
ending_once once t file settled end other told_note other_note old other_old new other_new same (name_refused p s gives text unnamed e n w) (seconds_told q r given name f m told tell v) =
    let is = once.program t.program t.words file r s q p given gives in
    absurd (settled.apart p text (subst t.Named is.1 name) unnamed)
ending_once once t file settled end other told_note other_note old other_old new other_new same (name_refused p s gives text unnamed e n w) (file_refused u refused f m v) =
    absurd (never_both once t.program t.words file s p u gives refused)
ending_once once t file settled end other told_note other_note old other_old new other_new same (name_refused p s gives text unnamed e n w) (name_refused q r given text' named' f m v) =
    let is = once.program t.program t.words file s r p q gives given in
    let texts : text ≡ text' = settled.one q text text' (subst (λ p. t.Unnamed p text) is.1 unnamed) named' in
    (e ∙ sym f, n ∙ ap (λ x. Some x) texts ∙ sym m, w ∙ same ∙ sym v)

-- ---- of what was played

-- a detector file that was played to its end or to its first refused line
module _ (t : Telling) (file : Contents) (p : Program) (s : Site) (gives : FilesGive t.program t.words file s p) (named : t.Named p)
    (frames : List Counts) (text : List ℕ) (told : t.IsText p s frames text) (old new : Option (List ℕ)) (written : new ≡ append_known old text) where
  played_whole : (stream_of (file t.detectors)).frames ≡ frames → (stream_of (file t.detectors)).refusal ≡ None → Ending t file Done None old new
  played_whole frames_are whole =
      seconds_told p s gives named (sym (ap stream_status whole)) (sym (ap (frames_note t.detectors) whole)) text
      (subst (λ fs. t.IsText p s fs text) (sym frames_are) told) written

  played_to_line : (word : List ℕ) (line : ℕ) (why : StreamWhy) → word ≡ t.detectors → (stream_of (file t.detectors)).frames ≡ frames →
      (stream_of (file t.detectors)).refusal ≡ Some (line, why) → Ending t file RefusedLine (Some (line_note word line (stream_reason why))) old new
  played_to_line word line why word_is frames_are at =
      seconds_told p s gives named (sym (ap stream_status at))
      (ap (λ w. Some (line_note w line (stream_reason why))) word_is ∙ sym (ap (frames_note t.detectors) at)) text
      (subst (λ fs. t.IsText p s fs text) (sym frames_are) told) written

-- ---- `values`

-- the note of a word that no value has as its name
abbrev unnamed_note : List ℕ → List ℕ → List ℕ
unnamed_note word nearest = codes "junction_trace: " ++ word ++ codes ": NoName" ++ nearest_text nearest ++ codes "\n"

-- a program lacks the first of these names that it lacks, and this is the note
record IsUnnamed (names : List (List ℕ)) (p : Program) (text : List ℕ) : Type 0 where
  pub word : List ℕ
  pub nearest : List ℕ
  pub is : IsNotNamed p names word nearest
  pub text_is : text ≡ unnamed_note word nearest

abbrev values_of : ValuesWords → Program → Site → List Counts → List ℕ
values_of asked p s frames =
    header_text p (columns_for p asked.names) ++ rows_text asked.first asked.last (columns_for p asked.names) (program_at s p) frames

abbrev telling_values : ValuesWords → Telling
telling_values asked = record {
  program = asked.run.program;
  words = asked.run.site;
  detectors = asked.run.detectors;
  IsText = λ p s frames text. text ≡ values_of asked p s frames;
  Named = λ p. AllNamed p asked.names;
  Unnamed = IsUnnamed asked.names;
}

-- of two places that are the first in which something isn't so, neither is before the other
abbrev NeverBefore : (IsFirst : ℕ → Type 0) → Type 0
NeverBefore IsFirst = (i k : ℕ) → IsFirst i → IsFirst k → i < k → ⊥

one_place : (IsFirst : ℕ → Type 0) → NeverBefore IsFirst → (i k : ℕ) → IsFirst i → IsFirst k → i ≡ k
one_place IsFirst never i k a b = elim (cases_order i k) [
  | inl same ↦ same
  | inr differ ↦ elim differ [
    | inl below ↦ absurd (never i k a b below)
    | inr above ↦ absurd (never k i b a above)
  ]
]

same_unknown : (p : Program) (names : List (List ℕ)) (i k : ℕ) → IsUnknown p (columns_of p) names i → IsUnknown p (columns_of p) names k → i ≡ k
same_unknown p names = one_place (IsUnknown p (columns_of p) names) (λ i k a b below. b.before i below a.none)

same_nearest : (p : Program) (word : List ℕ) (columns : List Column) (i k : ℕ) → IsNearestPlace p word columns i → IsNearestPlace p word columns k → i ≡ k
same_nearest p word columns =
    one_place (IsNearestPlace p word columns)
    (λ i k a b below. omega (arith, b.first i below, a.least k b.there))

-- the nearest name to a word is one
nearest_once : (p : Program) (word : List ℕ) (columns : List Column) (a b : List ℕ) → IsNearest p word columns a → IsNearest p word columns b → a ≡ b
nearest_once p word [] a b x y = x.none refl ∙ sym (y.none refl)
nearest_once p word (c ∷ cs) a b x y =
    let one = x.one (omega arith) in
    let two = y.one (omega arith) in
    let same : one.0 ≡ two.0 = same_nearest p word (c ∷ cs) one.0 two.0 one.1 two.1 in
    one.2 ∙ ap (λ k. name_of p (slice_index_or (c ∷ cs) k (Variable 0))) same ∙ sym two.2

-- and so is the note
unnamed_once : (names : List (List ℕ)) (p : Program) (a b : List ℕ) → IsUnnamed names p a → IsUnnamed names p b → a ≡ b
unnamed_once names p a b x y =
    let place : x.is.place ≡ y.is.place = same_unknown p names x.is.place y.is.place x.is.unknown y.is.unknown in
    let word : x.word ≡ y.word = x.is.word_is ∙ ap (λ k. slice_index_or names k []) place ∙ sym y.is.word_is in
    let nearest : x.nearest ≡ y.nearest =
    nearest_once p y.word (columns_of p) x.nearest y.nearest (subst (λ w. IsNearest p w (columns_of p) x.nearest) word x.is.nearest_is) y.is.nearest_is in
    x.text_is ∙ (λ j. unnamed_note (word j) (nearest j)) ∙ sym y.text_is

values_settled : (asked : ValuesWords) → IsSettled (telling_values asked)
values_settled asked = record {
  text = λ p s frames a b x y. x ∙ sym y;
  apart = λ p text named x. named x.is.place x.is.unknown.there x.is.unknown.none;
  one = λ p a b x y. unnamed_once asked.names p a b x y;
}

values_end : (asked : ValuesWords) (file : Contents) (given : Result (Unit {0}) Stop) (old new : Option (List ℕ)) → IsOwnEnd given →
    IsValues {A = Unit {0}} asked file given old new → Ending (telling_values asked) file (status_by given) (note_by given) old new
values_end asked file (Ok x) old new own is =
    played_whole (telling_values asked) file is.has.program is.has.site is.has.gives is.has.named is.frames (values_of asked is.has.program is.has.site is.frames) refl old new is.written
    is.given.0 is.given.1
values_end asked file (Err Words) old new own is = absurd is
values_end asked file (Err (NoName word nearest)) old new own is =
    name_refused is.0.program is.0.site is.0.gives (unnamed_note word.now nearest.items)
    (record {
      word = word.now;
      nearest = nearest.items;
      is = record { place = is.0.place; unknown = is.0.unknown; word_is = is.0.word_is; nearest_is = is.0.nearest_is };
      text_is = refl;
    })
    refl refl is.1
values_end asked file (Err (Run (Load load.Memory))) old new own is = absurd (own.found refl)
values_end asked file (Err (Run (Load (load.ReadFault word)))) old new own is = absurd (own.read refl)
values_end asked file (Err (Run (Load (load.Refused word line reason)))) old new own is =
    file_refused (loading.Refused word.now line (reason_text reason)) is.0 refl refl is.1
values_end asked file (Err (Run (Load (load.TooLong word)))) old new own is = file_refused (loading.TooLong word.now) is.0 refl refl is.1
values_end asked file (Err (Run (Play (play.ReadFault word)))) old new own is = absurd (own.read refl)
values_end asked file (Err (Run (Play play.WriteFault))) old new own is = absurd (own.written refl)
values_end asked file (Err (Run (Play (play.RefusedLine word line (Frame why))))) old new own is =
    played_to_line (telling_values asked) file is.has.program is.has.site is.has.gives is.has.named is.frames (values_of asked is.has.program is.has.site is.frames) refl old new is.written
    word.now line why is.given.0 is.given.1 is.given.2
values_end asked file (Err (Run (Play (play.RefusedLine word line (Record why))))) old new own is = absurd is.given.2

-- ---- `how-ended`

abbrev telling_ends : EndsWords → Telling
telling_ends asked = record {
  program = asked.run.program;
  words = asked.run.site;
  detectors = asked.run.detectors;
  IsText = λ p s frames text. text ≡ ends_text asked.csv p s frames;
  Named = λ p. Unit {0};
  Unnamed = λ p text. ⊥;
}

ends_settled : (asked : EndsWords) → IsSettled (telling_ends asked)
ends_settled asked = record { text = λ p s frames a b x y. x ∙ sym y; apart = λ p text named x. x; one = λ p a b x y. absurd x }

ends_end : (asked : EndsWords) (file : Contents) (given : Result (Unit {0}) Stop) (old new : Option (List ℕ)) → IsOwnEnd given →
    IsHowEnded {A = Unit {0}} asked file given old new → Ending (telling_ends asked) file (status_by given) (note_by given) old new
ends_end asked file (Ok x) old new own is =
    played_whole (telling_ends asked) file is.program is.site is.gives tt is.frames (ends_text asked.csv is.program is.site is.frames) refl old new is.written
    is.given.0 is.given.1
ends_end asked file (Err Words) old new own is = absurd is
ends_end asked file (Err (NoName word nearest)) old new own is = absurd is
ends_end asked file (Err (Run (Load load.Memory))) old new own is = absurd (own.found refl)
ends_end asked file (Err (Run (Load (load.ReadFault word)))) old new own is = absurd (own.read refl)
ends_end asked file (Err (Run (Load (load.Refused word line reason)))) old new own is =
    file_refused (loading.Refused word.now line (reason_text reason)) is.0 refl refl is.1
ends_end asked file (Err (Run (Load (load.TooLong word)))) old new own is = file_refused (loading.TooLong word.now) is.0 refl refl is.1
ends_end asked file (Err (Run (Play (play.ReadFault word)))) old new own is = absurd (own.read refl)
ends_end asked file (Err (Run (Play play.WriteFault))) old new own is = absurd (own.written refl)
ends_end asked file (Err (Run (Play (play.RefusedLine word line (Frame why))))) old new own is =
    played_to_line (telling_ends asked) file is.program is.site is.gives tt is.frames (ends_text asked.csv is.program is.site is.frames) refl old new is.written
    word.now line why is.given.0 is.given.1 is.given.2
ends_end asked file (Err (Run (Play (play.RefusedLine word line (Record why))))) old new own is = absurd is.given.2

-- ---- `second`

abbrev telling_second : SecondWords → Telling
telling_second asked = record {
  program = asked.run.program;
  words = asked.run.site;
  detectors = asked.run.detectors;
  IsText = λ p s frames text. text ≡ second_text asked.second p s frames;
  Named = λ p. Unit {0};
  Unnamed = λ p text. ⊥;
}

second_settled : (asked : SecondWords) → IsSettled (telling_second asked)
second_settled asked = record { text = λ p s frames a b x y. x ∙ sym y; apart = λ p text named x. x; one = λ p a b x y. absurd x }

second_end : (asked : SecondWords) (file : Contents) (given : Result (Unit {0}) Stop) (old new : Option (List ℕ)) → IsOwnEnd given →
    IsSecond {A = Unit {0}} asked file given old new → Ending (telling_second asked) file (status_by given) (note_by given) old new
second_end asked file (Ok x) old new own is =
    played_whole (telling_second asked) file is.program is.site is.gives tt is.frames (second_text asked.second is.program is.site is.frames) refl old new is.written
    is.given.0 is.given.1
second_end asked file (Err Words) old new own is = absurd is
second_end asked file (Err (NoName word nearest)) old new own is = absurd is
second_end asked file (Err (Run (Load load.Memory))) old new own is = absurd (own.found refl)
second_end asked file (Err (Run (Load (load.ReadFault word)))) old new own is = absurd (own.read refl)
second_end asked file (Err (Run (Load (load.Refused word line reason)))) old new own is =
    file_refused (loading.Refused word.now line (reason_text reason)) is.0 refl refl is.1
second_end asked file (Err (Run (Load (load.TooLong word)))) old new own is = file_refused (loading.TooLong word.now) is.0 refl refl is.1
second_end asked file (Err (Run (Play (play.ReadFault word)))) old new own is = absurd (own.read refl)
second_end asked file (Err (Run (Play play.WriteFault))) old new own is = absurd (own.written refl)
second_end asked file (Err (Run (Play (play.RefusedLine word line (Frame why))))) old new own is =
    played_to_line (telling_second asked) file is.program is.site is.gives tt is.frames (second_text asked.second is.program is.site is.frames) refl old new is.written
    word.now line why is.given.0 is.given.1 is.given.2
second_end asked file (Err (Run (Play (play.RefusedLine word line (Record why))))) old new own is = absurd is.given.2

-- ---- `trace`

-- a text by the tokens of the program's own
record IsPrints (asked : RunWords) (file : Contents) (p : Program) (s : Site) (frames : List Counts) (text : List ℕ) : Type 0 where
  pub tokens : List Token
  pub spelled : HasTokens (file asked.program) tokens
  pub text_is : text ≡ prints_text p tokens s frames

abbrev telling_prints : Contents → RunWords → Telling
telling_prints file asked = record {
  program = asked.program;
  words = asked.site;
  detectors = asked.detectors;
  IsText = IsPrints asked file;
  Named = λ p. Unit {0};
  Unnamed = λ p text. ⊥;
}

prints_settled : OneList → (file : Contents) (asked : RunWords) → IsSettled (telling_prints file asked)
prints_settled list file asked = record {
  text = λ p s frames a b x y.
      x.text_is ∙ ap (λ ts. prints_text p ts s frames) (list (file asked.program) x.tokens y.tokens x.spelled y.spelled) ∙ sym y.text_is;
  apart = λ p text named x. x;
  one = λ p a b x y. absurd x;
}

prints_end : (asked : RunWords) (file : Contents) (given : Result (Unit {0}) Stop) (old new : Option (List ℕ)) → IsOwnEnd given →
    IsTrace {A = Unit {0}} asked file given old new → Ending (telling_prints file asked) file (status_by given) (note_by given) old new
prints_end asked file (Ok x) old new own is =
    played_whole (telling_prints file asked) file is.program is.site is.gives tt is.frames (prints_text is.program is.tokens is.site is.frames)
    (record { tokens = is.tokens; spelled = is.spelled; text_is = refl }) old new is.written is.given.0 is.given.1
prints_end asked file (Err Words) old new own is = absurd is
prints_end asked file (Err (NoName word nearest)) old new own is = absurd is
prints_end asked file (Err (Run (Load load.Memory))) old new own is = absurd (own.found refl)
prints_end asked file (Err (Run (Load (load.ReadFault word)))) old new own is = absurd (own.read refl)
prints_end asked file (Err (Run (Load (load.Refused word line reason)))) old new own is =
    file_refused (loading.Refused word.now line (reason_text reason)) is.0 refl refl is.1
prints_end asked file (Err (Run (Load (load.TooLong word)))) old new own is = file_refused (loading.TooLong word.now) is.0 refl refl is.1
prints_end asked file (Err (Run (Play (play.ReadFault word)))) old new own is = absurd (own.read refl)
prints_end asked file (Err (Run (Play play.WriteFault))) old new own is = absurd (own.written refl)
prints_end asked file (Err (Run (Play (play.RefusedLine word line (Frame why))))) old new own is =
    played_to_line (telling_prints file asked) file is.program is.site is.gives tt is.frames (prints_text is.program is.tokens is.site is.frames)
    (record { tokens = is.tokens; spelled = is.spelled; text_is = refl }) old new is.written word.now line why is.given.0 is.given.1 is.given.2
prints_end asked file (Err (Run (Play (play.RefusedLine word line (Record why))))) old new own is = absurd is.given.2

-- ---- `lines`

-- it is a refused line
abbrev IsLine : PlayStop → Type 0
IsLine (play.ReadFault word) = ⊥
IsLine play.WriteFault = ⊥
IsLine (play.RefusedLine word line reason) = Unit {0}

-- a file that was played to its end was not stopped at a line
ran_whole : (name : List ℕ) (file : Contents) (frames : List Counts) (stop : PlayStop) → IsLine stop →
    IsPlayed {A = Unit {0}} name (Ok tt) (stream_of (file name)) frames → IsStoppedRun name file stop → ⊥
ran_whole name file frames (play.ReadFault word) line ran stopped = line
ran_whole name file frames play.WriteFault line ran stopped = line
ran_whole name file frames (play.RefusedLine word at (Frame why)) line ran stopped =
    let is : None ≡ Some (at, why) = sym ran.1 ∙ stopped.1.2 in
    cc
ran_whole name file frames (play.RefusedLine word at (Record why)) line ran stopped = stopped.1.2

-- the note of a stop at a line of this file
stopped_note : (name : List ℕ) (file : Contents) (stop : PlayStop) → IsLine stop → IsStoppedRun name file stop →
    play_note stop ≡ stream_note name (stream_of (file name)).refusal
stopped_note name file (play.ReadFault word) line stopped = absurd line
stopped_note name file play.WriteFault line stopped = absurd line
stopped_note name file (play.RefusedLine word at (Frame why)) line stopped =
    ap (λ w. line_note w at (stream_reason why)) stopped.1.0 ∙ sym (ap (stream_note name) stopped.1.2)
stopped_note name file (play.RefusedLine word at (Record why)) line stopped = absurd stopped.1.2

-- all were played to their end, or one was stopped
made_or_stopped : (names : List (List ℕ)) (file : Contents) (runs : List (List Counts)) (stop : PlayStop) → IsLine stop → AreMade names file runs →
    AreStopped names file stop → ⊥
made_or_stopped [] file runs stop line made stopped = stopped
made_or_stopped (name ∷ names) file [] stop line made stopped = made
made_or_stopped (name ∷ names) file (frames ∷ runs) stop line made (inl here) = ran_whole name file frames stop line made.0 here
made_or_stopped (name ∷ names) file (frames ∷ runs) stop line made (inr later) = made_or_stopped names file runs stop line made.1 later.2

-- and the first that was has one note
stopped_once : (names : List (List ℕ)) (file : Contents) (stop other : PlayStop) → IsLine stop → IsLine other → AreStopped names file stop →
    AreStopped names file other → play_note stop ≡ play_note other
stopped_once [] file stop other line at stopped stop' = absurd stopped
stopped_once (name ∷ names) file stop other line at (inl here) (inl there) =
    stopped_note name file stop line here ∙ sym (stopped_note name file other at there)
stopped_once (name ∷ names) file stop other line at (inl here) (inr later) = absurd (ran_whole name file later.0 stop line later.1 here)
stopped_once (name ∷ names) file stop other line at (inr later) (inl here) = absurd (ran_whole name file later.0 other at later.1 here)
stopped_once (name ∷ names) file stop other line at (inr later) (inr after) = stopped_once names file stop other line at later.2 after.2

-- how a call of the form ends where nothing fails
data LinesEnding (asked : LinesWords) (file : Contents) (end : Status) (told_note old new : Option (List ℕ)) : Type 0 where
  lines_told : (p : Program) (s : Site) → FilesGive asked.run.program asked.run.site file s p → (runs : List (List Counts)) →
      AreMade (detectors_of asked) file runs → end ≡ Done → told_note ≡ None →
      new ≡ append_known old (lines_text asked.style asked.run.program (file asked.run.program) (counted_of (code_for p) s runs)) →
      LinesEnding asked file end told_note old new
  line_refused : (p : Program) (s : Site) → FilesGive asked.run.program asked.run.site file s p → (stop : PlayStop) → IsLine stop →
      AreStopped (detectors_of asked) file stop → end ≡ RefusedLine → told_note ≡ Some (play_note stop) → new ≡ old → LinesEnding asked file end told_note old new
  lines_refused : (u : Unloaded) → LoadsProgram asked.run.program asked.run.site file (Err u) → end ≡ (unloaded_answer u).status →
      told_note ≡ Some (unloaded_answer u).note → new ≡ old → LinesEnding asked file end told_note old new

lines_once : Once → (asked : LinesWords) (file : Contents) (end other : Status) (told_note other_note old other_old new other_new : Option (List ℕ)) →
    old ≡ other_old → LinesEnding asked file end told_note old new → LinesEnding asked file other other_note other_old other_new →
    AreAlike end other told_note other_note new other_new
lines_once once asked file end other told_note other_note old other_old new other_new same (lines_told p s gives runs made e n w) (lines_told q r given runs' made' f m v) =
    let is = once.program asked.run.program asked.run.site file s r p q gives given in
    let ran : runs ≡ runs' = made_once (detectors_of asked) file runs runs' made made' in (
      e ∙ sym f,
      n ∙ sym m,
      w ∙ (λ j. append_known (same j) (lines_text asked.style asked.run.program (file asked.run.program) (counted_of (code_for (is.1 j)) (is.0 j) (ran j))))
          ∙ sym v,
    )
lines_once once asked file end other told_note other_note old other_old new other_new same (lines_told p s gives runs made e n w) (line_refused q r given stop line stopped f m v) =
    absurd (made_or_stopped (detectors_of asked) file runs stop line made stopped)
lines_once once asked file end other told_note other_note old other_old new other_new same (lines_told p s gives runs made e n w) (lines_refused u refused f m v) =
    absurd (never_both once asked.run.program asked.run.site file s p u gives refused)
lines_once once asked file end other told_note other_note old other_old new other_new same (line_refused p s gives stop line stopped e n w) (lines_told q r given runs made f m v) =
    absurd (made_or_stopped (detectors_of asked) file runs stop line made stopped)
lines_once once asked file end other told_note other_note old other_old new other_new same (line_refused p s gives stop line stopped e n w) (line_refused q r given stop' line' stopped' f m v) =
    (e ∙ sym f, n ∙ ap (λ x. Some x) (stopped_once (detectors_of asked) file stop stop' line line' stopped stopped') ∙ sym m, w ∙ same ∙ sym v)
lines_once once asked file end other told_note other_note old other_old new other_new same (line_refused p s gives stop line stopped e n w) (lines_refused u refused f m v) =
    absurd (never_both once asked.run.program asked.run.site file s p u gives refused)
lines_once once asked file end other told_note other_note old other_old new other_new same (lines_refused u refused e n w) (lines_told q r given runs made f m v) =
    absurd (never_both once asked.run.program asked.run.site file r q u given refused)
lines_once once asked file end other told_note other_note old other_old new other_new same (lines_refused u refused e n w) (line_refused q r given stop line stopped f m v) =
    absurd (never_both once asked.run.program asked.run.site file r q u given refused)
lines_once once asked file end other told_note other_note old other_old new other_new same (lines_refused u refused e n w) (lines_refused v refuse f m z) =
    let is = refused_once once asked.run.program asked.run.site file u v refused refuse in
    (e ∙ ap (λ x. (unloaded_answer x).status) is ∙ sym f, n ∙ ap (λ x. Some (unloaded_answer x).note) is ∙ sym m, w ∙ same ∙ sym z)

lines_end : (asked : LinesWords) (file : Contents) (given : Result (Unit {0}) Stop) (old new : Option (List ℕ)) → IsOwnEnd given →
    IsLines {A = Unit {0}} asked file given old new → LinesEnding asked file (status_by given) (note_by given) old new
lines_end asked file (Ok x) old new own is = lines_told is.program is.site is.gives is.runs is.made refl refl is.done
lines_end asked file (Err Words) old new own is = absurd is
lines_end asked file (Err (NoName word nearest)) old new own is = absurd is
lines_end asked file (Err (Run (Load load.Memory))) old new own is = absurd (own.found refl)
lines_end asked file (Err (Run (Load (load.ReadFault word)))) old new own is = absurd (own.read refl)
lines_end asked file (Err (Run (Load (load.Refused word line reason)))) old new own is =
    lines_refused (loading.Refused word.now line (reason_text reason)) is.0 refl refl is.1
lines_end asked file (Err (Run (Load (load.TooLong word)))) old new own is = lines_refused (loading.TooLong word.now) is.0 refl refl is.1
lines_end asked file (Err (Run (Play (play.ReadFault word)))) old new own is = absurd (own.read refl)
lines_end asked file (Err (Run (Play play.WriteFault))) old new own is = absurd (own.written refl)
lines_end asked file (Err (Run (Play (play.RefusedLine word line reason)))) old new own is =
    line_refused is.0.program is.0.site is.0.gives (play.RefusedLine word line reason) tt is.0.stopped refl refl is.1

-- ---- all forms

-- a text that needs no file
plain_once : (text : List ℕ) (given other : Result (Unit {0}) Stop) (old other_old new other_new : Option (List ℕ)) → IsOwnEnd given → IsOwnEnd other →
    old ≡ other_old → IsWritten {A = Unit {0}} text given old new → IsWritten {A = Unit {0}} text other other_old other_new →
    AreAlike (status_by given) (status_by other) (note_by given) (note_by other) new other_new
plain_once text (Ok x) (Ok y) old other_old new other_new own owns same is are = (refl, refl, is ∙ ap (λ o. append_known o text) same ∙ sym are)
plain_once text (Ok x) (Err stop) old other_old new other_new own owns same is are =
    absurd (owns.written (ap status_of are.0))
plain_once text (Err stop) other old other_old new other_new own owns same is are = absurd (own.written (ap status_of is.0))

done_alike : Once → (asked : Asked) (file : Contents) (given other : Result (Unit {0}) Stop) (old other_old new other_new : Option (List ℕ)) →
    IsOwnEnd given → IsOwnEnd other → old ≡ other_old → IsDone {A = Unit {0}} asked file given old new →
    IsDone {A = Unit {0}} asked file other other_old other_new →
    AreAlike (status_by given) (status_by other) (note_by given) (note_by other) new other_new
done_alike once Help file given other old other_old new other_new own owns same x y =
    plain_once usage_text given other old other_old new other_new own owns same x y
done_alike once Version file given other old other_old new other_new own owns same x y =
    plain_once version_text given other old other_old new other_new own owns same x y
done_alike once (Values asked) file given other old other_old new other_new own owns same x y =
    ending_once once (telling_values asked) file (values_settled asked) (status_by given) (status_by other) (note_by given) (note_by other) old other_old new
    other_new same (values_end asked file given old new own x) (values_end asked file other other_old other_new owns y)
done_alike once (HowEnded asked) file given other old other_old new other_new own owns same x y =
    ending_once once (telling_ends asked) file (ends_settled asked) (status_by given) (status_by other) (note_by given) (note_by other) old other_old new
    other_new same (ends_end asked file given old new own x) (ends_end asked file other other_old other_new owns y)
done_alike once (Lines asked) file given other old other_old new other_new own owns same x y =
    lines_once once asked file (status_by given) (status_by other) (note_by given) (note_by other) old other_old new other_new same
    (lines_end asked file given old new own x) (lines_end asked file other other_old other_new owns y)
done_alike once (Second asked) file given other old other_old new other_new own owns same x y =
    ending_once once (telling_second asked) file (second_settled asked) (status_by given) (status_by other) (note_by given) (note_by other) old other_old new
    other_new same (second_end asked file given old new own x) (second_end asked file other other_old other_new owns y)
done_alike once (Trace run) file given other old other_old new other_new own owns same x y =
    ending_once once (telling_prints file run) file (prints_settled once.tokens file run) (status_by given) (status_by other) (note_by given) (note_by other)
    old other_old new other_new same (prints_end run file given old new own x) (prints_end run file other other_old other_new owns y)

answers_alike : Once → (form : Option Asked) (file : Contents) (call other : Call) (given got : Result (Unit {0}) Stop) → BeginAlike file call other →
    IsOwnEnd given → IsOwnEnd got → IsAnswerTo form call.files call.out given → IsAnswerTo form other.files other.out got →
    AreAlike (status_by given) (status_by got) (note_by given) (note_by got) call.out.new other.out.new
answers_alike once None file call other given got begin own owns x y =
    let same : given ≡ got = x.0 ∙ sym y.0 in
    (ap status_by same, ap note_by same, x.1 ∙ begin.out ∙ sym y.1)
answers_alike once (Some asked) file call other given got begin own owns x y =
    done_alike once asked file given got call.out.old other.out.old call.out.new other.out.new own owns begin.out (x file begin.files)
    (y file begin.other_files)

-- what was noted, where the note did not fail
noted_so : (given : Result (Unit {0}) Stop) (call : Call) → WentWell call → IsNoted given call.notes → call.notes.new ≡ noted call.notes.old (note_by given)
noted_so (Ok x) call well is = is
noted_so (Err stop) call well is = is well.noted

-- neither memory nor a fault, where no count of faults rose
own_end : (words : List (List ℕ)) (call : Call) (end : Status) → WentWell call → (end ≡ Memory → ⊥) →
    (x : IsTraced words call.files call.out call.notes end) → IsOwnEnd x.given
own_end words call end well found x = record {
  found = λ is. found (x.status_is ∙ is);
  read = λ is. well.read (x.read_fault is);
  written = λ is. well.written (x.write_fault is);
}

pub trace_once : OneProgram → IsWhatRunPlays → LoadsOnce → OneList → TraceHasOneAnswer
trace_once program played loads tokens words file call other end other_end begin well goes found has x y =
    let once : Once = record { program = program; played = played; loads = loads; tokens = tokens } in
    let alike =
    answers_alike once (form_of words) file call other x.given y.given begin (own_end words call end well found x) (own_end words other other_end goes has y)
    x.answer y.answer in (
      record {
        status_is = x.status_is ∙ alike.0 ∙ sym y.status_is;
        note_is = noted_so x.given call well x.note ∙ (λ j. noted (begin.notes j) (alike.1 j)) ∙ sym (noted_so y.given other goes y.note);
      },
      alike.2,
    )
