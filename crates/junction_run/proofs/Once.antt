-- Files give one thing.
use Rattle.std.proofs.Common.{◌≡◌, ◌∙◌, ℕ, List, Option, Result, Ok, Err, refl, sym, ap, subst, arith, inl, inr, ◌⊎◌}
use Rattle.sig_io.specs.Outside.{Contents}
use Rattle.vap_ast.specs.Syntax.{Program}
use Rattle.vap_lex.specs.declared.token.Token.{Token}
use Rattle.vap_lex.specs.declared.piece.LexWhy.{LexWhy}
use Rattle.vap_lex.specs.Refusal.{IsStuck}
use Rattle.vap_lex.specs.Tokens.{HasTokens, line_at}
use Rattle.vap_lex.proofs.OneAnswer.{one_list, one_place, never_both}
use Rattle.vap_parse.specs.declared.kind.Reason.{Reason}
use Rattle.vap_parse.specs.Grammar.{Accepts}
use Rattle.vap_parse.specs.Grammar as grammar
use Rattle.vap_parse.specs.Refusal.{line_of, why_of}
use Rattle.vap_parse.proofs.Exact as parsed
use Rattle.vap_check.specs.declared.refusal.CheckWhy.{CheckWhy}
use Rattle.vap_check.specs.Accepted.{Accepted}
use Rattle.vap_check.specs.Accepted as check
use Rattle.vap_check.specs.Readings.{with_readings}
use Rattle.code_file.specs.declared.refusal.CodeWhy.{CodeWhy}
use Rattle.code_file.specs.Reading.{code_of}
use Rattle.code_verify.specs.First.{OneIsFirst, ValidBreaksNone}
use Rattle.vap_code.specs.Codes.{CodeOf}
use Rattle.vap_code.specs.Valid.{Valid, FirstBroken}
use Rattle.controller.specs.Past.{Site}
use Rattle.junction_run.specs.Codes.{CodeIs, no_code, unsound, is_code, instr_line}
use Rattle.junction_run.specs.Form.{SiteWords, Source, ProgramFile, CodeFile, word_of, Form, Play, Compile, Sample, Audit}
use Rattle.junction_run.specs.Loading.{
  Unloaded,
  Refusal,
  IsJudged,
  long,
  refused,
  accepted,
  Playing,
  map_ok,
  AfterSite,
  Logged,
  LogAfterSite,
  Loaded,
  Loads,
  site_of,
  Value,
  limit_of,
  SourceIs,
  IsSource,
  LoadsSource,
  played_at,
}
use Rattle.junction_run.specs.Loading as loading
use Rattle.junction_run.specs.Programs.{ProgramIs, no_token, no_tree, unchecked, is_program}
use Rattle.junction_run.specs.Reasons.{lex_reason, parse_reason, check_reason, code_reason, verify_reason}
use Rattle.junction_run.specs.Laws.{LoadsOnce, ProgramsHaveOneAnswer, EndsAsGiven, IsComplete}
use Rattle.junction_run.specs.Answer.{answer_to, IsAnswered}
use Rattle.junction_run.proofs.Audits.{one_log}
use Rattle.junction_run.specs.declared.status.Status.{Status}
use Rattle.junction_run.specs.declared.status.Status.TheVariants.{Done, Memory, Words, ReadFault, WriteFault, RefusedFile, RefusedLine, TooLong}

-- a program has one first refusal at most, and none where it is accepted
pub record CheckedOnce : Type 0 where
  pub refusal : (p : Program) (l m : ℕ) (v w : CheckWhy) → check.Refuses p l v → check.Refuses p m w → (l ≡ m) × (v ≡ w)
  pub apart : (p : Program) (l : ℕ) (v : CheckWhy) → Accepted p → check.Refuses p l v → ⊥

-- a text has one first refusal, or is one program
pub program_once : CheckedOnce → (bytes : List ℕ) (r s : Result Program (ℕ × List ℕ)) → ProgramIs bytes r → ProgramIs bytes s → r ≡ s
program_once checked bytes r s (no_token p v a) (no_token q w b) =
    let same = one_place bytes p q v w a b in
    (λ j. Err (line_at bytes (same.0 j), lex_reason (same.1 j)))
program_once checked bytes r s (no_token p v a) (no_tree ts rest w b c) = absurd (never_both bytes ts p v b a)
program_once checked bytes r s (no_token p v a) (unchecked ts tree line w b c d) = absurd (never_both bytes ts p v b a)
program_once checked bytes r s (no_token p v a) (is_program ts tree b c d) = absurd (never_both bytes ts p v b a)
program_once checked bytes r s (no_tree ts rest v a b) (no_token q w c) = absurd (never_both bytes ts q w a c)
program_once checked bytes r s (no_tree ts rest v a b) (no_tree us rest' w c d) =
    let tokens = one_list bytes ts us a c in
    let same = parsed.one_refusal us v w rest rest' (subst (λ ts. grammar.Refuses ts v rest) tokens b) d in
    (λ j. Err (line_of (tokens j) (same.1 j), parse_reason (why_of (tokens j) (same.1 j) (same.0 j))))
program_once checked bytes r s (no_tree ts rest v a b) (unchecked us tree line w c d e) =
    absurd (parsed.apart us tree v rest d (subst (λ ts. grammar.Refuses ts v rest) (one_list bytes ts us a c) b))
program_once checked bytes r s (no_tree ts rest v a b) (is_program us tree c d e) =
    absurd (parsed.apart us tree v rest d (subst (λ ts. grammar.Refuses ts v rest) (one_list bytes ts us a c) b))
program_once checked bytes r s (unchecked ts tree line v a b c) (no_token q w d) = absurd (never_both bytes ts q w a d)
program_once checked bytes r s (unchecked ts tree line v a b c) (no_tree us rest w d e) =
    absurd (parsed.apart us tree w rest (subst (λ ts. Accepts ts tree) (one_list bytes ts us a d) b) e)
program_once checked bytes r s (unchecked ts tree line v a b c) (unchecked us tree' line' w d e f) =
    let trees = parsed.one_tree us tree tree' (subst (λ ts. Accepts ts tree) (one_list bytes ts us a d) b) e in
    let same = checked.refusal (with_readings tree') line line' v w (subst (λ p. check.Refuses (with_readings p) line v) trees c) f in
    (λ j. Err (same.0 j, check_reason (same.1 j)))
program_once checked bytes r s (unchecked ts tree line v a b c) (is_program us tree' d e f) =
    let trees = parsed.one_tree us tree tree' (subst (λ ts. Accepts ts tree) (one_list bytes ts us a d) b) e in
    absurd (checked.apart (with_readings tree') line v f (subst (λ p. check.Refuses (with_readings p) line v) trees c))
program_once checked bytes r s (is_program ts tree a b c) (no_token q w d) = absurd (never_both bytes ts q w a d)
program_once checked bytes r s (is_program ts tree a b c) (no_tree us rest w d e) =
    absurd (parsed.apart us tree w rest (subst (λ ts. Accepts ts tree) (one_list bytes ts us a d) b) e)
program_once checked bytes r s (is_program ts tree a b c) (unchecked us tree' line w d e f) =
    let trees = parsed.one_tree us tree tree' (subst (λ ts. Accepts ts tree) (one_list bytes ts us a d) b) e in
    absurd (checked.apart (with_readings tree') line w (subst (λ p. Accepted (with_readings p)) trees c) f)
program_once checked bytes r s (is_program ts tree a b c) (is_program us tree' d e f) =
    ap (λ p. Ok (with_readings p)) (parsed.one_tree us tree tree' (subst (λ ts. Accepts ts tree) (one_list bytes ts us a d) b) e)

-- each stage answers
pub record StagesAnswer : Type 0 where
  pub some_tokens : (text : List ℕ) → ((ts : List Token) × HasTokens text ts) ⊎ ((p : ℕ) × (w : LexWhy) × IsStuck text p w)
  pub some_tree : (ts : List Token) → ((p : Program) × Accepts ts p) ⊎ ((w : Reason) × (r : List Token) × grammar.Refuses ts w r)
  pub some_check : (p : Program) → Accepted p ⊎ ((l : ℕ) × (w : CheckWhy) × check.Refuses p l w)

abbrev Answered : List ℕ → Type 0
Answered bytes = (r : Result Program (ℕ × List ℕ)) × ProgramIs bytes r

by_checks : (bytes : List ℕ) (ts : List Token) (p : Program) → HasTokens bytes ts → Accepts ts p →
    Accepted (with_readings p) ⊎ ((l : ℕ) × (w : CheckWhy) × check.Refuses (with_readings p) l w) → Answered bytes
by_checks bytes ts p has accepts (inl is) = (Ok (with_readings p), is_program ts p has accepts is)
by_checks bytes ts p has accepts (inr (l, w, is)) = (Err (l, check_reason w), unchecked ts p l w has accepts is)

by_tree : StagesAnswer → (bytes : List ℕ) (ts : List Token) → HasTokens bytes ts →
    ((p : Program) × Accepts ts p) ⊎ ((w : Reason) × (r : List Token) × grammar.Refuses ts w r) → Answered bytes
by_tree stages bytes ts has (inl (p, accepts)) = by_checks bytes ts p has accepts (stages.some_check (with_readings p))
by_tree stages bytes ts has (inr (w, r, is)) = (Err (line_of ts r, parse_reason (why_of ts r w)), no_tree ts r w has is)

by_tokens : StagesAnswer → (bytes : List ℕ) → ((ts : List Token) × HasTokens bytes ts) ⊎ ((p : ℕ) × (w : LexWhy) × IsStuck bytes p w) → Answered bytes
by_tokens stages bytes (inl (ts, has)) = by_tree stages bytes ts has (stages.some_tree ts)
by_tokens stages bytes (inr (p, w, stuck)) = (Err (line_at bytes p, lex_reason w), no_token p w stuck)

-- and so each text has one answer
pub programs_have_one_answer : StagesAnswer → CheckedOnce → ProgramsHaveOneAnswer
programs_have_one_answer stages checked bytes =
    let is = by_tokens stages bytes (stages.some_tokens bytes) in
    (is.0, is.1, λ s other. program_once checked bytes s is.0 other is.1)

-- ---- a code

-- the code that was read, or another
code_or : CodeOf → Result CodeOf (ℕ × CodeWhy) → CodeOf
code_or c (Ok code) = code
code_or c (Err at) = c

one_code : (bytes : List ℕ) (c d : CodeOf) → code_of bytes ≡ Ok c → code_of bytes ≡ Ok d → c ≡ d
unfolding code_or
one_code bytes c d a b = ap (code_or c) (sym a ∙ b)

never_read : (bytes : List ℕ) (c : CodeOf) (at : ℕ × CodeWhy) → code_of bytes ≡ Ok c → code_of bytes ≡ Err at → ⊥
never_read bytes c at a b = cc

abbrev refused_code : Refusal → Result CodeOf Refusal
refused_code at = Err at

-- a refusal with its reason
told_code : Result CodeOf (ℕ × CodeWhy) → Result CodeOf Refusal
told_code (Ok code) = Ok code
told_code (Err at) = Err (at.0, code_reason at.1)

one_line : (bytes : List ℕ) (l m : ℕ) (v w : CodeWhy) → code_of bytes ≡ Err (l, v) → code_of bytes ≡ Err (m, w) →
    refused_code (l, code_reason v) ≡ refused_code (m, code_reason w)
unfolding told_code
one_line bytes l m v w a b = ap told_code (sym a ∙ b)

-- a text has one first refusal, or is one valid code
pub code_once : OneIsFirst → ValidBreaksNone → (bytes : List ℕ) (r s : Result CodeOf Refusal) → CodeIs bytes r → CodeIs bytes s → r ≡ s
code_once one none bytes r s (no_code l v a) (no_code m w b) = one_line bytes l m v w a b
code_once one none bytes r s (no_code l v a) (unsound c w q b is) = absurd (never_read bytes c (l, v) b a)
code_once one none bytes r s (no_code l v a) (is_code c b is) = absurd (never_read bytes c (l, v) b a)
code_once one none bytes r s (unsound c v p a broken) (no_code l w b) = absurd (never_read bytes c (l, w) a b)
code_once one none bytes r s (unsound c v p a broken) (unsound d w q b is) =
    let code = one_code bytes c d a b in
    let same = one d v w p q (subst (λ c. FirstBroken c v p) code broken) is in
    (λ j. Err (instr_line (code j) (same.1 j), verify_reason (same.0 j)))
code_once one none bytes r s (unsound c v p a broken) (is_code d b valid) =
    absurd (none d v p valid (subst (λ c. FirstBroken c v p) (one_code bytes c d a b) broken))
code_once one none bytes r s (is_code c a valid) (no_code l w b) = absurd (never_read bytes c (l, w) a b)
code_once one none bytes r s (is_code c a valid) (unsound d w q b broken) = absurd (none d w q (subst Valid (one_code bytes c d a b) valid) broken)
code_once one none bytes r s (is_code c a valid) (is_code d b is) = ap Ok (one_code bytes c d a b)

-- ---- a form

-- a judgement as it is loaded
abbrev told : {V : Type 0} → List ℕ → Result V Refusal → Result V Unloaded
told word (Ok value) = Ok value
told word (Err at) = Err (loading.Refused word at.0 at.1)

-- a file that is judged by what has one value has one value
judged_once : {V : Type 0} (Is : List ℕ → Result V Refusal → Type 0) (limit : ℕ) (word bytes : List ℕ) →
    ((a b : Result V Refusal) → Is bytes a → Is bytes b → a ≡ b) → (r s : Result V Unloaded) → IsJudged Is limit word bytes r →
    IsJudged Is limit word bytes s → r ≡ s
judged_once Is limit word bytes once r s (long a) (long b) = refl
judged_once Is limit word bytes once r s (long a) (refused line reason b is) = absurd (omega (arith, a, b))
judged_once Is limit word bytes once r s (long a) (accepted value b is) = absurd (omega (arith, a, b))
judged_once Is limit word bytes once r s (refused line reason a is) (long b) = absurd (omega (arith, a, b))
judged_once Is limit word bytes once r s (refused line reason a is) (refused line' reason' b is') =
    ap (told word) (once (Err (line, reason)) (Err (line', reason')) is is')
judged_once Is limit word bytes once r s (refused line reason a is) (accepted value b is') = ap (told word) (once (Err (line, reason)) (Ok value) is is')
judged_once Is limit word bytes once r s (accepted value a is) (long b) = absurd (omega (arith, a, b))
judged_once Is limit word bytes once r s (accepted value a is) (refused line reason b is') = ap (told word) (once (Ok value) (Err (line, reason)) is is')
judged_once Is limit word bytes once r s (accepted value a is) (accepted value' b is') = ap (told word) (once (Ok value) (Ok value') is is')

after_once : {V : Type 0} (at : Site → V → Playing) (site : Result Site Unloaded) (Judged : Result V Unloaded → Type 0) →
    ((a b : Result V Unloaded) → Judged a → Judged b → a ≡ b) → (r s : Result Playing Unloaded) → AfterSite at site Judged r →
    AfterSite at site Judged s → r ≡ s
after_once at (Err u) Judged once r s a b = a ∙ sym b
after_once at (Ok site) Judged once r s a b = a.2 ∙ ap (λ v. map_ok (at site) v) (once a.0 b.0 a.1 b.1) ∙ sym b.2

-- what each stage answers at most once
pub record StagesOnce : Type 0 where
  pub checked : CheckedOnce
  pub first : OneIsFirst
  pub none : ValidBreaksNone

-- a text has one first refusal, or is one program or code
source_once : StagesOnce → (source : Source) (bytes : List ℕ) (a b : Result (Value source) Refusal) → SourceIs source bytes a → SourceIs source bytes b → a ≡ b
source_once stages (ProgramFile word) bytes a b = program_once stages.checked bytes a b
source_once stages (CodeFile word) bytes a b = code_once stages.first stages.none bytes a b

file_once : StagesOnce → (source : Source) (bytes : List ℕ) (r s : Result (Value source) Unloaded) → IsSource source bytes r → IsSource source bytes s → r ≡ s
file_once stages source bytes = judged_once (SourceIs source) (limit_of source) (word_of source) bytes (source_once stages source bytes)

site_once : StagesOnce → (source : Source) (words : SiteWords) (file : Contents) (r s : Result Playing Unloaded) → LoadsSource source words file r →
    LoadsSource source words file s → r ≡ s
site_once stages source words file =
    after_once (played_at source) (site_of words file) (IsSource source (file (word_of source))) (file_once stages source (file (word_of source)))

-- a log has one answer at a site
log_once : (site : Result Site Unloaded) (bytes : List ℕ) (r s : Result Logged Unloaded) → LogAfterSite site bytes r → LogAfterSite site bytes s → r ≡ s
log_once (Err u) bytes r s a b = a ∙ sym b
log_once (Ok site) bytes r s a b = a.2 ∙ ap Ok (one_log site bytes a.0 b.0 a.1 b.1) ∙ sym b.2

pub loads_once : StagesOnce → LoadsOnce
loads_once stages (Play source site detectors) file r s a b = site_once stages source site file r s a b
loads_once stages (Compile word) file r s a b = file_once stages (ProgramFile word) (file word) r s a b
loads_once stages (Sample word site seed seconds) file r s a b = site_once stages (ProgramFile word) site file r s a b
loads_once stages (Audit word site) file r s a b = log_once (site_of site file) (file word) r s a b

-- the answer's own status is that of the files
status_is : StagesOnce → (form : Form) (file : Contents) (r : Result (Loaded form) Unloaded) (status : Status) (old new : Option (List ℕ)) → Loads form file r →
    IsAnswered (Loads form file) (answer_to form file) status old new → status ≡ (answer_to form file r).status
status_is stages form file r status old new loads is =
    sym is.2 ∙ ap (λ r. (answer_to form file r).status) (loads_once stages form file is.0 r is.1 loads)

pub ends_as_given : StagesOnce → EndsAsGiven
ends_as_given stages form file r Done old new loads is = inl (status_is stages form file r Done old new loads is)
ends_as_given stages form file r Memory old new loads is = inr (inl refl)
ends_as_given stages form file r Words old new loads is = absurd is
ends_as_given stages form file r ReadFault old new loads is = inr (inr (inl refl))
ends_as_given stages form file r WriteFault old new loads is = inr (inr (inr refl))
ends_as_given stages form file r RefusedFile old new loads is = inl (status_is stages form file r RefusedFile old new loads is)
ends_as_given stages form file r RefusedLine old new loads is = inl (status_is stages form file r RefusedLine old new loads is)
ends_as_given stages form file r TooLong old new loads is = inl (status_is stages form file r TooLong old new loads is)

-- where no count rises, the two faults fall away
pub complete : StagesOnce → IsComplete
complete stages form file r files out notes status told loads read write answer =
    of (ends_as_given stages form file r status out.old out.new loads (answer.answer file told))
  where
    of : (status ≡ (answer_to form file r).status) ⊎ ((status ≡ Memory) ⊎ ((status ≡ ReadFault) ⊎ (status ≡ WriteFault))) →
        (status ≡ (answer_to form file r).status) ⊎ (status ≡ Memory)
    of (inl own) = inl own
    of (inr (inl memory)) = inr memory
    of (inr (inr (inl fault))) = absurd (read (answer.read_fault fault))
    of (inr (inr (inr fault))) = absurd (write (answer.write_fault fault))
