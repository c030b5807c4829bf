-- The text of a program, judged stage by stage.
use Rattle.std.proofs.Common.{◌≡◌, ◌≤◌, ℕ, List, length, Result, Ok, Err, refl, sym, ap, subst}
use Rattle.std.specs.Prelude.{IfOk, IfErr}
use Rattle.vap_ast.specs.declared.tree.Program.{Program as Tree}
use Rattle.vap_ast.specs.Tree.{program_of}
use Rattle.vap_check.specs.Accepted.{Accepted}
use Rattle.vap_check.specs.Numbers.{Meant, checked_of}
use Rattle.vap_check.specs.Readings.{with_readings}
use Rattle.vap_lex.specs.declared.token.Token.{Token}
use Rattle.vap_lex.specs.declared.piece.LexWhy.{LexWhy}
use Rattle.vap_lex.specs.declared.scan.LexRefusal.TheVariants as lex
use Rattle.vap_lex.specs.Refusal as lexed
use Rattle.vap_lex.specs.Tokens.{HasTokens}
use Rattle.vap_parse.specs.declared.program.ParseWhy.{ParseWhy}
use Rattle.vap_parse.specs.declared.program.ParseWhy.TheVariants.{Frequency}
use Rattle.vap_parse.specs.declared.program.ParseRefusal.{ParseRefusal}
use Rattle.vap_parse.specs.declared.program.ParseRefusal.TheVariants as parse
use Rattle.vap_parse.specs.Grammar.{Accepts}
use Rattle.vap_parse.specs.Refusal as parsed
use Rattle.vap_code.specs.Codes.{CodeOf}
use Rattle.junction_run.specs.declared.stop.LoadStop.{LoadStop}
use Rattle.junction_run.specs.declared.stop.LoadStop.TheVariants.{Memory, ReadFault, Refused, TooLong}
use Rattle.sig_io.specs.Outside.{Contents}
use Rattle.junction_run.specs.Form.{SiteWords, ProgramFile, CodeFile}
use Rattle.controller.specs.Past.{Site}
use Rattle.code_file.specs.Reading.{code_of}
use Rattle.vap_code.specs.Valid.{Valid, FirstBroken}
use Rattle.vap_code.specs.declared.VerifyWhy.{VerifyWhy}
use Rattle.junction_run.specs.Codes.{CodeIs, unsound, is_code, instr_line}
use Rattle.junction_run.specs.Loading.{Unloaded, Refusal, Playing, IsJudged, text_limit, code_limit, ReachedInSite, ReachedAfterSite, site_of, AfterSite}
use Rattle.junction_run.specs.Loading as loading
use Rattle.junction_run.specs.Programs.{ProgramIs, no_token, no_tree, is_program}
use Rattle.junction_run.specs.Reasons.{reason_text, lex_reason, parse_reason, verify_reason}
use Rattle.junction_run.specs.Sites.{IsRefusedProgram, IsCheckedText, IsProgramText, IsCodeText, IsSourceFile}
use Rattle.junction_run.specs.Stop.{IsAt, IsUnread, IsRefusedBy, IsUnloadedBy, IsLoadStop}

-- a place that is no token
pub stuck_text : (text : List ℕ) (line : ℕ) (why : LexWhy) → lexed.IsRefused text (lex.At line why) → ProgramIs text (Err (line, lex_reason why))
stuck_text text line why is = subst (λ n. ProgramIs text (Err (n, lex_reason why))) (sym is.2) (no_token is.0 why is.1)

line_in : ParseRefusal → ℕ
line_in parse.Memory = 0
line_in (parse.At line why) = line

why_in : ParseRefusal → ParseWhy
why_in parse.Memory = Frequency
why_in (parse.At line why) = why

-- a token with which there is no tree
pub treeless_text : (text : List ℕ) (ts : List Token) (line : ℕ) (why : ParseWhy) → HasTokens text ts → parsed.IsRefused ts (parse.At line why) →
    ProgramIs text (Err (line, parse_reason why))
unfolding line_in why_in
treeless_text text ts line why has is =
    let at : line ≡ parsed.line_of ts is.0 = ap line_in is.3 in
    let for : why ≡ parsed.why_of ts is.0 is.1 = ap why_in is.3 in
    subst (λ (r : ℕ × List ℕ). ProgramIs text (Err r)) (sym (λ j. (at j, parse_reason (for j)))) (no_tree ts is.0 is.1 has is.2)

-- a tree that was checked
pub checked_text : (r : Result Meant LoadStop) (text : List ℕ) (ts : List Token) (tree : Tree) → HasTokens text ts → Accepts ts (program_of tree) →
    IfOk r (λ c. program_of c.tree ≡ with_readings (program_of tree)) → IfOk r (λ c. Accepted (program_of c.tree) × (c ≡ checked_of c.tree)) →
    IfErr r (λ stop. IsRefusedProgram text stop) → IsCheckedText text r
checked_text (Ok c) text ts tree has accepts same is wrong =
    (subst (λ p. ProgramIs text (Ok p)) (sym same) (is_program ts (program_of tree) has accepts (subst Accepted same is.0)), is.1)
checked_text (Err stop) text ts tree has accepts same is wrong = wrong

-- a code that was read and verified
pub verified_text : (r : Result CodeOf LoadStop) (text : List ℕ) (code : CodeOf) → code_of text ≡ Ok code → IfOk r (λ v. (v ≡ code) × Valid code) →
    IfErr r (λ stop. IsRefusedBy CodeIs text stop) → IsCodeText text r
verified_text (Ok v) text code read is wrong = subst (λ v. CodeIs text (Ok v)) (sym is.0) (is_code code read is.1)
verified_text (Err stop) text code read is wrong = wrong

-- one that breaks a check
pub unsound_text : (text : List ℕ) (code : CodeOf) (why : VerifyWhy) (place line : ℕ) → code_of text ≡ Ok code → FirstBroken code why place →
    line ≡ instr_line code place →
    CodeIs text (Err (line, verify_reason why))
unsound_text text code why place line read is at = subst (λ n. CodeIs text (Err (n, verify_reason why))) (sym at) (unsound code why place read is)

-- ---- a file

-- a file that was not read
pub unread_file : {V : Type 0} (Is : List ℕ → Result V Refusal → Type 0) (limit : ℕ) (name bytes : List ℕ) (stop : LoadStop) →
    IsUnread limit bytes stop → IsAt name stop →
    IsUnloadedBy (IsJudged Is limit name bytes) (λ w. w ≡ name) stop
unread_file Is limit name bytes Memory is at = tt
unread_file Is limit name bytes (ReadFault w) is at = at
unread_file Is limit name bytes (Refused w line reason) is at = absurd is
unread_file Is limit name bytes (TooLong w) is at = subst (λ n. IsJudged Is limit name bytes (Err (loading.TooLong n))) (sym at) (loading.long is)

-- one that is refused
refused_file : {V : Type 0} (Is : List ℕ → Result V Refusal → Type 0) (limit : ℕ) (name bytes : List ℕ) (stop : LoadStop) → length bytes ≤ limit →
    IsRefusedBy Is bytes stop → IsAt name stop →
    IsUnloadedBy (IsJudged Is limit name bytes) (λ w. w ≡ name) stop
refused_file Is limit name bytes Memory short is at = tt
refused_file Is limit name bytes (ReadFault w) short is at = absurd is
refused_file Is limit name bytes (Refused w line reason) short is at =
    subst (λ n. IsJudged Is limit name bytes (Err (loading.Refused n line (reason_text reason)))) (sym at) (loading.refused line (reason_text reason) short is)
refused_file Is limit name bytes (TooLong w) short is at = absurd is

judged_program : (name bytes : List ℕ) (r : Result CodeOf LoadStop) → length bytes ≤ text_limit → IsProgramText bytes r → IfErr r (λ stop. IsAt name stop) →
    IsSourceFile (ProgramFile name) bytes r
judged_program name bytes (Ok code) short is at = (is.0, loading.accepted is.0 short is.1, is.2)
judged_program name bytes (Err stop) short is at = refused_file ProgramIs text_limit name bytes stop short is at

-- a program file that was judged so
pub program_file : (name bytes text : List ℕ) (r : Result CodeOf LoadStop) → text ≡ bytes → length text ≤ text_limit → IsProgramText text r →
    IfErr r (λ stop. IsAt name stop) →
    IsSourceFile (ProgramFile name) bytes r
program_file name bytes text r same short is at = subst (λ b. IsSourceFile (ProgramFile name) b r) same (judged_program name text r short is at)

judged_code : (name bytes : List ℕ) (r : Result CodeOf LoadStop) → length bytes ≤ code_limit → IsCodeText bytes r → IfErr r (λ stop. IsAt name stop)
    → IsSourceFile (CodeFile name) bytes r
judged_code name bytes (Ok code) short is at = (code, loading.accepted code short is, refl)
judged_code name bytes (Err stop) short is at = refused_file CodeIs code_limit name bytes stop short is at

-- a code file that was judged so
pub code_file : (name bytes text : List ℕ) (r : Result CodeOf LoadStop) → text ≡ bytes → length text ≤ code_limit → IsCodeText text r →
    IfErr r (λ stop. IsAt name stop) →
    IsSourceFile (CodeFile name) bytes r
code_file name bytes text r same short is at = subst (λ b. IsSourceFile (CodeFile name) b r) same (judged_code name text r short is at)

-- ---- a file after a site

-- what stops one loading stops another that goes on from it
pub unloaded_later : {A B : Type 0} (Gives : Result A Unloaded → Type 0) (Later : Result B Unloaded → Type 0) (Early Late : List ℕ → Type 0) →
    ((u : Unloaded) → Gives (Err u) → Later (Err u)) → ((w : List ℕ) → Early w → Late w) → (stop : LoadStop) → IsUnloadedBy Gives Early stop →
    IsUnloadedBy Later Late stop
unloaded_later Gives Later Early Late refused reached Memory is = tt
unloaded_later Gives Later Early Late refused reached (ReadFault w) is = reached w.now is
unloaded_later Gives Later Early Late refused reached (Refused w line reason) is = refused (loading.Refused w.now line (reason_text reason)) is
unloaded_later Gives Later Early Late refused reached (TooLong w) is = refused (loading.TooLong w.now) is

module _ {V : Type 0} (at : Site → V → Playing) (Judged : Result V Unloaded → Type 0) (name : List ℕ) (words : SiteWords) (file : Contents) where
  after_no_site : (u : Unloaded) → site_of words file ≡ Err u → AfterSite at (site_of words file) Judged (Err u)
  after_no_site u is = rw is refl

  -- the site isn't taken
  pub no_site : (stop : LoadStop) → IsLoadStop (λ w. ReachedInSite words file w) stop (site_of words file) →
      IsUnloadedBy (λ r. AfterSite at (site_of words file) Judged r) (λ w. ReachedAfterSite name words file w) stop
  no_site stop is =
      unloaded_later (λ r. site_of words file ≡ r) (λ r. AfterSite at (site_of words file) Judged r) (λ w. ReachedInSite words file w)
      (λ w. ReachedAfterSite name words file w)
      after_no_site (λ w reached. ReachedAfterSite.at_site w reached) stop is

  after_site : (site : Site) (v : Result V Unloaded) → site_of words file ≡ Ok site → Judged v →
      AfterSite at (site_of words file) Judged (loading.map_ok (at site) v)
  after_site site v is judged = rw is (v, judged, refl)

  -- the file isn't
  pub no_last : (site : Site) (stop : LoadStop) → site_of words file ≡ Ok site → IsUnloadedBy Judged (λ w. w ≡ name) stop →
      IsUnloadedBy (λ r. AfterSite at (site_of words file) Judged r) (λ w. ReachedAfterSite name words file w) stop
  no_last site stop first is =
      unloaded_later Judged (λ r. AfterSite at (site_of words file) Judged r) (λ w. w ≡ name) (λ w. ReachedAfterSite name words file w)
      (λ u judged. after_site site (Err u) first judged)
      (λ w is. subst (λ n. ReachedAfterSite name words file n) (sym is) (ReachedAfterSite.at_last site first)) stop is

  -- both are
  pub last_taken : (site : Site) (v : V) → site_of words file ≡ Ok site → Judged (Ok v) → AfterSite at (site_of words file) Judged (Ok (at site v))
  last_taken site v first judged = after_site site (Ok v) first judged
