-- What is answered to words and files is one thing.
use Rattle.std.proofs.Common.{◌≡◌, ◌∙◌, ℕ, false, List, codes, Option, None, Some, Result, Ok, Err, refl, sym, ap, subst}
use Rattle.std.specs.Io.KnownBytes.{append_known}
use Rattle.sig_io.specs.Outside.{Contents}
use Rattle.sig_types.specs.Turns.{Picture}
use Rattle.vap_ast.specs.Syntax.{Program}
use Rattle.controller.specs.Past.{Site}
use Rattle.log_read.specs.declared.refusal.LogWhy.{LogWhy}
use Rattle.junction_run.specs.declared.status.Status.{Status}
use Rattle.junction_run.specs.declared.status.Status.TheVariants.{Done, Memory, Words, ReadFault, WriteFault, RefusedFile, RefusedLine, TooLong}
use Rattle.junction_run.specs.Answer.{Answer, GainedBy, Gains, IsAnswered, MeetsBy, answer_to, audit_answer, note_of}
use Rattle.junction_run.specs.Answers.{AnswersTo, FormAnswer}
use Rattle.junction_run.specs.Audited.{IsAudit}
use Rattle.junction_run.specs.Codes.{IsCompiled}
use Rattle.junction_run.specs.Form.{Audit, Compile, Form, Play, ProgramFile, Sample, files_of, form_of}
use Rattle.junction_run.specs.Laws.{LoadsOnce, LogsHaveOneAudit}
use Rattle.junction_run.specs.Loading.{IsSource, Loaded, Loads, Logged, Unloaded}
use Rattle.junction_run.specs.Loading as loading
use Rattle.junction_run.specs.Notes.{IsAnswersNote, IsNote, NoteMeetsBy}
use Rattle.laws.specs.OneAnswer.{BeginAlike, Call, CompiledIsOneProgram, EndAlike, JunctionHasOneAnswer, WentWell, Wrote, WroteAlike, compiles}

-- ---- of files that give one thing

-- a status that is neither want of memory nor a fault, of a call whose words are a form
pub record IsOwn (status : Status) : Type 0 where
  pub found : status ≡ Memory → ⊥
  pub words : status ≡ Words → ⊥
  pub read : status ≡ ReadFault → ⊥
  pub written : status ≡ WriteFault → ⊥

-- files give one thing at most
abbrev pub GivesOnce : {A : Type 0} → (Result A Unloaded → Type 0) → Type 0
GivesOnce {A} Gives = (r s : Result A Unloaded) → Gives r → Gives s → r ≡ s

-- what they give has one text
abbrev pub GainsOnce : {A : Type 0} → (Result A Unloaded → Type 0) → (Result A Unloaded → Answer) → Type 0
GainsOnce {A} Gives answer = (r : Result A Unloaded) → Gives r → (a b : List ℕ) → GainedBy (answer r).Gained (answer r).pieces a →
    GainedBy (answer r).Gained (answer r).pieces b → a ≡ b

-- where nothing failed the answer is the files'
pub owned : {A : Type 0} (Gives : Result A Unloaded → Type 0) (answer : Result A Unloaded → Answer) (status : Status) (old new : Option (List ℕ)) →
    IsOwn status → MeetsBy Gives answer status old new → IsAnswered Gives answer status old new
owned Gives answer Done old new own is = is
owned Gives answer Memory old new own is = absurd (own.found refl)
owned Gives answer Words old new own is = absurd (own.words refl)
owned Gives answer ReadFault old new own is = absurd (own.read refl)
owned Gives answer WriteFault old new own is = absurd (own.written refl)
owned Gives answer RefusedFile old new own is = is
owned Gives answer RefusedLine old new own is = is
owned Gives answer TooLong old new own is = is

module _ {A : Type 0} (Gives : Result A Unloaded → Type 0) (answer : Result A Unloaded → Answer) (once : GivesOnce Gives) where
  pub same_status : (status other : Status) (old new old' new' : Option (List ℕ)) → IsAnswered Gives answer status old new →
      IsAnswered Gives answer other old' new' → status ≡ other
  same_status status other old new old' new' x y = sym x.2 ∙ ap (λ r. (answer r).status) (once x.0 y.0 x.1 y.1) ∙ y.2

  pub same_text : GainsOnce Gives answer → (status other : Status) (old new old' new' : Option (List ℕ)) → old ≡ old' →
      IsAnswered Gives answer status old new → IsAnswered Gives answer other old' new' → new ≡ new'
  same_text one status other old new old' new' same x y =
      let gained : GainedBy (answer y.0).Gained (answer y.0).pieces x.3.0 =
      subst (λ r. GainedBy (answer r).Gained (answer r).pieces x.3.0) (once x.0 y.0 x.1 y.1) x.3.1 in
      let text : x.3.0 ≡ y.3.0 = one y.0 y.1 x.3.0 y.3.0 gained y.3.1 in
      x.3.2 ∙ (λ j. append_known (same j) (text j)) ∙ sym y.3.2

  pub answers_note : (status : Status) (a b : List ℕ) → IsAnswersNote Gives answer status a → IsAnswersNote Gives answer status b → a ≡ b
  answers_note status a b x y = x.3 ∙ ap (λ r. (answer r).note) (once x.0 y.0 x.1 y.1) ∙ sym y.3

  pub same_note : (Reached : List ℕ → Type 0) (files : List (List ℕ)) (status : Status) (a b : List ℕ) → IsOwn status →
      IsNote files status a → IsNote files status b → NoteMeetsBy Gives answer Reached status a → NoteMeetsBy Gives answer Reached status b → a ≡ b
  same_note Reached files Done a b own x y p q = x ∙ sym y
  same_note Reached files Memory a b own x y p q = x ∙ sym y
  same_note Reached files Words a b own x y p q = x ∙ sym y
  same_note Reached files ReadFault a b own x y p q = absurd (own.read refl)
  same_note Reached files WriteFault a b own x y p q = x ∙ sym y
  same_note Reached files RefusedFile a b own x y p q = answers_note RefusedFile a b p q
  same_note Reached files RefusedLine a b own x y p q = answers_note RefusedLine a b p q
  same_note Reached files TooLong a b own x y p q = answers_note TooLong a b p q

-- ---- of a form

-- the status is the files' own
form_owns : (form : Form) (call : Call) (status : Status) → WentWell call → (status ≡ Memory → ⊥) →
    FormAnswer form call.files call.out call.notes status → IsOwn status
form_owns form call status well found x = record {
  found = found;
  words = x.not_words;
  read = λ is. well.read (x.read_fault is);
  written = λ is. well.written (x.write_fault is);
}

-- what is judged of a log has one text
judged_once : (log : List ℕ) (site : Site) (pictures : List Picture) (one : (a b : List ℕ) → IsAudit site pictures a → IsAudit site pictures b → a ≡ b)
    (refusal : Option (ℕ × LogWhy)) (a b : List ℕ) →
    GainedBy (audit_answer log site pictures refusal).Gained (audit_answer log site pictures refusal).pieces a →
    GainedBy (audit_answer log site pictures refusal).Gained (audit_answer log site pictures refusal).pieces b → a ≡ b
judged_once log site pictures one None a b x y = one a b x y
judged_once log site pictures one (Some at) a b x y = x ∙ sym y

form_gains : LogsHaveOneAudit → (form : Form) (file : Contents) → compiles (Some form) ≡ false → GainsOnce (Loads form file) (answer_to form file)
form_gains audits (Play source site detectors) file none (Ok playing) gives a b x y = x ∙ sym y
form_gains audits (Play source site detectors) file none (Err (loading.TooLong word)) gives a b x y = x ∙ sym y
form_gains audits (Play source site detectors) file none (Err (loading.Refused word line reason)) gives a b x y = x ∙ sym y
form_gains audits (Compile program) file none r gives a b x y = absurd cc
form_gains audits (Sample program site seed seconds) file none (Ok playing) gives a b x y = x ∙ sym y
form_gains audits (Sample program site seed seconds) file none (Err (loading.TooLong word)) gives a b x y = x ∙ sym y
form_gains audits (Sample program site seed seconds) file none (Err (loading.Refused word line reason)) gives a b x y = x ∙ sym y
form_gains audits (Audit log site) file none (Ok logged) gives a b x y =
    let only = audits log site file logged gives in
    judged_once log logged.site logged.pictures (λ c d p q. only.2 c p ∙ sym (only.2 d q)) logged.refusal a b x y
form_gains audits (Audit log site) file none (Err (loading.TooLong word)) gives a b x y = x ∙ sym y
form_gains audits (Audit log site) file none (Err (loading.Refused word line reason)) gives a b x y = x ∙ sym y

-- two answers to the words of a form
form_once : LoadsOnce → LogsHaveOneAudit → (form : Form) (file : Contents) (call other : Call) (status other_status : Status) → BeginAlike file call other →
    WentWell call → WentWell other → IsOwn status → IsOwn other_status →
    FormAnswer form call.files call.out call.notes status → FormAnswer form other.files other.out other.notes other_status →
    EndAlike call other status other_status × (compiles (Some form) ≡ false → WroteAlike call other)
form_once once audits form file call other status other_status begin well goes own owns x y =
    let Gives = Loads form file in
    let answer = answer_to form file in
    let p = owned Gives answer status call.out.old call.out.new own (x.answer file begin.files) in
    let q = owned Gives answer other_status other.out.old other.out.new owns (y.answer file begin.other_files) in
    let same : status ≡ other_status = same_status Gives answer (once form file) status other_status call.out.old call.out.new other.out.old other.out.new p q in
    let n = x.note well.noted in
    let m = y.note goes.noted in
    let text : n.0 ≡ m.0 =
    same_note Gives answer (once form file) (loading.Reached form file) (files_of form) status n.0 m.0 own n.2
    (subst (λ s. IsNote (files_of form) s m.0) (sym same) m.2)
    (n.3 file begin.files)
    (subst (λ s. NoteMeetsBy Gives answer (loading.Reached form file) s m.0) (sym same) (m.3 file begin.other_files)) in (
      record { status_is = same; note_is = n.1 ∙ (λ j. append_known (begin.notes j) (text j)) ∙ sym m.1 },
      λ none. same_text Gives answer (once form file) (form_gains audits form file none) status other_status call.out.old call.out.new
          other.out.old other.out.new begin.out p q,
    )

-- two answers to the words of a form, or to others
words_once : LoadsOnce → LogsHaveOneAudit → (form : Option Form) (file : Contents) (call other : Call) (status other_status : Status) →
    BeginAlike file call other → WentWell call → WentWell other → (status ≡ Memory → ⊥) → (other_status ≡ Memory → ⊥) →
    AnswersTo form call.files call.out call.notes status → AnswersTo form other.files other.out other.notes other_status →
    EndAlike call other status other_status × (compiles form ≡ false → WroteAlike call other)
words_once once audits None file call other status other_status begin well goes found has x y = (
  record {
    status_is = x.is ∙ sym y.is;
    note_is = x.note well.noted ∙ ap (λ old. append_known old (note_of (codes "Words"))) begin.notes ∙ sym (y.note goes.noted);
  },
  λ none. x.unwritten ∙ begin.out ∙ sym y.unwritten,
)
words_once once audits (Some form) file call other status other_status begin well goes found has x y =
    form_once once audits form file call other status other_status begin well goes (form_owns form call status well found x)
    (form_owns form other other_status goes has y) x y

pub junction_once : LoadsOnce → LogsHaveOneAudit → JunctionHasOneAnswer
junction_once once audits words file call other status other_status begin well goes found has x y =
    words_once once audits (form_of words) file call other status other_status begin well goes found has x y

-- ---- `compile`

-- a text of a program's code was written
abbrev IsCompiledOf : Program → Option (List ℕ) → Option (List ℕ) → Type 0
IsCompiledOf tree old new = (text : List ℕ) × IsCompiled tree text × (new ≡ append_known old text)

compiled_of : (program : List ℕ) (file : Contents) (r : Result Program Unloaded) (old new : Option (List ℕ)) → Loads (Compile program) file r →
    (answer_to (Compile program) file r).status ≡ Done → Gains (answer_to (Compile program) file r) (answer_to (Compile program) file r).pieces old new →
    (tree : Program) × IsSource (ProgramFile program) (file program) (Ok tree) × IsCompiledOf tree old new
compiled_of program file (Ok tree) old new gives is gains = (tree, gives, gains)
compiled_of program file (Err (loading.TooLong word)) old new gives is gains = absurd cc
compiled_of program file (Err (loading.Refused word line reason)) old new gives is gains = absurd cc

same_tree : (a b : Program) → ◌≡◌ {A = Result Program Unloaded} (Ok a) (Ok b) → a ≡ b
same_tree a b is = cc

compiled_form : LoadsOnce → (program : List ℕ) (file : Contents) (call other : Call) → BeginAlike file call other →
    FormAnswer (Compile program) call.files call.out call.notes Done → FormAnswer (Compile program) other.files other.out other.notes Done →
    (tree : Program) × IsSource (ProgramFile program) (file program) (Ok tree)
    × (text : List ℕ) × IsCompiled tree text × Wrote text call
    × (other_text : List ℕ) × IsCompiled tree other_text × Wrote other_text other
compiled_form once program file call other begin x y =
    let p = x.answer file begin.files in
    let q = y.answer file begin.other_files in
    let one = compiled_of program file p.0 call.out.old call.out.new p.1 p.2 p.3 in
    let two = compiled_of program file q.0 other.out.old other.out.new q.1 q.2 q.3 in
    let same : two.0 ≡ one.0 = same_tree two.0 one.0 (once (Compile program) file (Ok two.0) (Ok one.0) two.1 one.1) in
    let moved = subst (λ tree. IsCompiledOf tree other.out.old other.out.new) same two.2 in
    (one.0, one.1, one.2.0, one.2.1, one.2.2, moved.0, moved.1, moved.2)

pub compiled_once : LoadsOnce → CompiledIsOneProgram
compiled_once once words program file call other is begin x y =
    compiled_form once program file call other begin
    (subst (λ f. AnswersTo f call.files call.out call.notes Done) is x)
    (subst (λ f. AnswersTo f other.files other.out other.notes Done) is y)
