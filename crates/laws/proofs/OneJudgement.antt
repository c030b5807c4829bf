-- What is judged of a log is one thing.
use Rattle.std.proofs.Common.{◌≡◌, ◌∙◌, ℕ, Bool, true, List, length, Option, None, Some, Result, Ok, Err, refl, sym, ap, subst}
use Rattle.std.specs.Io.KnownBytes.{append_known}
use Rattle.std.specs.Prelude.{codes, ◌++◌}
use Rattle.sig_io.specs.Outside.{Contents}
use Rattle.sig_types.specs.declared.record.Record.{Record}
use Rattle.sig_types.specs.Turns.{Picture}
use Rattle.log_judge.specs.Breaches.{breaches}
use Rattle.log_read.specs.declared.begin.Begin.TheVariants.{Anywhere}
use Rattle.log_read.specs.declared.refusal.LogWhy.{LogWhy}
use Rattle.log_read.specs.Laws.{OnePictures, OneRecords}
use Rattle.log_read.specs.Readings.{IsPictures, IsRecords, first_second}
use Rattle.log_read.specs.Whys.{why_name}
use Rattle.refusal_text.specs.Text.{refusals_text}
use Rattle.site_load.specs.declared.stop.SiteStop.TheVariants as site
use Rattle.site_load.specs.Loading.{Site, SiteFiles, Unloaded, site_of}
use Rattle.site_load.specs.Loading as loading
use Rattle.site_load.specs.Reasons.{reason_text}
use Rattle.report_words.specs.declared.status.Status.{Status}
use Rattle.report_words.specs.declared.status.Status.TheVariants as status
use Rattle.report_words.specs.declared.stop.JudgeStop.{JudgeStop}
use Rattle.report_words.specs.declared.stop.JudgeStop.TheVariants as stop
use Rattle.report_words.specs.Notes.{line_note, note_of, stop_note}
use Rattle.report_judged.specs.BreachCall as breach
use Rattle.report_judged.specs.BreachForm as breach_form
use Rattle.log_protocol.specs.Came.{unknown_past}
use Rattle.report_judged.specs.BreachesFound as breach_found
use Rattle.report_judged.specs.RefusalCall as refusal
use Rattle.report_judged.specs.RefusalForm as refusal_form
use Rattle.laws.specs.OneAnswer.{BeginAlike, Call, WentWell}
use Rattle.laws.specs.OneJudgement.{BreachesHaveOneAnswer, RefusalsHaveOneAnswer}

-- ---- how a call ends

-- what has been noted behind what was there
abbrev pub noted : Option (List ℕ) → Option (List ℕ) → Option (List ℕ)
noted old None = old
noted old (Some note) = append_known old note

-- a status, a note and what has been written, of either of two calls
abbrev pub AreAlike : (status other : Status) (note other_note new other_new : Option (List ℕ)) → Type 0
AreAlike status other note other_note new other_new = (status ≡ other) × (note ≡ other_note) × (new ≡ other_new)

-- how a call ends whose site is not taken, and its note
abbrev pub unsited_status : Unloaded → Status
unsited_status (loading.TooLong word) = status.TooLong
unsited_status (loading.Refused word line reason) = status.Refused

abbrev pub unsited_note : Unloaded → List ℕ
unsited_note (loading.TooLong word) = note_of (word ++ codes ": TooLong")
unsited_note (loading.Refused word line reason) = line_note word line reason

-- a form that judges a log at a site: its files, what it tells at a site and how it ends then, and which line is refused at a site
pub record Form : Type 1 where
  pub words : SiteFiles
  pub log : List ℕ
  pub IsTold : Site → Status → List ℕ → Type 0
  pub IsRefused : Site → ℕ → LogWhy → Type 0

-- how a call of the form ends where nothing fails
pub data Ending (form : Form) (file : Contents) (end : Status) (note old new : Option (List ℕ)) : Type 0 where
  told : (at : Site) → site_of form.words file ≡ Ok at → (text : List ℕ) → form.IsTold at end text → note ≡ None → new ≡ append_known old text →
      Ending form file end note old new
  unsited : (u : Unloaded) → site_of form.words file ≡ Err u → end ≡ unsited_status u → note ≡ Some (unsited_note u) → new ≡ old →
      Ending form file end note old new
  unread : (at : Site) → site_of form.words file ≡ Ok at → (line : ℕ) (why : LogWhy) → form.IsRefused at line why → end ≡ status.Refused →
      note ≡ Some (line_note form.log line (why_name why)) → new ≡ old → Ending form file end note old new

-- at a site it tells one thing, or one line is refused
pub record IsSettled (form : Form) : Type 0 where
  pub one : (at : Site) (e f : Status) (a b : List ℕ) → form.IsTold at e a → form.IsTold at f b → (e ≡ f) × (a ≡ b)
  pub apart : (at : Site) (e : Status) (a : List ℕ) (line : ℕ) (why : LogWhy) → form.IsTold at e a → form.IsRefused at line why → ⊥
  pub line : (at : Site) (k l : ℕ) (v w : LogWhy) → form.IsRefused at k v → form.IsRefused at l w → (k ≡ l) × (v ≡ w)

pub same_site : (o : Result Site Unloaded) (a b : Site) → o ≡ Ok a → o ≡ Ok b → a ≡ b
same_site o a b x y = let is : Ok a ≡ Ok b = sym x ∙ y in cc

pub same_unsited : (o : Result Site Unloaded) (u v : Unloaded) → o ≡ Err u → o ≡ Err v → u ≡ v
same_unsited o u v x y = let is : Err u ≡ Err v = sym x ∙ y in cc

pub sited_or_not : (o : Result Site Unloaded) (a : Site) (u : Unloaded) → o ≡ Ok a → o ≡ Err u → ⊥
sited_or_not o a u x y = let is : Ok a ≡ Err u = sym x ∙ y in cc

module _ (form : Form) (file : Contents) (settled : IsSettled form) (end other : Status) (note other_note old other_old new other_new : Option (List ℕ))
    (same : old ≡ other_old) where
  pub ending_once : Ending form file end note old new → Ending form file other other_note other_old other_new →
      AreAlike end other note other_note new other_new
  ending_once (told at site_is text is n w) (told at' site_is' text' is' m v) =
      let sites : at ≡ at' = same_site (site_of form.words file) at at' site_is site_is' in
      let one = settled.one at' end other text text' (subst (λ s. form.IsTold s end text) sites is) is' in
      (one.0, n ∙ sym m, w ∙ (λ j. append_known (same j) (one.1 j)) ∙ sym v)
  ending_once (told at site_is text is n w) (unsited u not e m v) = absurd (sited_or_not (site_of form.words file) at u site_is not)
  ending_once (told at site_is text is n w) (unread at' site_is' line why refused e m v) =
      let sites : at ≡ at' = same_site (site_of form.words file) at at' site_is site_is' in
      absurd (settled.apart at' end text line why (subst (λ s. form.IsTold s end text) sites is) refused)
  ending_once (unsited u not e n w) (told at site_is text is m v) = absurd (sited_or_not (site_of form.words file) at u site_is not)
  ending_once (unsited u not e n w) (unsited u' not' f m v) =
      let is : u ≡ u' = same_unsited (site_of form.words file) u u' not not' in
      (e ∙ ap unsited_status is ∙ sym f, n ∙ ap (λ x. Some (unsited_note x)) is ∙ sym m, w ∙ same ∙ sym v)
  ending_once (unsited u not e n w) (unread at site_is line why refused f m v) = absurd (sited_or_not (site_of form.words file) at u site_is not)
  ending_once (unread at site_is line why refused e n w) (told at' site_is' text is m v) =
      let sites : at ≡ at' = same_site (site_of form.words file) at at' site_is site_is' in
      absurd (settled.apart at' other text line why is (subst (λ s. form.IsRefused s line why) sites refused))
  ending_once (unread at site_is line why refused e n w) (unsited u not f m v) = absurd (sited_or_not (site_of form.words file) at u site_is not)
  ending_once (unread at site_is line why refused e n w) (unread at' site_is' line' why' refused' f m v) =
      let sites : at ≡ at' = same_site (site_of form.words file) at at' site_is site_is' in
      let one = settled.line at' line line' why why' (subst (λ s. form.IsRefused s line why) sites refused) refused' in
      (e ∙ sym f, n ∙ (λ j. Some (line_note form.log (one.0 j) (why_name (one.1 j)))) ∙ sym m, w ∙ same ∙ sym v)

-- an accepted log and a refused one
pub never : {A : Type 0} (a : A) → ◌≡◌ {A = Option A} None (Some a) → ⊥
never a is = cc

-- the refusal, where there is one
abbrev refusal_or : ℕ × LogWhy → Option (ℕ × LogWhy) → ℕ × LogWhy
refusal_or other None = other
refusal_or other (Some at) = at

pub same_refusal : (k l : ℕ) (v w : LogWhy) → ◌≡◌ {A = Option (ℕ × LogWhy)} (Some (k, v)) (Some (l, w)) → (k ≡ l) × (v ≡ w)
same_refusal k l v w is =
    let same : ◌≡◌ {A = ℕ × LogWhy} (k, v) (l, w) = ap (refusal_or (k, v)) is in
    (ap (λ at. at.0) same, ap (λ at. at.1) same)

-- ---- `breaches`

-- the breaches of a log at a site
record AreBreaches (asked : breach_form.Asked) (file : Contents) (at : Site) (end : Status) (text : List ℕ) : Type 0 where
  pub pictures : List Picture
  pub log : IsPictures Anywhere at.plan.names (file asked.log) pictures None
  pub text_is : text ≡ breach.text_of asked.csv at.plan.names (first_second (file asked.log)) (length pictures)
      (breaches at.rules (unknown_past asked.tolerance) pictures)
  pub end_is : end ≡ breach.done_with (breach.is_some_breach (breaches at.rules (unknown_past asked.tolerance) pictures))

-- a line that is no picture
abbrev pub IsNoPicture : Contents → List ℕ → Site → ℕ → LogWhy → Type 0
IsNoPicture file log at line why = (pictures : List Picture) × IsPictures Anywhere at.plan.names (file log) pictures (Some (line, why))

abbrev breach_by : breach_form.Asked → Contents → Form
breach_by asked file = record { words = asked.site; log = asked.log; IsTold = AreBreaches asked file; IsRefused = IsNoPicture file asked.log }

breaches_settled : OnePictures → (asked : breach_form.Asked) (file : Contents) → IsSettled (breach_by asked file)
breaches_settled one asked file = record {
  one = λ at e f a b x y.
      (let same = one Anywhere at.plan.names (file asked.log) x.pictures y.pictures None None x.log y.log in (
        x.end_is ∙ ap (λ ps. breach.done_with (breach.is_some_breach (breaches at.rules (unknown_past asked.tolerance) ps))) same.0 ∙ sym y.end_is,
        x.text_is ∙ ap (λ ps. breach.text_of asked.csv at.plan.names (first_second (file asked.log)) (length ps)
            (breaches at.rules (unknown_past asked.tolerance) ps)) same.0 ∙ sym y.text_is,
      ));
  apart = λ at e a line why x refused.
      never (line, why) (one Anywhere at.plan.names (file asked.log) x.pictures refused.0 None (Some (line, why)) x.log refused.1).1;
  line = λ at k l v w x y.
      same_refusal k l v w (one Anywhere at.plan.names (file asked.log) x.0 y.0 (Some (k, v)) (Some (l, w)) x.1 y.1).1;
}

-- the note of a call, where it has one
abbrev breach_note : Result Bool JudgeStop → Option (List ℕ)
breach_note (Ok broken) = None
breach_note (Err why) = Some (stop_note why)

-- neither want of memory nor a fault ended it
pub record IsOwn {A : Type 0} (Fault Broken : Result A JudgeStop → Type 0) (status_by : Result A JudgeStop → Status) (given : Result A JudgeStop) : Type 0 where
  pub found : status_by given ≡ status.Memory → ⊥
  pub read : Fault given → ⊥
  pub written : Broken given → ⊥

abbrev IsOwnBreach : Result Bool JudgeStop → Type 0
IsOwnBreach given = IsOwn breach_found.IsReadFault breach_found.IsWriteFault breach.status_by given

breaches_end : (asked : breach_form.Asked) (file : Contents) (given : Result Bool JudgeStop) (old new : Option (List ℕ)) → IsOwnBreach given →
    breach.IsAnswered asked file given old new → Ending (breach_by asked file) file (breach.status_by given) (breach_note given) old new
breaches_end asked file (Ok broken) old new own is =
    told is.1.0.at is.1.0.site_is is.0
    (record { pictures = is.1.0.pictures; log = is.1.0.log; text_is = is.1.0.text_is; end_is = ap breach.done_with is.1.0.broken_is }) refl is.1.1
breaches_end asked file (Err stop.Words) old new own is = absurd is
breaches_end asked file (Err stop.Memory) old new own is = absurd (own.found refl)
breaches_end asked file (Err (stop.Site site.Memory)) old new own is = absurd (own.found refl)
breaches_end asked file (Err (stop.Site (site.ReadFault word))) old new own is = absurd (own.read tt)
breaches_end asked file (Err (stop.Site (site.Refused word line reason))) old new own is =
    unsited (loading.Refused word.now line (reason_text reason)) is.1 refl refl is.0
breaches_end asked file (Err (stop.Site (site.TooLong word))) old new own is = unsited (loading.TooLong word.now) is.1 refl refl is.0
breaches_end asked file (Err (stop.ReadFault word)) old new own is = absurd (own.read tt)
breaches_end asked file (Err (stop.RefusedLine word line why)) old new own is =
    unread is.1.at is.1.site_is line why is.1.stop_is.1 refl (ap (λ w. Some (line_note w line (why_name why))) is.1.stop_is.0) is.0
breaches_end asked file (Err stop.WriteFault) old new own is = absurd (own.written tt)

breach_answers : OnePictures → (form : Option breach_form.Asked) (file : Contents) (call other : Call) (given got : Result Bool JudgeStop) →
    BeginAlike file call other → IsOwnBreach given → IsOwnBreach got → breach.IsAnswerTo form call.files call.out given →
    breach.IsAnswerTo form other.files other.out got →
    AreAlike (breach.status_by given) (breach.status_by got) (breach_note given) (breach_note got) call.out.new other.out.new
breach_answers one None file call other given got begin own owns x y =
    let same : given ≡ got = x.0 ∙ sym y.0 in
    (ap breach.status_by same, ap breach_note same, x.1 ∙ begin.out ∙ sym y.1)
breach_answers one (Some asked) file call other given got begin own owns x y =
    ending_once (breach_by asked file) file (breaches_settled one asked file) (breach.status_by given) (breach.status_by got) (breach_note given)
    (breach_note got) call.out.old other.out.old call.out.new other.out.new begin.out
    (breaches_end asked file given call.out.old call.out.new own (x file begin.files))
    (breaches_end asked file got other.out.old other.out.new owns (y file begin.other_files))

breach_noted : (given : Result Bool JudgeStop) (call : Call) → WentWell call → breach.IsNoted given call.notes →
    call.notes.new ≡ noted call.notes.old (breach_note given)
breach_noted (Ok broken) call well is = is
breach_noted (Err why) call well is = is well.noted

breach_own : (words : List (List ℕ)) (call : Call) (end : Status) → WentWell call → (end ≡ status.Memory → ⊥) →
    (x : breach.IsReported words call.files call.out call.notes end) → IsOwnBreach x.given
breach_own words call end well found x = record {
  found = λ is. found (x.status_is ∙ is);
  read = λ is. well.read (x.read_fault is);
  written = λ is. well.written (x.write_fault is);
}

pub breaches_once : OnePictures → BreachesHaveOneAnswer
breaches_once one words file call other end other_end begin well goes found has x y =
    let alike = breach_answers one (breach_form.form_of words) file call other x.given y.given begin (breach_own words call end well found x)
    (breach_own words other other_end goes has y) x.answer y.answer in (
      record {
        status_is = x.status_is ∙ alike.0 ∙ sym y.status_is;
        note_is = breach_noted x.given call well x.note ∙ (λ j. noted (begin.notes j) (alike.1 j)) ∙ sym (breach_noted y.given other goes y.note);
      },
      alike.2,
    )

-- ---- `refusals`

-- why was refused what a log tells as refused, at a site
record AreRefusals (asked : refusal_form.Asked) (file : Contents) (at : Site) (end : Status) (text : List ℕ) : Type 0 where
  pub records : List Record
  pub log : IsRecords true Anywhere at.plan.names (file asked.log) records None
  pub text_is : text ≡ refusals_text asked.csv at.plan.names at.rules asked.from asked.to records
  pub end_is : end ≡ status.Done

-- a line that is no record
abbrev IsNoRecord : Contents → List ℕ → Site → ℕ → LogWhy → Type 0
IsNoRecord file log at line why = (records : List Record) × IsRecords true Anywhere at.plan.names (file log) records (Some (line, why))

abbrev refusals_by : refusal_form.Asked → Contents → Form
refusals_by asked file = record { words = asked.site; log = asked.log; IsTold = AreRefusals asked file; IsRefused = IsNoRecord file asked.log }

refusals_settled : OneRecords → (asked : refusal_form.Asked) (file : Contents) → IsSettled (refusals_by asked file)
refusals_settled one asked file = record {
  one = λ at e f a b x y.
      (let same = one Anywhere at.plan.names (file asked.log) x.records y.records None None x.log y.log in (
        x.end_is ∙ sym y.end_is,
        x.text_is ∙ ap (refusals_text asked.csv at.plan.names at.rules asked.from asked.to) same.0 ∙ sym y.text_is,
      ));
  apart = λ at e a line why x refused.
      never (line, why) (one Anywhere at.plan.names (file asked.log) x.records refused.0 None (Some (line, why)) x.log refused.1).1;
  line = λ at k l v w x y.
      same_refusal k l v w (one Anywhere at.plan.names (file asked.log) x.0 y.0 (Some (k, v)) (Some (l, w)) x.1 y.1).1;
}

abbrev refusals_note : Result (Unit {0}) JudgeStop → Option (List ℕ)
refusals_note (Ok x) = None
refusals_note (Err why) = Some (stop_note why)

abbrev IsOwnRefusals : Result (Unit {0}) JudgeStop → Type 0
IsOwnRefusals given = IsOwn refusal.IsReadFault refusal.IsWriteFault refusal.status_by given

refusals_end : (asked : refusal_form.Asked) (file : Contents) (given : Result (Unit {0}) JudgeStop) (old new : Option (List ℕ)) → IsOwnRefusals given →
    refusal.IsAnswered asked file given old new → Ending (refusals_by asked file) file (refusal.status_by given) (refusals_note given) old new
refusals_end asked file (Ok x) old new own is =
    told is.1.site is.1.loaded is.0 (record { records = is.1.records; log = is.1.log; text_is = is.1.text_is; end_is = refl }) refl is.2
refusals_end asked file (Err stop.Words) old new own is = absurd is
refusals_end asked file (Err stop.Memory) old new own is = absurd (own.found refl)
refusals_end asked file (Err (stop.Site site.Memory)) old new own is = absurd (own.found refl)
refusals_end asked file (Err (stop.Site (site.ReadFault word))) old new own is = absurd (own.read tt)
refusals_end asked file (Err (stop.Site (site.Refused word line reason))) old new own is =
    unsited (loading.Refused word.now line (reason_text reason)) is.1 refl refl is.0
refusals_end asked file (Err (stop.Site (site.TooLong word))) old new own is = unsited (loading.TooLong word.now) is.1 refl refl is.0
refusals_end asked file (Err (stop.ReadFault word)) old new own is = absurd (own.read tt)
refusals_end asked file (Err (stop.RefusedLine word line why)) old new own is =
    unread is.1.0 is.1.1 line why is.1.2.1 refl (ap (λ w. Some (line_note w line (why_name why))) is.1.2.0) is.0
refusals_end asked file (Err stop.WriteFault) old new own is = absurd (own.written tt)

refusals_answers : OneRecords → (form : Option refusal_form.Asked) (file : Contents) (call other : Call) (given got : Result (Unit {0}) JudgeStop) →
    BeginAlike file call other → IsOwnRefusals given → IsOwnRefusals got → refusal.IsAnswerTo form call.files call.out given →
    refusal.IsAnswerTo form other.files other.out got →
    AreAlike (refusal.status_by given) (refusal.status_by got) (refusals_note given) (refusals_note got) call.out.new other.out.new
refusals_answers one None file call other given got begin own owns x y =
    let same : given ≡ got = x.0 ∙ sym y.0 in
    (ap refusal.status_by same, ap refusals_note same, x.1 ∙ begin.out ∙ sym y.1)
refusals_answers one (Some asked) file call other given got begin own owns x y =
    ending_once (refusals_by asked file) file (refusals_settled one asked file) (refusal.status_by given) (refusal.status_by got) (refusals_note given)
    (refusals_note got) call.out.old other.out.old call.out.new other.out.new begin.out
    (refusals_end asked file given call.out.old call.out.new own (x file begin.files))
    (refusals_end asked file got other.out.old other.out.new owns (y file begin.other_files))

refusals_noted : (given : Result (Unit {0}) JudgeStop) (call : Call) → WentWell call → refusal.IsNoted given call.notes →
    call.notes.new ≡ noted call.notes.old (refusals_note given)
refusals_noted (Ok x) call well is = is
refusals_noted (Err why) call well is = is well.noted

refusals_own : (words : List (List ℕ)) (call : Call) (end : Status) → WentWell call → (end ≡ status.Memory → ⊥) →
    (x : refusal.IsReported words call.files call.out call.notes end) → IsOwnRefusals x.given
refusals_own words call end well found x = record {
  found = λ is. found (x.status_is ∙ is);
  read = λ is. well.read (x.read_fault is);
  written = λ is. well.written (x.write_fault is);
}

pub refusals_once : OneRecords → RefusalsHaveOneAnswer
refusals_once one words file call other end other_end begin well goes found has x y =
    let alike = refusals_answers one (refusal_form.form_of words) file call other x.given y.given begin (refusals_own words call end well found x)
    (refusals_own words other other_end goes has y) x.answer y.answer in (
      record {
        status_is = x.status_is ∙ alike.0 ∙ sym y.status_is;
        note_is = refusals_noted x.given call well x.note ∙ (λ j. noted (begin.notes j) (alike.1 j)) ∙ sym (refusals_noted y.given other goes y.note);
      },
      alike.2,
    )
