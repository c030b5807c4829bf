-- What is judged of a record in tenths is one thing.
use Rattle.std.proofs.Common.{◌≡◌, ◌∙◌, ◌⊎◌, ℕ, Bool, List, Option, None, Some, Result, Ok, Err, refl, sym, ap, inl, inr}
use Rattle.std.specs.Io.KnownBytes.{append_known}
use Rattle.std.specs.Str.Lines.{lines}
use Rattle.sig_io.specs.Outside.{Contents}
use Rattle.sig_types.specs.Rules.{Rules}
use Rattle.site_load.specs.declared.stop.SiteStop.TheVariants as site
use Rattle.site_load.specs.Loading.{Unloaded}
use Rattle.site_load.specs.Loading as loading
use Rattle.site_load.specs.Reasons.{reason_text}
use Rattle.report_words.specs.declared.status.Status.{Status}
use Rattle.report_words.specs.declared.status.Status.TheVariants as status
use Rattle.report_words.specs.declared.stop.JudgeStop.TheVariants.{Words, Memory, Site, ReadFault, RefusedLine, WriteFault}
use Rattle.report_words.specs.Notes.{line_note}
use Rattle.tenth_records.specs.declared.entry.TenthWhy.{TenthWhy}
use Rattle.tenth_records.specs.Answers.{record_told}
use Rattle.tenth_records.specs.Header.{header_of}
use Rattle.tenth_records.specs.Names.{plan_of_names}
use Rattle.tenth_records.specs.Record.{Told}
use Rattle.tenth_report.specs.declared.stop.RecordStop.{RecordStop}
use Rattle.tenth_report.specs.declared.stop.RecordStop.TheVariants.{Judge, RefusedEntry}
use Rattle.tenth_report.specs.Calls.{HasNoText, IsAnswerTo, IsAnswered, IsNoted, IsReported, done_with, status_by}
use Rattle.tenth_report.specs.Form.{Asked, form_of}
use Rattle.tenth_report.specs.Stops.{IsReadFault, IsWriteFault, stop_note, why_name}
use Rattle.tenth_report.specs.Tables.{rules_at}
use Rattle.tenth_report.specs.Told.{IsTold, is_broken, told_of}
use Rattle.laws.specs.OneAnswer.{BeginAlike, Call, WentWell}
use Rattle.laws.specs.OneRecord.{RecordsHaveOneAnswer}
use Rattle.laws.proofs.OneJudgement.{noted, unsited_note, unsited_status}

-- a status, a note where there is one, and a text where there is one
abbrev End : Type 0
End = Status × (Option (List ℕ) × Option (List ℕ))

-- what has been written behind what was there
abbrev written : Option (List ℕ) → Option (List ℕ) → Option (List ℕ)
written old None = old
written old (Some text) = append_known old text

-- a status, a note, and what has been written
abbrev Seen : Type 0
Seen = Status × (Option (List ℕ) × Option (List ℕ))

abbrev seen_of : Option (List ℕ) → End → Seen
seen_of old end = (end.0, (end.1.0, written old end.1.1))

-- how a call ends where nothing fails, by what the files give
module _ (asked : Asked) (file : Contents) where
  abbrev end_of_told : List (List ℕ) → Rules → Told → End
  end_of_told names rules told = (
    done_with (is_broken asked.task rules told.entries),
    (None, Some (told_of asked.task asked.csv names rules told.entries)),
  )

  abbrev end_of_line : List (List ℕ) → Rules → Told → Option (ℕ × TenthWhy) → End
  end_of_line names rules told None = end_of_told names rules told
  end_of_line names rules told (Some at) = (status.Refused, (Some (line_note asked.record_file at.0 (why_name at.1)), None))

  abbrev end_of_rules : List (List ℕ) → Result Rules Unloaded → End
  end_of_rules names (Err u) = (unsited_status u, (Some (unsited_note u), None))
  end_of_rules names (Ok rules) = let told = record_told names (file asked.record_file) in end_of_line names rules told told.refused

  abbrev end_of_header : Result (List (List ℕ)) TenthWhy → End
  end_of_header (Err why) = (status.Refused, (Some (line_note asked.record_file 1 (why_name why)), None))
  end_of_header (Ok names) = end_of_rules names (rules_at file asked.times asked.intergreens (plan_of_names names))

  abbrev end_is : End
  end_is = end_of_header (header_of (lines (file asked.record_file)))

  -- where the tables are accepted, it ends by the lines
  by_lines : (names : List (List ℕ)) (rules : Rules) → header_of (lines (file asked.record_file)) ≡ Ok names →
      rules_at file asked.times asked.intergreens (plan_of_names names) ≡ Ok rules → end_is ≡ end_of_rules names (Ok rules)
  by_lines names rules header tables = ap end_of_header header ∙ ap (end_of_rules names) tables

-- the note of a call, where it has one
abbrev note : Result Bool RecordStop → Option (List ℕ)
note (Ok broken) = None
note (Err why) = Some (stop_note why)

-- neither want of memory nor a fault ended it
record IsOwn (given : Result Bool RecordStop) : Type 0 where
  pub found : status_by given ≡ status.Memory → ⊥
  pub read : IsReadFault given → ⊥
  pub written : IsWriteFault given → ⊥

-- what is seen of a call that gives this
abbrev seen_by : Result Bool RecordStop → Option (List ℕ) → Seen
seen_by given new = (status_by given, (note given, new))

ended : (asked : Asked) (file : Contents) (given : Result Bool RecordStop) (old new : Option (List ℕ)) → IsOwn given → IsAnswered asked file given old new →
    seen_by given new ≡ seen_of old (end_is asked file)
ended asked file (Ok broken) old new own (text, (is, written)) =
    let told = record_told is.names (file asked.record_file) in
    let accepted : told.refused ≡ None = ap (λ (t : Told). t.refused) (sym is.told_is) ∙ is.accepted in
    let end : end_is asked file ≡ end_of_told asked file is.names is.rules told =
    by_lines asked file is.names is.rules is.header is.tables ∙ ap (end_of_line asked file is.names is.rules told) accepted in
    let here : seen_by (Ok broken) new ≡ seen_of old (end_of_told asked file is.names is.rules is.told) =
    (λ j. (done_with (is.broken_is j), (None, (written ∙ ap (append_known old) is.text_is) j))) in
    here ∙ ap (λ t. seen_of old (end_of_told asked file is.names is.rules t)) is.told_is ∙ ap (seen_of old) (sym end)
ended asked file (Err (Judge Words)) old new own is = absurd is
ended asked file (Err (Judge Memory)) old new own is = absurd (own.found refl)
ended asked file (Err (Judge (Site site.Memory))) old new own is = absurd (own.found refl)
ended asked file (Err (Judge (Site (site.ReadFault word)))) old new own is = absurd (own.read tt)
ended asked file (Err (Judge (Site (site.Refused word line reason)))) old new own is =
    let end = ap (end_of_header asked file) is.1.header ∙ ap (end_of_rules asked file is.1.names) is.1.stop_is in
    (λ j. (status.Refused, (Some (line_note word.now line (reason_text reason)), is.0 j))) ∙ ap (seen_of old) (sym end)
ended asked file (Err (Judge (Site (site.TooLong word)))) old new own is =
    let end = ap (end_of_header asked file) is.1.header ∙ ap (end_of_rules asked file is.1.names) is.1.stop_is in
    (λ j. (status.TooLong, (Some (unsited_note (loading.TooLong word.now)), is.0 j))) ∙ ap (seen_of old) (sym end)
ended asked file (Err (Judge (ReadFault word))) old new own is = absurd (own.read tt)
ended asked file (Err (Judge (RefusedLine word line why))) old new own is = absurd is
ended asked file (Err (Judge WriteFault)) old new own is = absurd (own.written tt)
ended asked file (Err (RefusedEntry word line why)) old new own (same, (word_is, inl at)) =
    let end = ap (end_of_header asked file) at.1 in
    (λ j. (status.Refused, (Some (line_note (word_is j) (at.0 j) (why_name why)), same j))) ∙ ap (seen_of old) (sym end)
ended asked file (Err (RefusedEntry word line why)) old new own (same, (word_is, inr at)) =
    let told = record_told at.names (file asked.record_file) in
    let end = by_lines asked file at.names at.rules at.header at.tables ∙ ap (end_of_line asked file at.names at.rules told) at.refused in
    (λ j. (status.Refused, (Some (line_note (word_is j) line (why_name why)), same j))) ∙ ap (seen_of old) (sym end)

answers : (form : Option Asked) (file : Contents) (call other : Call) (given got : Result Bool RecordStop) → BeginAlike file call other → IsOwn given →
    IsOwn got → IsAnswerTo form call.files call.out given → IsAnswerTo form other.files other.out got →
    seen_by given call.out.new ≡ seen_by got other.out.new
answers None file call other given got begin own owns x y = λ j. seen_by ((x.0 ∙ sym y.0) j) ((x.1 ∙ begin.out ∙ sym y.1) j)
answers (Some asked) file call other given got begin own owns x y =
    ended asked file given call.out.old call.out.new own (x file begin.files)
    ∙ ap (λ old. seen_of old (end_is asked file)) begin.out
    ∙ sym (ended asked file got other.out.old other.out.new owns (y file begin.other_files))

note_is : (given : Result Bool RecordStop) (call : Call) → WentWell call → IsNoted given call.notes →
    call.notes.new ≡ noted call.notes.old (note given)
note_is (Ok broken) call well is = is
note_is (Err why) call well is = is well.noted

own_end : (words : List (List ℕ)) (call : Call) (end : Status) → WentWell call → (end ≡ status.Memory → ⊥) →
    (x : IsReported words call.files call.out call.notes end) → IsOwn x.given
own_end words call end well found x = record {
  found = λ is. found (x.status_is ∙ is);
  read = λ is. well.read (x.read_fault is);
  written = λ is. well.written (x.write_fault is);
}

pub records_once : RecordsHaveOneAnswer
records_once words file call other end other_end begin well goes has got x y =
    let alike = answers (form_of words) file call other x.given y.given begin (own_end words call end well has x)
    (own_end words other other_end goes got y) x.answer y.answer in (
      record {
        status_is = x.status_is ∙ ap (λ s. s.0) alike ∙ sym y.status_is;
        note_is = note_is x.given call well x.note ∙ (λ j. noted (begin.notes j) ((alike j).1.0)) ∙ sym (note_is y.given other goes y.note);
      },
      ap (λ s. s.1.1) alike,
    )
