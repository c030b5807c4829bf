-- What a call answers.
use Rattle.std.proofs.Common.{◌≡◌, ◌∙◌, ℕ, ◌++◌, Bool, false, List, length, Option, None, Ok, Err, refl, sym, ap, subst, inl, inr}
use Rattle.std.specs.Str.Lines.{lines}
use Rattle.sig_io.specs.Outside.{Contents}
use Rattle.sig_types.specs.Rules.{Rules}
use Rattle.site_load.specs.declared.stop.SiteStop.{SiteStop}
use Rattle.site_load.specs.declared.stop.SiteStop.TheVariants as unsited
use Rattle.site_load.specs.Stop as stop
use Rattle.report_words.specs.declared.stop.JudgeStop.TheVariants.{Words, Memory, Site, ReadFault, RefusedLine, WriteFault}
use Rattle.tenth_records.specs.declared.entry.Entry.{Entry}
use Rattle.tenth_records.specs.declared.entry.TenthStop.{TenthStop}
use Rattle.tenth_records.specs.declared.entry.TenthStop.TheVariants as tenth
use Rattle.tenth_records.specs.Answers.{IsOpened, record_told}
use Rattle.tenth_records.specs.Header.{header_of}
use Rattle.tenth_records.specs.Names.{plan_of_names}
use Rattle.tenth_records.specs.Parts.{parts_of}
use Rattle.log_judge.specs.declared.protocol.Extremes.{Extremes}
use Rattle.judge_text.specs.declared.tick.Tick.TheVariants.{Tenth}
use Rattle.log_protocol.specs.Parts.{came_in_parts, known_in}
use Rattle.log_protocol.specs.Texts.{came_text, head_text, unknown_text}
use Rattle.log_protocol.specs.Totals.{AreTotalsOf, came_at}
use Rattle.log_protocol.proofs.Same.{same_text}
use Rattle.tenth_report.specs.declared.form.Task.TheVariants.{Breaches, Protocol}
use Rattle.tenth_report.specs.declared.gathering.Gathered.{Gathered}
use Rattle.tenth_report.specs.declared.search.Found.{Found}
use Rattle.tenth_report.specs.declared.stop.RecordStop.{RecordStop}
use Rattle.tenth_report.specs.declared.stop.RecordStop.TheVariants.{Judge, RefusedEntry}
use Rattle.tenth_report.specs.Calls.{IsStopped, IsWritten}
use Rattle.tenth_report.specs.Form.{Asked}
use Rattle.tenth_report.specs.Gathering.{IsGathered}
use Rattle.tenth_report.specs.Kept.{found_text, gathered_text}
use Rattle.tenth_report.specs.Protocol.{first_time, protocol_of, style_of}
use Rattle.tenth_report.specs.Search.{AreFound}
use Rattle.tenth_report.specs.Stops.{IsReadFault, IsRecordStop, IsStopOf}
use Rattle.tenth_report.specs.Tables.{rules_at}
use Rattle.tenth_report.specs.Told.{IsTold, is_broken, is_some_breach, told_of}
use Rattle.tenth_report.proofs.KeptParts.{found_told}

-- a record that is read no further
pub record_stopped : (asked : Asked) (file : Contents) (names : List (List ℕ)) (rules : Rules) (stop : RecordStop) (old new : Option (List ℕ)) →
    header_of (lines (file asked.record_file)) ≡ Ok names → rules_at file asked.times asked.intergreens (plan_of_names names) ≡ Ok rules →
    IsRecordStop asked.record_file (record_told names (file asked.record_file)) stop → new ≡ old → IsStopped asked file stop old new
record_stopped asked file names rules (Judge Words) old new header tables is same = absurd is
record_stopped asked file names rules (Judge Memory) old new header tables is same = same
record_stopped asked file names rules (Judge (Site s)) old new header tables is same = absurd is
record_stopped asked file names rules (Judge (ReadFault w)) old new header tables is same = (same, is)
record_stopped asked file names rules (Judge (RefusedLine w line why)) old new header tables is same = absurd is
record_stopped asked file names rules (Judge WriteFault) old new header tables is same = absurd is
record_stopped asked file names rules (RefusedEntry w line why) old new header tables is same =
    (same, (is.0, inr (record { names = names; header = header; rules = rules; tables = tables; refused = is.1 })))

-- one that isn't opened
pub open_stopped : (asked : Asked) (file : Contents) (s : TenthStop) (t : RecordStop) (old new : Option (List ℕ)) →
    IsStopOf asked.record_file s t → IsOpened (file asked.record_file) (Err s) → new ≡ old → IsStopped asked file t old new
open_stopped asked file tenth.Memory t old new of is same = subst (λ t. IsStopped asked file t old new) (sym of) same
open_stopped asked file tenth.Fault (Judge Words) old new of is same = absurd of
open_stopped asked file tenth.Fault (Judge Memory) old new of is same = absurd of
open_stopped asked file tenth.Fault (Judge (Site s)) old new of is same = absurd of
open_stopped asked file tenth.Fault (Judge (ReadFault w)) old new of is same = (same, of)
open_stopped asked file tenth.Fault (Judge (RefusedLine w line why)) old new of is same = absurd of
open_stopped asked file tenth.Fault (Judge WriteFault) old new of is same = absurd of
open_stopped asked file tenth.Fault (RefusedEntry w line why) old new of is same = absurd of
open_stopped asked file (tenth.At line why) (Judge s) old new of is same = absurd of
open_stopped asked file (tenth.At line why) (RefusedEntry w line' why') old new of is same =
    (same, (of.0, inl (of.1 ∙ is.0, is.1 ∙ ap Err (sym of.2))))

-- what is told of a record whose breaches were found
pub told : (asked : Asked) (file : Contents) (names : List (List ℕ)) (rules : Rules) (tolerance : ℕ) (entries : List Entry) (found : Found)
    (broken : Bool) → asked.task ≡ Breaches tolerance →
    header_of (lines (file asked.record_file)) ≡ Ok names → rules_at file asked.times asked.intergreens (plan_of_names names) ≡ Ok rules →
    record_told names (file asked.record_file) ≡ record { entries = entries; refused = None } → AreFound rules tolerance entries found →
    broken ≡ is_some_breach found.breaches.items → IsTold asked file (found_text asked.csv names found) broken
told asked file names rules tolerance entries found broken task header tables read are is = record {
  names = names;
  header = header;
  rules = rules;
  tables = tables;
  told = record { entries = entries; refused = None };
  told_is = sym read;
  accepted = refl;
  text_is = found_told asked.csv names rules tolerance entries found are ∙ sym (ap (λ t. told_of t asked.csv names rules entries) task);
  broken_is = is ∙ ap is_some_breach are.breaches ∙ sym (ap (λ t. is_broken t rules entries) task);
}

gathered_told : (csv : Bool) (names : List (List ℕ)) (rules : Rules) (entries : List Entry) (gathered : Gathered) →
    IsGathered (length names) entries gathered → gathered_text csv names rules gathered ≡ protocol_of (style_of csv) names rules entries
unfolding protocol_of AreTotalsOf
gathered_told csv names rules entries gathered are =
    let style = style_of csv in
    let known = known_in (parts_of entries) in
    let rows = came_text Tenth style 0 (came_in_parts (parts_of entries)) names rules in
    ap (λ n. head_text Tenth style n gathered.first
    ++ (came_text Tenth style 0 (came_at gathered.totals) names rules ++ unknown_text Tenth style gathered.unknown)) are.known
    ∙ ap (λ n. head_text Tenth style known n
    ++ (came_text Tenth style 0 (came_at gathered.totals) names rules ++ unknown_text Tenth style gathered.unknown)) are.first
    ∙ ap (λ (t : List ℕ). head_text Tenth style known (first_time entries) ++ (t ++ unknown_text Tenth style gathered.unknown))
    (same_text Tenth style 0 (came_at gathered.totals) (came_in_parts (parts_of entries)) names rules are.totals)
    ∙ ap (λ (x : Extremes). head_text Tenth style known (first_time entries) ++ (rows ++ unknown_text Tenth style x)) are.unknown

-- what is told of a record of which all that came was gathered
pub told_gathered : (asked : Asked) (file : Contents) (names : List (List ℕ)) (rules : Rules) (entries : List Entry) (gathered : Gathered) →
    asked.task ≡ Protocol →
    header_of (lines (file asked.record_file)) ≡ Ok names → rules_at file asked.times asked.intergreens (plan_of_names names) ≡ Ok rules →
    record_told names (file asked.record_file) ≡ record { entries = entries; refused = None } → IsGathered (length names) entries gathered →
    IsTold asked file (gathered_text asked.csv names rules gathered) false
told_gathered asked file names rules entries gathered task header tables read are = record {
  names = names;
  header = header;
  rules = rules;
  tables = tables;
  told = record { entries = entries; refused = None };
  told_is = sym read;
  accepted = refl;
  text_is = gathered_told asked.csv names rules entries gathered are ∙ sym (ap (λ t. told_of t asked.csv names rules entries) task);
  broken_is = sym (ap (λ t. is_broken t rules entries) task);
}

-- a text that is told, and was not written whole
pub cut_short : (asked : Asked) (file : Contents) (text : List ℕ) (broken : Bool) (stop : RecordStop) (old new : Option (List ℕ)) →
    IsTold asked file text broken → IsWritten text (Err stop) old new → IsStopped asked file stop old new
cut_short asked file text broken stop old new told written =
    subst (λ s. IsStopped asked file s old new) (sym written.0) (text, (broken, (told, written.1)))

-- what was not written whole is no read that failed
pub no_read : (A : Type 0) (text : List ℕ) (stop : RecordStop) (old new : Option (List ℕ)) → IsWritten text (Err stop) old new →
    IsReadFault {A = A} (Err stop) → ⊥
no_read A text stop old new written is = subst (λ s. IsReadFault {A = A} (Err s)) written.0 is

-- a table that was not taken since a file could not be read
pub site_fault : (A B : Type 0) (s : SiteStop) → IsReadFault {A = A} (Err (Judge (Site s))) → stop.IsReadFault {A = B} (Err s)
site_fault A B unsited.Memory is = is
site_fault A B (unsited.ReadFault w) is = is
site_fault A B (unsited.Refused w line reason) is = is
site_fault A B (unsited.TooLong w) is = is
