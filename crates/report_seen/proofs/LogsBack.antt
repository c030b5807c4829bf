-- A log that was written is read back, whole.
use Rattle.std.proofs.Common.{false, ◌≡◌, ◌∙◌, ℕ, ◌+◌, ◌≤◌, true, List, [], ◌∷◌, ◌++◌, codes, drop, length, map, Option, Some, None, refl, sym, ap, subst, arith, append_assoc}
use Rattle.std.proofs.lemmas.List.{append-nil}
use Rattle.std.specs.Fmt.{decimal}
use Rattle.std.specs.Option.{option_and_then}
use Rattle.sig_types.specs.LogForm.{header_line, letter}
use Rattle.sig_types.specs.Text.{number_of, within}
use Rattle.sig_types.specs.declared.record.Record.{Record}
use Rattle.signal_log.specs.Log.{count_text, counted_from, fault_text, header_text, log_text, or_dash, place_text, record_line, record_text, records_text, refused_texts}
use Rattle.signal_log.proofs.FieldTexts.{counts_plain, letters_plain, or_dash_plain, place_plain, refused_plain}
use Rattle.signal_log.proofs.Lengths.{header_is_short, lines_are_short}
use Rattle.signal_log.proofs.LogLines.{lines_have_no_feed}
use Rattle.signal_log.proofs.Plain.{decimal_plain, no_bar, plain_without}
use Rattle.signal_log.proofs.Without.{Without}
use Rattle.log_read.specs.declared.refusal.LogWhy.{LogWhy}
use Rattle.log_read.specs.Fields.{Fields, cut_fifth, cut_first, cut_fourth, cut_second, cut_third, fields_of, names_in}
use Rattle.log_read.specs.Log.{HasEntries, Reading}
use Rattle.log_read.specs.Readings.{IsRecords, records_by}
use Rattle.log_read.specs.declared.begin.Begin.TheVariants.{AtOne}
use Rattle.log_read.specs.Records.{IsEntry}
use Rattle.log_read.specs.Watchers.{told_lines}
use Rattle.log_read.proofs.Entries.{not_refused}
use Rattle.log_read.proofs.LogLaws.{one_found, one_header}
use Rattle.log_read.proofs.LogLemmas.{ended, none_read, step_entry, step_header}
use Rattle.log_read.proofs.RecordForms.{picture_again}
use Rattle.log_read.proofs.TakenLemmas.{all_taken, left_behind, stands_at}
use Rattle.log_read.proofs.WatcherLemmas.{header_unwatched, line_first, nothing_told, record_unwatched, watch_cuts}
use Rattle.report_seen.specs.WrittenLogs.{AreGroups, AreOfRun, IsLoggedRun, IsOfRun, OnlyWrittenIsRead, WatcherIsBehindLog, WrittenIsRead}
use Rattle.report_seen.proofs.CountsBack.{frame_again}
use Rattle.report_seen.proofs.CutTexts.{cut_again}
use Rattle.report_seen.proofs.FieldsBack.{fault_again, place_again}
use Rattle.report_seen.proofs.HeaderBack.{header_again}
use Rattle.report_seen.proofs.NumberTexts.{number_within}
use Rattle.report_seen.proofs.RefusedBack.{refused_again}

-- ---- a line and its fields

abbrev barred : List ℕ → List ℕ → List ℕ → List ℕ → List ℕ → List ℕ → List ℕ
barred a b c d e f = a ++ 124 ∷ (b ++ 124 ∷ (c ++ 124 ∷ (d ++ 124 ∷ (e ++ 124 ∷ f))))

line_shape : (a b c d e f : List ℕ) →
    a ++ codes "|" ++ b ++ codes "|" ++ c ++ codes "|" ++ d ++ codes "|" ++ e ++ codes "|" ++ f ≡ barred a b c d e f
line_shape a b c d e f = simp append_assoc

fields_again : (a b c d e f : List ℕ) → Without 124 a → Without 124 b → Without 124 c → Without 124 d → Without 124 e →
    fields_of (barred a b c d e f) ≡ Some (record { second = a; place = b; aspects = c; counts = d; refused = e; fault = f })
unfolding fields_of
fields_again a b c d e f first second third fourth fifth =
    ap (λ o. option_and_then cut_first o) (cut_again 124 a (b ++ 124 ∷ (c ++ 124 ∷ (d ++ 124 ∷ (e ++ 124 ∷ f)))) first)
    ∙ ap (λ o. option_and_then (cut_second a) o) (cut_again 124 b (c ++ 124 ∷ (d ++ 124 ∷ (e ++ 124 ∷ f))) second)
    ∙ ap (λ o. option_and_then (cut_third a b) o) (cut_again 124 c (d ++ 124 ∷ (e ++ 124 ∷ f)) third)
    ∙ ap (λ o. option_and_then (cut_fourth a b c) o) (cut_again 124 d (e ++ 124 ∷ f) fourth)
    ∙ ap (λ o. option_and_then (cut_fifth a b c d) o) (cut_again 124 e f fifth)

-- the six fields of a record as they are written
abbrev written : List (List ℕ) → Record → Fields
written names r = record {
  second = decimal r.second.0;
  place = place_text r.place;
  aspects = map letter r.picture;
  counts = or_dash (map count_text (counted_from 1 r.frame));
  refused = or_dash (refused_texts names r.stages r.turns);
  fault = fault_text r.fault;
}

line_fields : (names : List (List ℕ)) (r : Record) → AreGroups names → fields_of (record_line names r) ≡ Some (written names r)
line_fields names r groups =
    let f = written names r in
    ap fields_of (line_shape f.second f.place f.aspects f.counts f.refused f.fault)
    ∙ fields_again f.second f.place f.aspects f.counts f.refused f.fault
    (plain_without 124 f.second no_bar (decimal_plain r.second.0))
    (plain_without 124 f.place no_bar (place_plain r.place))
    (plain_without 124 f.aspects no_bar (letters_plain r.picture))
    (plain_without 124 f.counts no_bar (or_dash_plain (map count_text (counted_from 1 r.frame)) (counts_plain (counted_from 1 r.frame))))
    (plain_without 124 f.refused no_bar (refused_plain names r groups.names_are))

-- the line of a record says this record
line_entry : (names : List (List ℕ)) (k : ℕ) (r : Record) → AreGroups names → k ≤ 604801 → IsOfRun (length names) k r →
    IsEntry names k (record_line names r) r
line_entry names k r groups few is = record {
  fields = written names r;
  cut = line_fields names r groups;
  due = subst (λ (n : ℕ). within k k (number_of (decimal n)) ≡ Some k) (sym is.second)
      (number_within k k k (omega arith) (omega arith) (omega arith));
  second = is.second;
  place = place_again r.place is.place;
  picture = picture_again (length names) r.picture is.parts.picture;
  frame = frame_again r.frame is.parts.frame is.counts;
  refused = refused_again names r.stages r.turns groups is.bounded.commands is.commands is.bounded.turns is.parts.turns is.turns;
  fault = fault_again r.fault is.fault;
}

-- ---- the log

-- the lines of records, each with its line feed
abbrev lines_text : List (List ℕ) → List Record → List ℕ
lines_text names [] = []
lines_text names (r ∷ rs) = record_line names r ++ 10 ∷ lines_text names rs

records_are : (names : List (List ℕ)) (rs : List Record) → records_text names rs ≡ lines_text names rs
unfolding records_text record_text
records_are names [] = refl
records_are names (r ∷ rs) =
    append_assoc (record_line names r) (codes "\n") (records_text names rs)
    ∙ ap (λ l. record_line names r ++ 10 ∷ l) (records_are names rs)

log_is : (names : List (List ℕ)) (rs : List Record) → log_text names rs ≡ header_line names ++ 10 ∷ lines_text names rs
unfolding log_text header_text
log_is names rs =
    append_assoc (header_line names) (10 ∷ []) (records_text names rs)
    ∙ ap (λ l. header_line names ++ 10 ∷ l) (records_are names rs)

-- the records of the groups that the header names
abbrev by_header : List (List ℕ) → Reading Record
by_header names = records_by false names

-- the records from number n on, where the lines before them were read
read_on : (names : List (List ℕ)) (bytes : List ℕ) (n : ℕ) (done rs : List Record) → AreGroups names → 1 ≤ n →
    n + length rs ≤ 604802 →
    AreOfRun (length names) n rs →
    told_lines (lines_text names rs) ≡ drop n (told_lines bytes) → HasEntries (by_header names) 1 (told_lines bytes) n done →
    IsRecords false AtOne names bytes (done ++ rs) None
read_on names bytes n done [] groups some few are rest read =
    let none = all_taken (told_lines bytes) n (told_lines []) rest nothing_told in
    rw (append-nil done) (ended (by_header names) 1 (told_lines bytes) n done read none some)
read_on names bytes n done (r ∷ rs) groups some few are rest read =
    let line : List ℕ = record_line names r in
    let left = told_lines (line ++ 10 ∷ lines_text names rs) in
    let entry = line_entry names n r groups (omega arith) are.0 in
    let next : told_lines (line ++ 10 ∷ lines_text names rs) ≡ line ∷ told_lines (lines_text names rs) =
    line_first (line ++ 10 ∷ lines_text names rs) line true (lines_text names rs)
    record { no_feed = (lines_have_no_feed names groups.names_are).1 r; cut = refl } (record_unwatched names n line r entry) in
    let short : length line ≤ 262144 = lines_are_short names r groups.names_are groups.few are.0.parts are.0.bounded in
    let stands = stands_at (told_lines bytes) n left rest line (told_lines (lines_text names rs)) next (omega arith) short in
    let more = step_entry (by_header names) 1 (told_lines bytes) n n line done r read some stands (omega (arith, some))
    (not_refused names n line r entry) entry in
    subst (λ (all : List Record). IsRecords false AtOne names bytes all None) (append_assoc done (r ∷ []) rs)
    (read_on names bytes (n + 1) (done ++ r ∷ []) rs groups (omega arith) (omega arith) are.1
    (left_behind (told_lines bytes) n left rest line (told_lines (lines_text names rs)) next) more)

-- a header isn't refused
header_right : (names : List (List ℕ)) (line : List ℕ) → names_in line ≡ Some names → (by_header names).header line ≡ None
header_right names line is = rw is refl

lines_read : (names : List (List ℕ)) (rs : List Record) → IsLoggedRun names rs →
    IsRecords false AtOne names (header_line names ++ 10 ∷ lines_text names rs) rs None
lines_read names rs run =
    let bytes : List ℕ = header_line names ++ 10 ∷ lines_text names rs in
    let groups = run.groups in
    let header = header_again names groups in
    let next : told_lines bytes ≡ header_line names ∷ told_lines (lines_text names rs) =
    line_first bytes (header_line names) true (lines_text names rs)
    record { no_feed = (lines_have_no_feed names groups.names_are).0; cut = refl } (header_unwatched names (header_line names) header) in
    let stands = stands_at (told_lines bytes) 0 (told_lines bytes) refl (header_line names) (told_lines (lines_text names rs)) next (omega arith)
    (header_is_short names groups.names_are groups.few) in
    let more = step_header (by_header names) 1 (told_lines bytes) (header_line names) [] (none_read (by_header names) 1 (told_lines bytes)) stands
    (header_right names (header_line names) header) header in
    read_on names bytes 1 [] rs groups (omega arith) (omega (arith, run.few)) run.records_are
    (left_behind (told_lines bytes) 0 (told_lines bytes) refl (header_line names) (told_lines (lines_text names rs)) next) more

pub written_is_read : WrittenIsRead
written_is_read names rs run =
    subst (λ (bytes : List ℕ). IsRecords false AtOne names bytes rs None) (sym (log_is names rs)) (lines_read names rs run)

pub only_written_is_read : OnlyWrittenIsRead
only_written_is_read names others rs read refused run said =
    let one = one_found AtOne names others (log_text names rs) rs read None refused (written_is_read names rs run) said in
    let whole : IsRecords false AtOne others (log_text names rs) read None =
    subst (λ (o : Option (ℕ × LogWhy)). IsRecords false AtOne others (log_text names rs) read o) (sym one.1) said in
    (sym (one_header AtOne names others (log_text names rs) rs read (written_is_read names rs run) whole), sym one.0, sym one.1)

-- ---- what stands behind the log

-- a log ends with a line feed
record IsFed (text : List ℕ) : Type 0 where
  front : List ℕ
  is : text ≡ front ++ 10 ∷ []

fed_behind : (front : List ℕ) (names : List (List ℕ)) (rs : List Record) → IsFed (front ++ 10 ∷ lines_text names rs)
fed_behind front names [] = record { front = front; is = refl }
fed_behind front names (r ∷ rs) =
    subst IsFed (append_assoc front (10 ∷ record_line names r) (10 ∷ lines_text names rs))
    (fed_behind (front ++ 10 ∷ record_line names r) names rs)

pub watcher_is_behind_log : WatcherIsBehindLog
watcher_is_behind_log names rs line rest no_feed is =
    let log = log_text names rs in
    let fed = subst IsFed (sym (log_is names rs)) (fed_behind (header_line names) names rs) in
    let behind : log ++ (line ++ 10 ∷ rest) ≡ fed.front ++ 10 ∷ (line ++ 10 ∷ rest) =
    ap (λ l. l ++ (line ++ 10 ∷ rest)) fed.is ∙ append_assoc fed.front (10 ∷ []) (line ++ 10 ∷ rest) in
    ap told_lines behind ∙ watch_cuts fed.front line rest no_feed is ∙ ap told_lines (sym fed.is)
