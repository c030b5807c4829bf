-- The lost starts of the records that were read of a log.
use Rattle.std.proofs.Common.{◌≡◌, ◌∙◌, ℕ, true, false, List, [], ◌∷◌, ◌++◌, length, Option, Ok, Err, ap, if◌then◌else◌}
use Rattle.std.specs.Prelude.{reverse}
use Rattle.std.proofs.lemmas.List.{reverse-append}
use Rattle.std.specs.Option.{ForSome}
use Rattle.sig_io.specs.Outside.{Contents}
use Rattle.sig_types.specs.declared.record.Record.{Record}
use Rattle.log_read.specs.declared.records.LogRecords.{LogRecords}
use Rattle.log_read.specs.declared.refusal.LogStop.{LogStop}
use Rattle.log_read.specs.declared.refusal.LogStop.TheVariants as log
use Rattle.log_read.specs.declared.begin.Begin.TheVariants.{Anywhere}
use Rattle.log_read.specs.RecordAnswers.{AnswersNext, Reads, Stops, begin_of, name_of, names_given, names_of, record_given}
use Rattle.report_seen.specs.declared.lost.Asking.{Asking}
use Rattle.report_seen.specs.declared.lost.LostStart.{LostStart}
use Rattle.report_seen.specs.Lost.{AreAsked, counts, lost_below, lost_starts}
use Rattle.report_seen.specs.LostCall.{AreLostIn, IsUntold}
use Rattle.report_seen.specs.Notes.{stop_of}

-- these records were read of a log that was first read so; what is kept is what is asked for behind them, and the starts that they lose
pub record LostSoFar (files : Option Contents) (first r : LogRecords) (from to : ℕ) (asked : List (Option Asking)) (starts : List LostStart) : Type 0 where
  pub records : List Record
  pub reads : ForSome files (λ file. Reads first (file (name_of first)) [] → Reads r (file (name_of first)) records)
  pub asked_are : AreAsked (length (names_of first)) (reverse records) asked
  pub starts_are : starts ≡ lost_starts (length (names_of first)) from to (reverse records)

-- no record yet
pub lost_first : (files : Option Contents) (first : LogRecords) (from to : ℕ) (asked : List (Option Asking)) (starts : List LostStart) → starts ≡ [] →
    AreAsked (length (names_of first)) [] asked → LostSoFar files first first from to asked starts
lost_first files first from to asked starts empty none = record {
  records = [];
  reads = λ file is begun. begun;
  asked_are = none;
  starts_are = empty;
}

latest_first : (records : List Record) (rec : Record) → reverse (records ++ rec ∷ []) ≡ rec ∷ reverse records
latest_first records rec = reverse-append records (rec ∷ [])

-- a record more
pub lost_next : (files : Option Contents) (first old new : LogRecords) (from to : ℕ) (asked_before asked_after : List (Option Asking))
    (before after : List LostStart) → name_of old ≡ name_of first → length (record_given new).picture ≡ length (names_of first) →
    ForSome files (λ file. AnswersNext (file (name_of old)) old new (Ok true)) →
    ((earlier : List Record) → AreAsked (length (record_given new).picture) earlier asked_before →
    AreAsked (length (record_given new).picture) (record_given new ∷ earlier) asked_after) →
    ((earlier : List Record) → AreAsked (length (record_given new).picture) earlier asked_before →
    after ≡ before ++ (if counts from to (record_given new).second.0 then lost_below (length (record_given new).picture) (record_given new) earlier else [])) →
    LostSoFar files first old from to asked_before before → LostSoFar files first new from to asked_after after
lost_next files first old new from to asked_before asked_after before after named groups next asks puts so_far =
    let rec = record_given new in
    let records = so_far.records in
    let asked = rw (← groups) at so_far.asked_are in
    record {
      records = records ++ rec ∷ [];
      reads = λ file is begun. rw named at (next file is records (rw (← named) at (so_far.reads file is begun)));
      asked_are = rw (latest_first records rec, ← groups) (asks (reverse records) asked);
      starts_are = rw (latest_first records rec) (puts (reverse records) asked
          ∙ (ap (λ (starts : List LostStart). starts ++ (if counts from to rec.second.0 then lost_below (length rec.picture) rec (reverse records) else [])) so_far.starts_are
          ∙ ap (λ (n : ℕ). lost_starts (length (names_of first)) from to (reverse records) ++ (if counts from to rec.second.0 then lost_below n rec (reverse records) else [])) groups));
    }

-- the end of the log
pub lost_whole : (files : Option Contents) (first old new : LogRecords) (from to : ℕ) (asked : List (Option Asking)) (starts : List LostStart) →
    name_of old ≡ name_of first → names_of old ≡ names_of first → begin_of old ≡ Anywhere → names_given old ≡ false →
    ForSome files (λ file. AnswersNext (file (name_of old)) old new (Ok false)) → LostSoFar files first old from to asked starts →
    ForSome files (λ file. Reads first (file (name_of first)) [] → AreLostIn (names_of first) (file (name_of first)) from to starts)
lost_whole files first old new from to asked starts named same anywhere found next so_far file is begun =
    let end = next file is so_far.records (rw (← named) at (so_far.reads file is begun)) in
    record {
      records = so_far.records;
      log = rw (named, same, anywhere, found) at end.0;
      starts_are = so_far.starts_are;
    }

-- why of a log nothing is told
pub untold : (names : List (List ℕ)) (bytes : List ℕ) (records : List Record) (stop : LogStop) → Stops false Anywhere names bytes records stop →
    IsUntold bytes (stop_of stop)
untold names bytes records log.Memory is = tt
untold names bytes records log.Fault is = tt
untold names bytes records (log.At line why) is = (names, (records, is))

-- a line that is refused, or a read that failed
pub untold_next : (files : Option Contents) (first old new : LogRecords) (from to : ℕ) (asked : List (Option Asking)) (starts : List LostStart)
    (stop : LogStop) → name_of old ≡ name_of first → begin_of old ≡ Anywhere → names_given old ≡ false →
    ForSome files (λ file. AnswersNext (file (name_of old)) old new (Err stop)) → LostSoFar files first old from to asked starts →
    ForSome files (λ file. Reads first (file (name_of first)) [] → IsUntold (file (name_of first)) (stop_of stop))
untold_next files first old new from to asked starts stop named anywhere found next so_far file is begun =
    untold (names_of old) (file (name_of first)) so_far.records stop
    (rw (named, anywhere, found) at (next file is so_far.records (rw (← named) at (so_far.reads file is begun))))
