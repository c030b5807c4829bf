-- The records of a log, while it is read.
use Rattle.std.proofs.Common.{◌≡◌, ℕ, List, [], ◌∷◌, ◌++◌, true, false, Option, Ok, Err}
use Rattle.std.specs.Option.{ForSome}
use Rattle.sig_io.specs.Outside.{Contents}
use Rattle.sig_types.specs.declared.record.Record.{Record}
use Rattle.sig_types.specs.Rules.{Rules}
use Rattle.log_read.specs.declared.records.LogRecords.{LogRecords}
use Rattle.log_read.specs.RecordAnswers.{AnswersNext, Reads, Stops, begin_of, name_of, names_given, names_of, record_given}
use Rattle.log_read.specs.declared.refusal.LogStop.{LogStop}
use Rattle.log_read.specs.declared.begin.Begin.TheVariants.{Anywhere}
use Rattle.refusal_text.specs.declared.finder.Refusals.{Refusals}
use Rattle.refusal_text.specs.Kept.{HasFound}
use Rattle.report_words.specs.declared.stop.JudgeStop.{JudgeStop}
use Rattle.report_judged.specs.RefusalsFound.{AreFound, IsUnread}

-- these records were read of a log, and what is kept is theirs
pub record SoFar (told : Option Contents) (name : List ℕ) (part : LogRecords) (r : Rules) (from to : ℕ) (refusals : Refusals) : Type 0 where
  pub records : List Record
  pub reads : ForSome told (λ file. Reads part (file name) records)
  pub found : HasFound refusals r from to records

-- a record more
pub read_next : (told : Option Contents) (name : List ℕ) (old new : LogRecords) (r : Rules) (from to : ℕ) (before after : Refusals) (rec : Record) →
    name_of old ≡ name → ForSome told (λ file. AnswersNext (file (name_of old)) old new (Ok true)) → rec ≡ record_given new →
    ((from to : ℕ) (records : List Record) → HasFound before r from to records → HasFound after r from to (records ++ rec ∷ [])) →
    SoFar told name old r from to before → SoFar told name new r from to after
read_next told name old new r from to before after rec named next given shows so_far = record {
  records = so_far.records ++ rec ∷ [];
  reads = λ file is. rw (named, ← given) at (next file is so_far.records (rw (← named) at (so_far.reads file is)));
  found = shows from to so_far.records so_far.found;
}

-- the end of the log
pub read_whole : (told : Option Contents) (names : List (List ℕ)) (name : List ℕ) (old new : LogRecords) (r : Rules) (from to : ℕ) (kept : Refusals) →
    name_of old ≡ name → names_of old ≡ names → begin_of old ≡ Anywhere → names_given old ≡ true → ForSome told (λ file. AnswersNext (file (name_of old)) old new (Ok false)) →
    SoFar told name old r from to kept → ForSome told (λ file. AreFound names r (file name) from to kept)
read_whole told names name old new r from to kept named same part given next so_far file is =
    let end = next file is so_far.records (rw (← named) at (so_far.reads file is)) in
    record {
      records = so_far.records;
      log = rw (named, same, part, given) at end.0;
      found = so_far.found;
    }

-- a line that is refused, or a read that failed
pub unread_next : (told : Option Contents) (names : List (List ℕ)) (name : List ℕ) (old new : LogRecords) (r : Rules) (from to : ℕ) (kept : Refusals)
    (stop : LogStop) (why : JudgeStop) →
    name_of old ≡ name → names_of old ≡ names → begin_of old ≡ Anywhere → names_given old ≡ true → ForSome told (λ file. AnswersNext (file (name_of old)) old new (Err stop)) →
    ((names : List (List ℕ)) (bytes : List ℕ) (records : List Record) → Stops true Anywhere names bytes records stop → IsUnread names name bytes why) →
    SoFar told name old r from to kept → ForSome told (λ file. IsUnread names name (file name) why)
unread_next told names name old new r from to kept stop why named same part given next stops so_far file is =
    stops names (file name) so_far.records (rw (named, same, part, given) at (next file is so_far.records (rw (← named) at (so_far.reads file is))))
