-- The records of a log, while its parts are added up.
use Rattle.std.proofs.Common.{◌≡◌, ◌∙◌, ℕ, ◌+◌, ◌<◌, ◌≤◌, true, false, List, [], ◌∷◌, ◌++◌, length, take, Option, Result, Ok, Err, sym, ap, subst, arith, length-append}
use Rattle.std.proofs.lemmas.List.{length-take}
use Rattle.std.specs.Prelude.{All, IfErr, IfOk, slice_index_or, Vec}
use Rattle.std.specs.declared.alloc.Global.{Global}
use Rattle.std.specs.Option.{ForSome}
use Rattle.sig_io.specs.Outside.{Contents}
use Rattle.sig_types.specs.declared.record.Record.{Record}
use Rattle.log_read.specs.declared.records.LogRecords.{LogRecords}
use Rattle.log_read.specs.declared.refusal.LogStop.{LogStop}
use Rattle.log_read.specs.declared.begin.Begin.TheVariants.{AtOne}
use Rattle.log_read.specs.RecordAnswers.{AnswersNext, Reads, begin_of as begins_so, name_of, names_given, names_of, record_given, records_given}
use Rattle.log_read.specs.Records.{IsEntry}
use Rattle.log_read.proofs.Ranges.{recorded}
use Rattle.report_seen.specs.declared.stop.Stop.{Stop}
use Rattle.report_seen.specs.declared.stop.Stop.TheVariants.{Memory}
use Rattle.report_seen.specs.Notes.{stop_of}
use Rattle.log_sums.specs.declared.group.GroupSums.{GroupSums}
use Rattle.log_sums.specs.declared.serves.Serve.{Serve}
use Rattle.log_sums.specs.declared.sums.LogSums.{LogSums}
use Rattle.log_sums.specs.Summed.{AreSumsOf}
use Rattle.log_sums.specs.declared.parts.PartSums.{PartSums}
use Rattle.log_sums.specs.PartsAdding.{PartsUpTo}
use Rattle.log_sums.specs.Parts.{AreParts, begin_of, end_of}
use Rattle.sums_text.specs.Parts.{AreAllTextual}
use Rattle.sums_text.specs.Words.{AreTextual, IsServeSmall, IsSmall}
use Rattle.report_seen.specs.Summed.{IsParting, IsUnsummed}
use Rattle.report_seen.proofs.SumsReading.{unread}

-- these records were read of a log that was first read so, and what is kept is what its parts add up to
pub record PartsSoFar (files : Option Contents) (first r : LogRecords) (from each to : ℕ) (serves : List Serve) (parts : PartSums) : Type 0 where
  pub records : List Record
  pub count : length records ≡ records_given r
  pub reads : ForSome files (λ file. Reads first (file (name_of first)) [] → Reads r (file (name_of first)) records)
  pub parts_are : PartsUpTo (length (names_of first)) from each to serves records parts

-- no record yet
pub parts_first : (files : Option Contents) (first : LogRecords) (from each to : ℕ) (serves : List Serve) (parts : PartSums) → records_given first ≡ 0 →
    PartsUpTo (length (names_of first)) from each to serves [] parts → PartsSoFar files first first from each to serves parts
parts_first files first from each to serves parts none adds = record {
  records = [];
  count = sym none;
  reads = λ file is begun. begun;
  parts_are = adds;
}

-- a record more
pub parts_next : (files : Option Contents) (first old new : LogRecords) (from each to : ℕ) (serves : List Serve) (before after : PartSums) → length (names_of first) ≤ 64 → 1 ≤ each →
    name_of old ≡ name_of first → names_of old ≡ names_of first → names_of new ≡ names_of old → records_given new ≡ records_given old + 1 →
    records_given new ≤ 604801 → ForSome files (λ file. AnswersNext (file (name_of old)) old new (Ok true)) →
    (line : List ℕ) × IsEntry (names_of new) (records_given new) line (record_given new) →
    ((groups from each to : ℕ) (serves : List Serve) (records : List Record) → groups ≤ 64 → 1 ≤ each → length (record_given new).picture ≡ groups →
    (record_given new).second.0 ≡ length records + 1 → (record_given new).second.0 < 2147483648 → PartsUpTo groups from each to serves records before →
    PartsUpTo groups from each to serves (records ++ record_given new ∷ []) after) →
    PartsSoFar files first old from each to serves before → PartsSoFar files first new from each to serves after
parts_next files first old new from each to serves before after few some named same kept given most next said take_it so_far =
    let entry = said.1 in
    let groups : length (record_given new).picture ≡ length (names_of first) =
    (recorded (names_of new) (records_given new) said.0 (record_given new) entry).picture ∙ ap length (kept ∙ same) in
    record {
      records = so_far.records ++ record_given new ∷ [];
      count = omega (arith, given, so_far.count, length-append so_far.records (record_given new ∷ []));
      reads = λ file is begun. rw named at (next file is so_far.records (rw (← named) at (so_far.reads file is begun)));
      parts_are = take_it (length (names_of first)) from each to serves so_far.records few some groups (omega (arith, entry.second, given, so_far.count))
          (omega (arith, entry.second, most)) so_far.parts_are;
    }

-- the end of the log
pub parts_whole : (files : Option Contents) (first old new : LogRecords) (from each to : ℕ) (serves : List Serve) (parts : PartSums) (given : Result (Vec LogSums Global) Stop) → 1 ≤ each →
    name_of old ≡ name_of first → names_of old ≡ names_of first → begins_so old ≡ AtOne → names_given old ≡ false → ForSome files (λ file. AnswersNext (file (name_of old)) old new (Ok false)) →
    IfOk given (λ v. (groups from each to : ℕ) (serves : List Serve) (records : List Record) → 1 ≤ each →
    PartsUpTo groups from each to serves records parts → AreParts groups from each to serves records v.items) → IfErr given (λ stop. stop ≡ Memory) →
    PartsSoFar files first old from each to serves parts →
    ForSome files (λ file. Reads first (file (name_of first)) [] → IsParting (names_of first) (file (name_of first)) from each to serves given)
parts_whole files first old new from each to serves parts (Ok v) some named same one found next all memory so_far file is begun =
    let end = next file is so_far.records (rw (← named) at (so_far.reads file is begun)) in
    record {
      records = so_far.records;
      log = rw (named, same, one, found) at end.0;
      parts_are = all (length (names_of first)) from each to serves so_far.records some so_far.parts_are;
    }
parts_whole files first old new from each to serves parts (Err stop) some named same one found next all memory so_far file is begun =
    subst (IsUnsummed (file (name_of first))) (sym memory) tt

-- a line that is refused, or a read that failed
pub unread_parts : (files : Option Contents) (first old new : LogRecords) (from each to : ℕ) (serves : List Serve) (parts : PartSums) (stop : LogStop) → name_of old ≡ name_of first → begins_so old ≡ AtOne → names_given old ≡ false →
    ForSome files (λ file. AnswersNext (file (name_of old)) old new (Err stop)) → PartsSoFar files first old from each to serves parts →
    ForSome files (λ file. Reads first (file (name_of first)) [] → IsUnsummed (file (name_of first)) (stop_of stop))
unread_parts files first old new from each to serves parts stop named one found next so_far file is begun =
    unread (names_of old) (file (name_of first)) so_far.records stop
    (rw (named, one, found) at (next file is so_far.records (rw (← named) at (so_far.reads file is begun))))

-- the sums of a group are small
small_of : (groups from to : ℕ) (records : List Record) (x : LogSums) → length records ≤ 604801 → AreSumsOf groups from to records x →
    (g : ℕ) (d : GroupSums) → g < groups → IsSmall (slice_index_or x.groups g d)
small_of groups from to records x most is g d inside =
    let few : length (take to records) ≤ 604801 = omega (arith, length-take to records, most) in
    let s = is.sums.groups_are g d inside in
    (omega (arith, few, s.greens_are.over_are.small), omega (arith, few, s.reds_are.over_are.small), omega (arith, few, s.cycles_are.gaps_are.small))

-- what detectors saw that serve a group is small
serves_small : (groups from to : ℕ) (records : List Record) (x : LogSums) → length records ≤ 604801 → AreSumsOf groups from to records x →
    All (λ s. IsServeSmall s.sums) x.serves.items
serves_small groups from to records x most is i d inside =
    let few : length (take to records) ≤ 604801 = omega (arith, length-take to records, most) in
    let s = is.sums.serves_are (omega (arith, few)) i d inside in
    (omega (arith, few, s.per_green_fit), omega (arith, few, s.waits_are.small))

-- a text can be made of what a part adds up to
part_textual : (groups from to : ℕ) (records : List Record) (x : LogSums) → groups ≤ 64 → length records ≤ 604801 → AreSumsOf groups from to records x →
    AreTextual groups x
part_textual groups from to records x few most is = record {
  few = few;
  seconds = omega (arith, is.sums.seconds_are, length-take to records, most);
  small = small_of groups from to records x most is;
  serves = serves_small groups from to records x most is;
}

-- and of each of them
pub parts_textual : (groups from each to : ℕ) (serves : List Serve) (records : List Record) (parts : PartSums) (given : Result (Vec LogSums Global) Stop) →
    groups ≤ 64 → 1 ≤ each → length records ≤ 604801 → PartsUpTo groups from each to serves records parts →
    IfOk given (λ v. (groups from each to : ℕ) (serves : List Serve) (records : List Record) → 1 ≤ each →
    PartsUpTo groups from each to serves records parts → AreParts groups from each to serves records v.items) → IfOk given (λ v. AreAllTextual groups v.items)
parts_textual groups from each to serves records parts (Ok v) few some most are all = λ i d inside.
    part_textual groups (begin_of from each i) (end_of from each to i) records (slice_index_or v.items i d) few most
    ((all groups from each to serves records some are).sums i d inside)
parts_textual groups from each to serves records parts (Err stop) few some most are all = tt
