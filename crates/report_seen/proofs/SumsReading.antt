-- The records of a log, while it is read.
use Rattle.std.proofs.Common.{◌≡◌, ◌∙◌, ℕ, ◌+◌, ◌-◌, ◌<◌, ◌≤◌, true, false, List, [], ◌∷◌, ◌++◌, get_or, length, take, Option, Some, None, Ok, Err, inl, inr, refl, sym, ap, arith, length-append, lt-ltb, subst}
use Rattle.std.proofs.lemmas.List.{length-take}
use Rattle.std.proofs.lemmas.Bool.{cases_eq}
use Rattle.std.specs.Prelude.{All, nat_lt, slice_index_or}
use Rattle.std.specs.Option.{ForSome}
use Rattle.sig_io.specs.Outside.{Contents}
use Rattle.sig_types.specs.declared.aspect.Aspect.TheVariants.{Red}
use Rattle.sig_types.specs.declared.record.Record.{Record}
use Rattle.log_read.specs.declared.records.LogRecords.{LogRecords}
use Rattle.log_read.specs.declared.refusal.LogStop.{LogStop}
use Rattle.log_read.specs.declared.refusal.LogStop.TheVariants as log
use Rattle.log_read.specs.declared.refusal.LogWhy.{LogWhy}
use Rattle.log_read.specs.declared.begin.Begin.TheVariants.{AtOne}
use Rattle.log_read.specs.RecordAnswers.{AnswersNext, Reads, Stops, begin_of, name_of, names_given, names_of, record_given, records_given}
use Rattle.log_read.specs.Fields.{names_in}
use Rattle.log_read.specs.Readings.{Heads, IsRecords, records_by}
use Rattle.log_read.specs.Log.{HasEntries, line_at, line_reason, reason_at}
use Rattle.log_read.specs.Records.{IsEntry}
use Rattle.log_read.specs.Watchers.{told_lines}
use Rattle.log_read.proofs.Ranges.{recorded}
use Rattle.log_read.specs.Taken.{lines_taken}
use Rattle.report_seen.specs.declared.stop.Stop.TheVariants.{Line}
use Rattle.report_seen.specs.Notes.{stop_of}
use Rattle.log_sums.specs.declared.group.GroupSums.{GroupSums}
use Rattle.log_sums.specs.declared.serves.Serve.{Serve}
use Rattle.log_sums.specs.declared.sums.LogSums.{LogSums}
use Rattle.log_sums.specs.Adding.{AddsUpTo}
use Rattle.log_sums.specs.Summed.{AreSumsOf}
use Rattle.log_sums.specs.Serves.{fronts_of}
use Rattle.log_sums.specs.Told.{shown_by, told}
use Rattle.sums_text.specs.Words.{AreTextual, IsServeSmall, IsSmall}
use Rattle.report_seen.specs.Serves.{serves_for}
use Rattle.report_seen.specs.Summed.{AreSumsIn, IsUnsummed}
use Rattle.report_seen.specs.SumsCall.{LacksGroup}

-- these records were read of a log that was first read so, and what is kept is what they add up to
pub record SoFar (files : Option Contents) (first r : LogRecords) (from to : ℕ) (sums : LogSums) : Type 0 where
  pub records : List Record
  pub count : length records ≡ records_given r
  pub reads : ForSome files (λ file. Reads first (file (name_of first)) [] → Reads r (file (name_of first)) records)
  pub sums_are : AddsUpTo (length (names_of first)) from to records sums

-- no record yet
pub read_first : (files : Option Contents) (first : LogRecords) (from to : ℕ) (sums : LogSums) → records_given first ≡ 0 →
    AddsUpTo (length (names_of first)) from to [] sums → SoFar files first first from to sums
read_first files first from to sums none adds = record {
  records = [];
  count = sym none;
  reads = λ file is begun. begun;
  sums_are = adds;
}

-- a record more
pub read_next : (files : Option Contents) (first old new : LogRecords) (from to : ℕ) (before after : LogSums) → name_of old ≡ name_of first →
    names_of old ≡ names_of first → names_of new ≡ names_of old → records_given new ≡ records_given old + 1 → records_given new ≤ 604801 →
    ForSome files (λ file. AnswersNext (file (name_of old)) old new (Ok true)) →
    (line : List ℕ) × IsEntry (names_of new) (records_given new) line (record_given new) →
    ((groups from to : ℕ) (records : List Record) → length (record_given new).picture ≡ groups → (record_given new).second.0 ≡ length records + 1 →
    (record_given new).second.0 < 2147483648 → AddsUpTo groups from to records before →
    AddsUpTo groups from to (records ++ record_given new ∷ []) after) →
    SoFar files first old from to before → SoFar files first new from to after
read_next files first old new from to before after named same kept given most next said take_it so_far =
    let entry = said.1 in
    let groups : length (record_given new).picture ≡ length (names_of first) =
    (recorded (names_of new) (records_given new) said.0 (record_given new) entry).picture ∙ ap length (kept ∙ same) in
    record {
      records = so_far.records ++ record_given new ∷ [];
      count = omega (arith, given, so_far.count, length-append so_far.records (record_given new ∷ []));
      reads = λ file is begun. rw named at (next file is so_far.records (rw (← named) at (so_far.reads file is begun)));
      sums_are = take_it (length (names_of first)) from to so_far.records groups (omega (arith, entry.second, given, so_far.count))
          (omega (arith, entry.second, most)) so_far.sums_are;
    }

-- the end of the log
pub read_whole : (files : Option Contents) (first old new : LogRecords) (from to : ℕ) (sums : LogSums) → name_of old ≡ name_of first →
    names_of old ≡ names_of first → begin_of old ≡ AtOne → names_given old ≡ false → ForSome files (λ file. AnswersNext (file (name_of old)) old new (Ok false)) →
    ((groups from to : ℕ) (records : List Record) (x : LogSums) → AddsUpTo groups from to records x → AreSumsOf groups from to records x) →
    SoFar files first old from to sums →
    ForSome files (λ file. Reads first (file (name_of first)) [] → AreSumsIn (names_of first) (file (name_of first)) from to sums)
read_whole files first old new from to sums named same one found next law so_far file is begun =
    let end = next file is so_far.records (rw (← named) at (so_far.reads file is begun)) in
    record {
      records = so_far.records;
      log = rw (named, same, one, found) at end.0;
      summed = law (length (names_of first)) from to so_far.records sums so_far.sums_are;
    }

-- why a log is not added up
pub unread : (names : List (List ℕ)) (bytes : List ℕ) (records : List Record) (stop : LogStop) → Stops false AtOne names bytes records stop → IsUnsummed bytes (stop_of stop)
unread names bytes records log.Memory is = tt
unread names bytes records log.Fault is = tt
unread names bytes records (log.At line why) is = (names, (records, is))

-- the first line of a log that was opened names its groups
pub head_named : (r : LogRecords) (bytes : List ℕ) → names_given r ≡ false → Reads r bytes [] → names_in (line_at (told_lines bytes) 0) ≡ Some (names_of r)
unfolding Reads names_of names_given
head_named r bytes found is = subst (λ g. Heads g r.names.items (line_at (told_lines bytes) 0)) found (is.accepted.headed r.some)

-- the header of a log that was opened is accepted
pub head_read : (r : LogRecords) (bytes : List ℕ) → names_given r ≡ false → begin_of r ≡ AtOne → Reads r bytes [] →
    HasEntries (records_by false (names_of r)) 1 (told_lines bytes) 1 []
unfolding Reads names_of names_given begin_of
head_read r bytes found one is =
    let taken : lines_taken r.lines ≡ 1 = omega (arith, r.some, is.accepted.count) in
    rw (found, one, taken) at is.accepted

-- a list is none with an element more
no_longer : (names : List (List ℕ)) → names ≡ [] ∷ names → ⊥
no_longer names same = let size = ap length same in omega (arith, size)

-- the names, where there are any
abbrev those : Option (List (List ℕ)) → List (List ℕ)
those None = []
those (Some names) = names

no_reason : (why : LogWhy) → None ≡ Some why → ⊥
no_reason why same = cc

-- a log whose header is accepted isn't refused when it is opened
pub not_refused : (bytes : List ℕ) (names : List (List ℕ)) (line : ℕ) (why : LogWhy) →
    HasEntries (records_by false names) 1 (told_lines bytes) 1 [] →
    ((any : List (List ℕ)) → IsRecords false AtOne any bytes [] (Some (line, why))) → ⊥
not_refused bytes names line why has refused = elim (cases_eq (line - 1) 0) [
  | inl none ↦
      let reason : reason_at (records_by false names) 1 (told_lines bytes) 0 ≡ Some why =
      subst (λ k. reason_at (records_by false names) 1 (told_lines bytes) k ≡ Some why) none (refused names).1 in
      let some : nat_lt 0 (length (told_lines bytes)) ≡ true = lt-ltb 0 (length (told_lines bytes)) (omega (arith, has.inside)) in
      let same : line_reason (records_by false names) 1 0 (line_at (told_lines bytes) 0) ≡ Some why = rw some at reason in
      absurd (no_reason why (sym (has.accepted 0 (omega arith)) ∙ same))
  | inr more ↦
      let count : 0 ≡ line - 1 - 1 = (refused names).0.count in
      let other : names_in (line_at (told_lines bytes) 0) ≡ Some ([] ∷ names) = (refused ([] ∷ names)).0.headed (omega (arith, more)) in
      let same : Some names ≡ Some ([] ∷ names) = sym (has.headed (omega arith)) ∙ other in
      let one : names ≡ [] ∷ names = ap those same in
      absurd (no_longer names one)
]

-- so where it is refused when it is opened, its header isn't accepted
pub not_opened : (bytes : List ℕ) (words : List (List ℕ)) (stop : LogStop) → ((any : List (List ℕ)) → Stops false AtOne any bytes [] stop) →
    (line : ℕ) (why : LogWhy) → stop_of stop ≡ Line line why → LacksGroup bytes words → ⊥
not_opened bytes words log.Memory is line why same lacks = cc
not_opened bytes words log.Fault is line why same lacks = cc
not_opened bytes words (log.At at for) is line why same lacks = not_refused bytes lacks.0 at for lacks.1.0 is

no_serves : (serves : List Serve) → None ≡ Some serves → ⊥
no_serves serves same = cc

-- the groups of a log that was opened have all names that are asked for
pub not_lacking : (r : LogRecords) (bytes : List ℕ) (words : List (List ℕ)) (serves : List Serve) → names_given r ≡ false → Reads r bytes [] →
    serves_for (names_of r) words ≡ Some serves → LacksGroup bytes words → ⊥
not_lacking r bytes words serves found is named lacks =
    let same : Some lacks.0 ≡ Some (names_of r) = sym (lacks.1.0.headed (omega (arith))) ∙ head_named r bytes found is in
    let one : lacks.0 ≡ names_of r = ap those same in
    let none : serves_for (names_of r) words ≡ None = subst (λ names. serves_for names words ≡ None) one lacks.1.1 in
    absurd (no_serves serves (sym none ∙ named))

-- a line that is refused, or a read that failed
pub unread_next : (files : Option Contents) (first old new : LogRecords) (from to : ℕ) (sums : LogSums) (stop : LogStop) → name_of old ≡ name_of first → begin_of old ≡ AtOne → names_given old ≡ false →
    ForSome files (λ file. AnswersNext (file (name_of old)) old new (Err stop)) → SoFar files first old from to sums →
    ForSome files (λ file. Reads first (file (name_of first)) [] → IsUnsummed (file (name_of first)) (stop_of stop))
unread_next files first old new from to sums stop named one found next so_far file is begun =
    unread (names_of old) (file (name_of first)) so_far.records stop
    (rw (named, one, found) at (next file is so_far.records (rw (← named) at (so_far.reads file is begun))))

-- the sums of a group are small
small_of : (groups from to : ℕ) (records : List Record) (x : LogSums) → length records ≤ 604801 → AddsUpTo groups from to records x →
    (g : ℕ) (d : GroupSums) → g < groups → IsSmall (slice_index_or x.groups g d)
small_of groups from to records x most is g d inside =
    let rs = take to records in
    let few : length rs ≤ 604801 = omega (arith, length-take to records, most) in
    let s = is.sums.groups_are g d inside (told (shown_by g) Red rs) (λ t le. refl) in
    (omega (arith, few, s.greens_are.over_are.small), omega (arith, few, s.reds_are.over_are.small), omega (arith, few, s.cycles_are.gaps_are.small))

-- what detectors saw that serve a group is small
serves_small : (groups from to : ℕ) (records : List Record) (x : LogSums) → length records ≤ 604801 → AddsUpTo groups from to records x →
    All (λ s. IsServeSmall s.sums) x.serves.items
serves_small groups from to records x most is i d inside =
    let rs = take to records in
    let few : length rs ≤ 604801 = omega (arith, length-take to records, most) in
    let s = is.sums.serves_are (omega (arith, few)) i d inside (told (shown_by (get_or x.serves.items i d).serve.group.0) Red rs)
    (told (fronts_of (get_or x.serves.items i d).serve.detectors) 0 rs) (λ t le. refl) (λ t le. refl) in
    (omega (arith, few, s.per_green_fit), omega (arith, few, s.waits_are.small))

-- a text can be made of what a log adds up to
pub textual : (groups from to : ℕ) (records : List Record) (x : LogSums) → groups ≤ 64 → length records ≤ 604801 → AddsUpTo groups from to records x →
    AreTextual groups x
textual groups from to records x few most is = record {
  few = few;
  seconds = omega (arith, is.sums.seconds_are, length-take to records, most);
  small = small_of groups from to records x most is;
  serves = serves_small groups from to records x most is;
}
