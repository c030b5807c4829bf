-- What is read of a log, and drawn of it.
use Rattle.std.proofs.Common.{◌≡◌, ◌∙◌, ℕ, ◌+◌, ◌<◌, ◌≤◌, true, false, List, [], ◌∷◌, ◌++◌, length, Option, Ok, Err, refl, sym, arith, inl, inr, length-append}
use Rattle.std.specs.Option.{ForSome}
use Rattle.std.proofs.lemmas.Bool.{cases_lt}
use Rattle.std.proofs.lemmas.List.{get_or_append_left}
use Rattle.std.proofs.Math.Seq.{get_or-append_seam}
use Rattle.sig_io.specs.Outside.{Contents}
use Rattle.sig_types.specs.declared.record.Record.{Record}
use Rattle.log_read.specs.declared.records.LogRecords.{LogRecords}
use Rattle.log_read.specs.declared.refusal.LogStop.{LogStop}
use Rattle.log_read.specs.declared.refusal.LogStop.TheVariants as log
use Rattle.log_read.specs.RecordAnswers.{AnswersNext, Reads, Stops, begin_of, name_of, names_given, names_of, record_given, records_given}
use Rattle.log_read.specs.Records.{IsEntry}
use Rattle.log_read.specs.declared.begin.Begin.TheVariants.{AtOne}
use Rattle.log_svg.specs.declared.diagram.Diagram.{Diagram}
use Rattle.report_seen.specs.declared.diagram_form.Window.{Window}
use Rattle.report_seen.specs.Answers.{EndsEarly, IsDiagramOf, IsUndrawn}
use Rattle.report_seen.specs.Drawn.{AreCovered, AreSaid, IsDrawn}
use Rattle.report_seen.specs.DiagramForm.{IsWindow}
use Rattle.report_seen.specs.Gathered.{history_of, places_of}
use Rattle.report_seen.specs.Notes.{stop_of}
use Rattle.report_seen.proofs.Covering.{cover_whole, spans_count}

-- these records were read of a log, and are drawn
pub record HasDrawn (told : Option Contents) (name : List ℕ) (r : LogRecords) (window : Window) (d : Diagram) : Type 0 where
  pub records : List Record
  pub count : length records ≡ records_given r
  pub said : AreSaid (names_of r) records
  pub reads : ForSome told (λ file. Reads r (file name) records)
  pub drawn : IsDrawn (names_of r) records window.from window.to d
  pub covers : AreCovered records window.from window.to d.covers.items

pub draw_first : (told : Option Contents) (name : List ℕ) (r : LogRecords) (window : Window) (d : Diagram) → records_given r ≡ 0 → ForSome told (λ file. Reads r (file name) []) →
    IsDrawn (names_of r) [] window.from window.to d → AreCovered [] window.from window.to d.covers.items → HasDrawn told name r window d
draw_first told name r window d none reads drawn covers =
    record { records = []; count = sym none; said = λ k e lt. absurd (omega arith); reads = reads; drawn = drawn; covers = covers }

pub said_more : (names : List (List ℕ)) (records : List Record) (r : Record) (n : ℕ) → n ≡ length records + 1 → AreSaid names records → (line : List ℕ) × IsEntry names n line r → AreSaid names (records ++ r ∷ [])
said_more names records r n place said more k d lt = elim (cases_lt k (length records)) [
  | inl old ↦ rw (get_or_append_left records (r ∷ []) d k old) (said k d old)
  | inr new ↦ (
      let last : k ≡ length records = omega (arith, length-append records (r ∷ [])) in
      rw (last, get_or-append_seam records r [] d, ← place) more)
]

pub draw_next : (told : Option Contents) (name : List ℕ) (old new : LogRecords) (window : Window) (d e : Diagram) → IsWindow window → name_of old ≡ name → names_of new ≡ names_of old →
    records_given new ≡ records_given old + 1 → ForSome told (λ file. AnswersNext (file (name_of old)) old new (Ok true)) →
    (line : List ℕ) × IsEntry (names_of new) (records_given new) line (record_given new) →
    ((names : List (List ℕ)) (records : List Record) (w : Window) → IsWindow w → (record_given new).second.0 ≡ length records + 1 → IsDrawn names records w.from w.to d →
    IsDrawn names (records ++ record_given new ∷ []) w.from w.to e) →
    ((records : List Record) → (record_given new).second.0 ≡ length records + 1 → d.to < 2147483648 → AreCovered records d.from d.to d.covers.items →
    AreCovered (records ++ record_given new ∷ []) d.from d.to e.covers.items) → HasDrawn told name old window d → HasDrawn told name new window e
draw_next told name old new window d e is named names given next said take cover drawn =
    let place : records_given new ≡ length drawn.records + 1 = omega (arith, given, drawn.count) in
    record {
      records = drawn.records ++ record_given new ∷ [];
      count = omega (arith, given, drawn.count, length-append drawn.records (record_given new ∷ []));
      said = said_more (names_of new) drawn.records (record_given new) (records_given new) place (rw (← names) at drawn.said) said;
      reads = λ file told_is. rw named at (next file told_is drawn.records (rw (← named) at (drawn.reads file told_is)));
      drawn = rw names (take (names_of old) drawn.records window is (said.1.second ∙ place) drawn.drawn);
      covers = rw (drawn.drawn.from_is, drawn.drawn.to_is) at (cover drawn.records (said.1.second ∙ place) (omega (arith, is.last, drawn.drawn.to_is))
          (rw (drawn.drawn.from_is, drawn.drawn.to_is) drawn.covers));
    }

-- why a log isn't drawn
pub undrawn : (names : List (List ℕ)) (bytes : List ℕ) (records : List Record) (to : ℕ) (stop : LogStop) → Stops false AtOne names bytes records stop → IsUndrawn bytes to (stop_of stop)
undrawn names bytes records to log.Memory is = tt
undrawn names bytes records to log.Fault is = tt
undrawn names bytes records to (log.At line why) is = (names, (records, is))

pub undrawn_next : (told : Option Contents) (name : List ℕ) (old new : LogRecords) (window : Window) (d : Diagram) (stop : LogStop) → name_of old ≡ name → begin_of old ≡ AtOne → names_given old ≡ false →
    ForSome told (λ file. AnswersNext (file (name_of old)) old new (Err stop)) → HasDrawn told name old window d → ForSome told (λ file. IsUndrawn (file name) window.to (stop_of stop))
undrawn_next told name old new window d stop named one found next drawn file is =
    undrawn (names_of old) (file name) drawn.records window.to stop (rw (named, one, found) at (next file is drawn.records (rw (← named) at (drawn.reads file is))))

pub ends_early : (told : Option Contents) (name : List ℕ) (old new : LogRecords) (window : Window) (d : Diagram) (count : ℕ) → name_of old ≡ name → begin_of old ≡ AtOne → names_given old ≡ false → count ≡ records_given new →
    records_given new ≡ records_given old → count < window.to → ForSome told (λ file. AnswersNext (file (name_of old)) old new (Ok false)) → HasDrawn told name old window d →
    ForSome told (λ file. EndsEarly (file name) window.to count)
ends_early told name old new window d count named one found given same early next drawn file is =
    let end = next file is drawn.records (rw (← named) at (drawn.reads file is)) in
    (names_of old, (drawn.records, (rw (named, one, found) at end.0, omega (arith, drawn.count, given, same), early)))

pub draw_whole : (told : Option Contents) (name : List ℕ) (old new : LogRecords) (window : Window) (d : Diagram) (count : ℕ) → IsWindow window → name_of old ≡ name → begin_of old ≡ AtOne → names_given old ≡ false → count ≡ records_given new →
    records_given new ≡ records_given old → window.to ≤ count → ForSome told (λ file. AnswersNext (file (name_of old)) old new (Ok false)) → HasDrawn told name old window d →
    ForSome told (λ file. IsDiagramOf (file name) window d)
draw_whole told name old new window d count window_is named one found given same whole next drawn file is =
    let end = next file is drawn.records (rw (← named) at (drawn.reads file is)) in
    let long : window.to ≤ length drawn.records = omega (arith, drawn.count, given, same, whole) in
    let past : d.chart.past ≡ window.to + 1 = omega (arith, drawn.drawn.past_is, long, window_is.order) in
    record {
      names = names_of old;
      records = drawn.records;
      log = rw (named, one, found) at end.0;
      long = long;
      gathered = record {
        names_are = drawn.drawn.names_are;
        from_is = drawn.drawn.from_is;
        to_is = drawn.drawn.to_is;
        chart = rw past at (drawn.drawn.chart (history_of (length (names_of old)) drawn.records) (λ t le. refl));
        stays = rw past at (drawn.drawn.stays (places_of drawn.records) (λ t le. refl));
        fronts = drawn.drawn.fronts;
        size = spans_count d.covers.items drawn.covers.size;
        covers = cover_whole drawn.records window.from window.to d.covers.items window_is.order long drawn.covers;
        refusals = drawn.drawn.refusals;
        faults = drawn.drawn.faults;
      };
    }
