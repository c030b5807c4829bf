-- What is shown of a log is one thing.
use Rattle.std.proofs.Common.{◌≡◌, ◌∙◌, ℕ, zero, suc, ◌+◌, ◌<◌, ◌≤◌, false, Bool, List, [], ◌∷◌, length, Option, None, Some, Result, Ok, Err, refl, sym, ap, arith, subst}
use Rattle.std.specs.Io.KnownBytes.{append_known}
use Rattle.std.specs.Option.{ForSome}
use Rattle.std.specs.Prelude.{reverse, slice_index_or}
use Rattle.sig_io.specs.Outside.{Contents, Rose}
use Rattle.sig_io.specs.Seen.{Seen}
use Rattle.sig_types.specs.declared.record.Record.{Record}
use Rattle.log_chart.specs.declared.span.Span.{Span}
use Rattle.log_chart.specs.Spans.{AreSpans, IsChart}
use Rattle.log_chart.proofs.OneChart.{one_chart, one_row}
use Rattle.log_read.specs.declared.begin.Begin.TheVariants.{Anywhere, AtOne}
use Rattle.log_read.specs.declared.refusal.LogWhy.{LogWhy}
use Rattle.log_read.specs.Laws.{OneFound, OneHeader}
use Rattle.log_read.specs.Readings.{IsRecords}
use Rattle.log_svg.specs.declared.diagram.Diagram.{Diagram as Drawn}
use Rattle.log_svg.specs.Diagram.{Shown, diagram_text}
use Rattle.log_svg.specs.ShownIn.{shown_in}
use Rattle.report_seen.specs.declared.diagram_form.Window.{Window}
use Rattle.report_seen.specs.declared.stop.Status.{Status}
use Rattle.report_seen.specs.declared.stop.Status.TheVariants as status
use Rattle.report_seen.specs.declared.stop.Stop.{Stop}
use Rattle.report_seen.specs.declared.stop.Stop.TheVariants.{Memory, Words, TooManySeconds, ReadFault, WriteFault, Line, LogEnds}
use Rattle.report_seen.specs.Answers.{IsDiagramOf, IsUndrawn}
use Rattle.report_seen.specs.DiagramCall.{IsNoted, status_by}
use Rattle.report_seen.specs.DiagramCall as diagram
use Rattle.report_seen.specs.DiagramForm as diagram_form
use Rattle.report_seen.specs.Gathered.{IsGathered, covered_in, faults_in, fronts_in, history_of, places_of, refusals_in, window_in}
use Rattle.report_seen.specs.Letters.{letters_text}
use Rattle.report_seen.specs.Lost.{lost_starts}
use Rattle.report_seen.specs.LostCall as lost
use Rattle.report_seen.specs.LostForm as lost_form
use Rattle.report_seen.specs.LostText.{lost_text}
use Rattle.report_seen.specs.Notes.{stop_note}
use Rattle.laws.specs.OneAnswer.{BeginAlike, Call, EndAlike, WentWell, WroteAlike}
use Rattle.laws.specs.OneShown.{DiagramsHaveOneAnswer, LostHasOneAnswer, SettlesAnswers}
use Rattle.laws.proofs.OneJudgement.{never, same_refusal}

-- ---- how a call ends

-- neither want of memory nor a fault ended it
pub record IsOwnEnd (given : Result (Unit {0}) Stop) : Type 0 where
  pub found : given ≡ Err Memory → ⊥
  pub read : given ≡ Err ReadFault → ⊥
  pub written : given ≡ Err WriteFault → ⊥

-- of two answers to what is asked for, that neither want of memory nor a fault ended, one is had, and one is written
abbrev pub IsSettled : (Result (Unit {0}) Stop → Option (List ℕ) → Option (List ℕ) → Type 0) → Type 0
IsSettled Is = (given got : Result (Unit {0}) Stop) (old new other_old other_new : Option (List ℕ)) → old ≡ other_old → IsOwnEnd given →
    IsOwnEnd got → Is given old new → Is got other_old other_new → (given ≡ got) × (new ≡ other_new)

-- what is seen of a call that is told so
pub record IsTold (words : List (List ℕ)) (IsAnswer : Seen Contents → Seen (List ℕ) → Result (Unit {0}) Stop → Type 0) (call : Call) (end : Status)
    (given : Result (Unit {0}) Stop) : Type 0 where
  pub answer : IsAnswer call.files call.out given
  pub status_is : end ≡ status_by given
  pub note : IsNoted words given call.notes
  pub read_fault : given ≡ Err ReadFault → Rose call.files.before call.files.after
  pub write_fault : given ≡ Err WriteFault → Rose call.out.before call.out.after

-- the note of a call
abbrev noted : List (List ℕ) → Option (List ℕ) → Result (Unit {0}) Stop → Option (List ℕ)
noted words old (Ok x) = old
noted words old (Err stop) = append_known old (stop_note words stop)

note_is : (words : List (List ℕ)) (given : Result (Unit {0}) Stop) (call : Call) → WentWell call → IsNoted words given call.notes →
    call.notes.new ≡ noted words call.notes.old given
note_is words (Ok x) call well is = is
note_is words (Err stop) call well is = is well.noted

own_end : (words : List (List ℕ)) (IsAnswer : Seen Contents → Seen (List ℕ) → Result (Unit {0}) Stop → Type 0) (call : Call) (end : Status)
    (given : Result (Unit {0}) Stop) → WentWell call → (end ≡ status.Memory → ⊥) → IsTold words IsAnswer call end given → IsOwnEnd given
own_end words IsAnswer call end given well found told = record {
  found = λ is. found (told.status_is ∙ ap status_by is);
  read = λ is. well.read (told.read_fault is);
  written = λ is. well.written (told.write_fault is);
}

-- two calls that are told alike
pub told_once : (words : List (List ℕ)) (IsAnswer : Seen Contents → Seen (List ℕ) → Result (Unit {0}) Stop → Type 0) (file : Contents)
    (call other : Call) (end other_end : Status) (given got : Result (Unit {0}) Stop) → BeginAlike file call other → WentWell call →
    WentWell other → (end ≡ status.Memory → ⊥) → (other_end ≡ status.Memory → ⊥) → IsTold words IsAnswer call end given →
    IsTold words IsAnswer other other_end got →
    (IsOwnEnd given → IsOwnEnd got → IsAnswer call.files call.out given → IsAnswer other.files other.out got →
    (given ≡ got) × (call.out.new ≡ other.out.new)) → EndAlike call other end other_end × WroteAlike call other
told_once words IsAnswer file call other end other_end given got begin well goes found has x y once =
    let alike = once (own_end words IsAnswer call end given well found x) (own_end words IsAnswer other other_end got goes has y) x.answer y.answer in (
      record {
        status_is = x.status_is ∙ ap status_by alike.0 ∙ sym y.status_is;
        note_is = note_is words given call well x.note ∙ (λ j. noted words (begin.notes j) (alike.0 j)) ∙ sym (note_is words got other goes y.note);
      },
      alike.1,
    )

-- ---- diagrams

-- lists of rows that agree in each place are one
same_rows : {A : Type 0} (xs ys : List (List A)) → length xs ≡ length ys →
    ((p : ℕ) → p < length xs → slice_index_or xs p [] ≡ slice_index_or ys p []) → xs ≡ ys
same_rows [] [] size each = refl
same_rows [] (y ∷ ys) size each = absurd (omega (arith, size))
same_rows (x ∷ xs) [] size each = absurd (omega (arith, size))
same_rows (x ∷ xs) (y ∷ ys) size each =
    ap (λ v. v ∷ xs) (each 0 (omega arith)) ∙ ap (λ vs. y ∷ vs) (same_rows xs ys (omega (arith, size)) (λ p lt. each (suc p) (omega arith)))

-- what is gathered of the records of a log is one thing
gathered_once : (names : List (List ℕ)) (records : List Record) (from to : ℕ) (s t : Shown) → IsGathered names records from to s →
    IsGathered names records from to t → s ≡ t
gathered_once names records from to s t x y =
    let rows = one_chart (history_of (length names) records) (length names) from (to + 1) s.rows t.rows x.chart y.chart in
    let stays = one_row (places_of records) from (to + 1) s.stays t.stays x.stays y.stays in
    let covers = same_rows s.covers t.covers (x.size ∙ sym y.size) (λ p lt.
    one_row (covered_in records p) from (to + 1) (slice_index_or s.covers p []) (slice_index_or t.covers p [])
    (x.covers p (omega (arith, lt, x.size))) (y.covers p (omega (arith, lt, x.size)))) in
    λ i. record {
      names = (x.names_are ∙ sym y.names_are) i;
      from = (x.from_is ∙ sym y.from_is) i;
      to = (x.to_is ∙ sym y.to_is) i;
      rows = rows i;
      stays = stays i;
      fronts = (x.fronts ∙ sym y.fronts) i;
      covers = covers i;
      refusals = (x.refusals ∙ sym y.refusals) i;
      faults = (x.faults ∙ sym y.faults) i;
    }

-- a log has one diagram of a window
pub drawn_once : OneFound → OneHeader → (bytes : List ℕ) (window : Window) (d e : Drawn) → IsDiagramOf bytes window d → IsDiagramOf bytes window e →
    shown_in d ≡ shown_in e
drawn_once found header bytes window d e x y =
    let names : x.names ≡ y.names = header AtOne x.names y.names bytes x.records y.records x.log y.log in
    let records : x.records ≡ y.records = (found AtOne x.names y.names bytes x.records y.records None None x.log y.log).0 in
    gathered_once y.names y.records window.from window.to (shown_in d) (shown_in e)
    (subst (λ ns. IsGathered ns y.records window.from window.to (shown_in d)) names
    (subst (λ rs. IsGathered x.names rs window.from window.to (shown_in d)) records x.gathered)) y.gathered

-- what is drawn of a log isn't told as undrawn
pub drawn_or_not : OneFound → (bytes : List ℕ) (window : Window) (d : Drawn) (stop : Stop) → IsOwnEnd (Err stop) → IsDiagramOf bytes window d →
    IsUndrawn bytes window.to stop → ⊥
drawn_or_not found bytes window d Memory own is not = own.found refl
drawn_or_not found bytes window d Words own is not = not
drawn_or_not found bytes window d TooManySeconds own is not = not
drawn_or_not found bytes window d ReadFault own is not = own.read refl
drawn_or_not found bytes window d WriteFault own is not = own.written refl
drawn_or_not found bytes window d (Line line why) own is not =
    never (line, why) (found AtOne is.names not.0 bytes is.records not.1.0 None (Some (line, why)) is.log not.1.1).1
drawn_or_not found bytes window d (LogEnds last) own is not =
    let same = ap length (found AtOne is.names not.0 bytes is.records not.1.0 None None is.log not.1.1.0).0 in
    omega (arith, same, is.long, not.1.1.1, not.1.1.2)

-- why nothing is drawn is one thing
pub undrawn_once : OneFound → (bytes : List ℕ) (to : ℕ) (stop other : Stop) → IsOwnEnd (Err stop) → IsOwnEnd (Err other) → IsUndrawn bytes to stop →
    IsUndrawn bytes to other → stop ≡ other
undrawn_once found bytes to Memory other own owns x y = absurd (own.found refl)
undrawn_once found bytes to Words other own owns x y = absurd x
undrawn_once found bytes to TooManySeconds other own owns x y = absurd x
undrawn_once found bytes to ReadFault other own owns x y = absurd (own.read refl)
undrawn_once found bytes to WriteFault other own owns x y = absurd (own.written refl)
undrawn_once found bytes to (Line line why) Memory own owns x y = absurd (owns.found refl)
undrawn_once found bytes to (Line line why) Words own owns x y = absurd y
undrawn_once found bytes to (Line line why) TooManySeconds own owns x y = absurd y
undrawn_once found bytes to (Line line why) ReadFault own owns x y = absurd (owns.read refl)
undrawn_once found bytes to (Line line why) WriteFault own owns x y = absurd (owns.written refl)
undrawn_once found bytes to (Line line why) (Line line' why') own owns x y =
    let one = same_refusal line line' why why' (found AtOne x.0 y.0 bytes x.1.0 y.1.0 (Some (line, why)) (Some (line', why')) x.1.1 y.1.1).1 in
    λ i. Line (one.0 i) (one.1 i)
undrawn_once found bytes to (Line line why) (LogEnds last) own owns x y =
    absurd (never (line, why) (found AtOne y.0 x.0 bytes y.1.0 x.1.0 None (Some (line, why)) y.1.1.0 x.1.1).1)
undrawn_once found bytes to (LogEnds last) Memory own owns x y = absurd (owns.found refl)
undrawn_once found bytes to (LogEnds last) Words own owns x y = absurd y
undrawn_once found bytes to (LogEnds last) TooManySeconds own owns x y = absurd y
undrawn_once found bytes to (LogEnds last) ReadFault own owns x y = absurd (owns.read refl)
undrawn_once found bytes to (LogEnds last) WriteFault own owns x y = absurd (owns.written refl)
undrawn_once found bytes to (LogEnds last) (Line line why) own owns x y =
    absurd (never (line, why) (found AtOne x.0 y.0 bytes x.1.0 y.1.0 None (Some (line, why)) x.1.1.0 y.1.1).1)
undrawn_once found bytes to (LogEnds last) (LogEnds last') own owns x y =
    ap LogEnds (sym x.1.1.1 ∙ ap length (found AtOne x.0 y.0 bytes x.1.0 y.1.0 None None x.1.1.0 y.1.1.0).0 ∙ y.1.1.1)

-- the text that is asked for is one
text_once : OneFound → OneHeader → (asked : diagram_form.Asked) (file : Contents) (a b : List ℕ) → diagram.IsTextOf asked file a →
    diagram.IsTextOf asked file b → a ≡ b
text_once found header diagram_form.Help file a b x y = x ∙ sym y
text_once found header diagram_form.Version file a b x y = x ∙ sym y
text_once found header (diagram_form.Diagram log window look) file a b x y =
    x.2 ∙ ap (λ s. diagram_text s look) (drawn_once found header (file log) window x.0 y.0 x.1 y.1) ∙ sym y.2
text_once found header (diagram_form.Text log window) file a b x y =
    x.2 ∙ ap letters_text (drawn_once found header (file log) window x.0 y.0 x.1 y.1) ∙ sym y.2

-- a text that is asked for, and none
text_or_not : OneFound → (asked : diagram_form.Asked) (file : Contents) (text : List ℕ) (stop : Stop) → IsOwnEnd (Err stop) →
    diagram.IsTextOf asked file text → diagram.HasNoText asked file stop → ⊥
text_or_not found diagram_form.Help file text stop own is not = not
text_or_not found diagram_form.Version file text stop own is not = not
text_or_not found (diagram_form.Diagram log window look) file text stop own is not = drawn_or_not found (file log) window is.0 stop own is.1 not
text_or_not found (diagram_form.Text log window) file text stop own is not = drawn_or_not found (file log) window is.0 stop own is.1 not

-- why there is none is one thing
none_once : OneFound → (asked : diagram_form.Asked) (file : Contents) (stop other : Stop) → IsOwnEnd (Err stop) → IsOwnEnd (Err other) →
    diagram.HasNoText asked file stop → diagram.HasNoText asked file other → stop ≡ other
none_once found diagram_form.Help file stop other own owns x y = absurd x
none_once found diagram_form.Version file stop other own owns x y = absurd x
none_once found (diagram_form.Diagram log window look) file stop other own owns x y = undrawn_once found (file log) window.to stop other own owns x y
none_once found (diagram_form.Text log window) file stop other own owns x y = undrawn_once found (file log) window.to stop other own owns x y

-- where a call stops nothing is written, and there is no text
stopped : (asked : diagram_form.Asked) (file : Contents) (stop : Stop) (old new : Option (List ℕ)) → IsOwnEnd (Err stop) →
    diagram.IsStopped asked file stop old new → (new ≡ old) × diagram.HasNoText asked file stop
stopped asked file Memory old new own is = is
stopped asked file Words old new own is = absurd is
stopped asked file TooManySeconds old new own is = absurd is
stopped asked file ReadFault old new own is = is
stopped asked file WriteFault old new own is = absurd (own.written refl)
stopped asked file (Line line why) old new own is = is
stopped asked file (LogEnds last) old new own is = is

diagrams_settled : OneFound → OneHeader → (asked : diagram_form.Asked) (file : Contents) → IsSettled (diagram.IsAnswered asked file)
diagrams_settled found header asked file (Ok a) (Ok b) old new other_old other_new same own owns x y =
    (refl, x.2 ∙ (λ j. append_known (same j) (text_once found header asked file x.0 y.0 x.1 y.1 j)) ∙ sym y.2)
diagrams_settled found header asked file (Ok a) (Err stop) old new other_old other_new same own owns x y =
    absurd (text_or_not found asked file x.0 stop owns x.1 (stopped asked file stop other_old other_new owns y).1)
diagrams_settled found header asked file (Err stop) (Ok b) old new other_old other_new same own owns x y =
    absurd (text_or_not found asked file y.0 stop own y.1 (stopped asked file stop old new own x).1)
diagrams_settled found header asked file (Err stop) (Err other) old new other_old other_new same own owns x y =
    let one = stopped asked file stop old new own x in
    let two = stopped asked file other other_old other_new owns y in
    (ap Err (none_once found asked file stop other own owns one.1 two.1), one.0 ∙ same ∙ sym two.0)

diagrams_answered : OneFound → OneHeader → (form : Result diagram_form.Asked Stop) (file : Contents) (call other : Call) (given got : Result (Unit {0}) Stop) →
    BeginAlike file call other → IsOwnEnd given → IsOwnEnd got → diagram.IsAnswerTo form call.files call.out given →
    diagram.IsAnswerTo form other.files other.out got → (given ≡ got) × (call.out.new ≡ other.out.new)
diagrams_answered found header (Err stop) file call other given got begin own owns x y = (x.0 ∙ sym y.0, x.1 ∙ begin.out ∙ sym y.1)
diagrams_answered found header (Ok asked) file call other given got begin own owns x y =
    diagrams_settled found header asked file given got call.out.old call.out.new other.out.old other.out.new begin.out own owns
    (x file begin.files) (y file begin.other_files)

pub diagrams_once : OneFound → OneHeader → DiagramsHaveOneAnswer
diagrams_once found header words file call other end other_end begin well goes has got x y =
    told_once words (diagram.IsAnswerTo (diagram_form.form_of words)) file call other end other_end x.given y.given begin well goes has got
    (record { answer = x.answer; status_is = x.status_is; note = x.note; read_fault = x.read_fault; write_fault = x.write_fault })
    (record { answer = y.answer; status_is = y.status_is; note = y.note; read_fault = y.read_fault; write_fault = y.write_fault })
    (λ own owns a b. diagrams_answered found header (diagram_form.form_of words) file call other x.given y.given begin own owns a b)

-- ---- lost starts

-- the text of lost starts is one
lost_text_once : OneFound → OneHeader → (asked : lost_form.Asked) (bytes a b : List ℕ) → lost.IsLostText asked bytes a → lost.IsLostText asked bytes b →
    a ≡ b
lost_text_once found header asked bytes a b x y =
    let names : x.names ≡ y.names = header Anywhere x.names y.names bytes x.lost.records y.lost.records x.lost.log y.lost.log in
    let records : x.lost.records ≡ y.lost.records =
    (found Anywhere x.names y.names bytes x.lost.records y.lost.records None None x.lost.log y.lost.log).0 in
    let starts : x.starts ≡ y.starts = x.lost.starts_are
    ∙ (λ j. lost_starts (length (names j)) asked.from asked.to (reverse (records j))) ∙ sym y.lost.starts_are in
    x.text_is ∙ (λ j. lost_text asked.csv (names j) (starts j)) ∙ sym y.text_is

lost_settled : OneFound → OneHeader → (asked : lost_form.Asked) (bytes : List ℕ) → IsSettled (lost.IsAnswered asked bytes)
lost_settled found header asked bytes (Ok a) (Ok b) old new other_old other_new same own owns x y =
    (refl, x.2 ∙ (λ j. append_known (same j) (lost_text_once found header asked bytes x.0 y.0 x.1 y.1 j)) ∙ sym y.2)
lost_settled found header asked bytes (Ok a) (Err (Line line why)) old new other_old other_new same own owns x y =
    absurd (never (line, why) (found Anywhere x.1.names y.1.0 bytes x.1.lost.records y.1.1.0 None (Some (line, why)) x.1.lost.log y.1.1.1).1)
lost_settled found header asked bytes (Err (Line line why)) (Ok b) old new other_old other_new same own owns x y =
    absurd (never (line, why) (found Anywhere y.1.names x.1.0 bytes y.1.lost.records x.1.1.0 None (Some (line, why)) y.1.lost.log x.1.1.1).1)
lost_settled found header asked bytes (Err (Line line why)) (Err (Line line' why')) old new other_old other_new same own owns x y =
    let one = same_refusal line line' why why'
    (found Anywhere x.1.0 y.1.0 bytes x.1.1.0 y.1.1.0 (Some (line, why)) (Some (line', why')) x.1.1.1 y.1.1.1).1 in
    (λ j. Err (Line (one.0 j) (one.1 j)), x.0 ∙ same ∙ sym y.0)
lost_settled found header asked bytes (Err Memory) got old new other_old other_new same own owns x y = absurd (own.found refl)
lost_settled found header asked bytes (Err ReadFault) got old new other_old other_new same own owns x y = absurd (own.read refl)
lost_settled found header asked bytes (Err WriteFault) got old new other_old other_new same own owns x y = absurd (own.written refl)
lost_settled found header asked bytes (Err Words) got old new other_old other_new same own owns x y = absurd x
lost_settled found header asked bytes (Err TooManySeconds) got old new other_old other_new same own owns x y = absurd x
lost_settled found header asked bytes (Err (LogEnds last)) got old new other_old other_new same own owns x y = absurd x
lost_settled found header asked bytes given (Err Memory) old new other_old other_new same own owns x y = absurd (owns.found refl)
lost_settled found header asked bytes given (Err ReadFault) old new other_old other_new same own owns x y = absurd (owns.read refl)
lost_settled found header asked bytes given (Err WriteFault) old new other_old other_new same own owns x y = absurd (owns.written refl)
lost_settled found header asked bytes given (Err Words) old new other_old other_new same own owns x y = absurd y
lost_settled found header asked bytes given (Err TooManySeconds) old new other_old other_new same own owns x y = absurd y
lost_settled found header asked bytes given (Err (LogEnds last)) old new other_old other_new same own owns x y = absurd y

lost_answered : OneFound → OneHeader → (form : Option lost_form.Asked) (file : Contents) (call other : Call) (given got : Result (Unit {0}) Stop) →
    BeginAlike file call other → IsOwnEnd given → IsOwnEnd got → lost.IsAnswerTo form call.files call.out given →
    lost.IsAnswerTo form other.files other.out got → (given ≡ got) × (call.out.new ≡ other.out.new)
lost_answered found header None file call other given got begin own owns x y = (x.0 ∙ sym y.0, x.1 ∙ begin.out ∙ sym y.1)
lost_answered found header (Some asked) file call other given got begin own owns x y =
    lost_settled found header asked (file asked.log) given got call.out.old call.out.new other.out.old other.out.new begin.out own owns
    (x file begin.files) (y file begin.other_files)

pub lost_once : OneFound → OneHeader → LostHasOneAnswer
lost_once found header words file call other end other_end begin well goes has got x y =
    told_once words (lost.IsAnswerTo (lost_form.form_of words)) file call other end other_end x.given y.given begin well goes has got
    (record { answer = x.answer; status_is = x.status_is; note = x.note; read_fault = x.read_fault; write_fault = x.write_fault })
    (record { answer = y.answer; status_is = y.status_is; note = y.note; read_fault = y.read_fault; write_fault = y.write_fault })
    (λ own owns a b. lost_answered found header (lost_form.form_of words) file call other x.given y.given begin own owns a b)
