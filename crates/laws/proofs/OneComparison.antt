-- What `compare` answers is one thing.
use Rattle.std.proofs.Common.{◌≡◌, ◌∙◌, ◌⊎◌, ℕ, ◌-◌, ◌<◌, ◌≤◌, true, false, Bool, List, [], ◌∷◌, ◌++◌, length, take, Option, None, Some, Result, Ok, Err, refl, sym, ap, arith, subst, inl, inr}
use Rattle.std.proofs.lemmas.Bool.{cases_lt}
use Rattle.std.proofs.lemmas.List.{get_or-take}
use Rattle.std.specs.Io.KnownBytes.{append_known}
use Rattle.std.specs.Prelude.{slice_index_or}
use Rattle.sig_io.specs.Outside.{Contents}
use Rattle.sig_types.specs.declared.record.Record.{Record}
use Rattle.log_compare.specs.declared.difference.Difference.{Difference}
use Rattle.log_compare.specs.declared.difference.Difference.TheVariants.{Nowhere, OneEnds, OtherEnds, In}
use Rattle.log_compare.specs.Difference.{EndsFirst, IsDifference, IsFirst}
use Rattle.log_compare.specs.Rows.{rows_of}
use Rattle.log_compare.specs.Sides.{sides_of, sides_text}
use Rattle.log_compare.specs.Text.{difference_text, ends_text, lines_text}
use Rattle.log_read.specs.declared.begin.Begin.TheVariants.{AtOne}
use Rattle.log_read.specs.declared.refusal.LogWhy.{LogWhy}
use Rattle.log_read.specs.Laws.{OneFound, OneHeader}
use Rattle.log_read.specs.Log.{line_at}
use Rattle.log_read.specs.Watchers.{told_lines}
use Rattle.log_read.specs.Whys.{why_name}
use Rattle.log_sums.specs.declared.sums.LogSums.{LogSums}
use Rattle.log_sums.specs.Serves.{serves_of}
use Rattle.log_sums.specs.Summed.{AreSumsOf}
use Rattle.sums_text.specs.Table.{table_text}
use Rattle.report_words.specs.declared.status.Status.{Status}
use Rattle.report_words.specs.declared.status.Status.TheVariants as status
use Rattle.report_words.specs.declared.stop.JudgeStop.{JudgeStop}
use Rattle.report_words.specs.declared.stop.JudgeStop.TheVariants as stop
use Rattle.report_words.specs.Notes.{line_note, stop_note}
use Rattle.report_seen.specs.Answers.{IsRefusedAt}
use Rattle.report_seen.specs.CompareCall as compare
use Rattle.report_seen.specs.CompareForm as compare_form
use Rattle.report_seen.specs.Loaded.{IsFault, IsUnloaded}
use Rattle.report_seen.specs.Summed.{AreSumsIn}
use Rattle.report_seen.specs.Told.{IsFound, IsTextOf, beginning_text, differs}
use Rattle.laws.specs.OneAnswer.{BeginAlike, Call, WentWell}
use Rattle.laws.specs.OneShown.{ComparisonsHaveOneAnswer}
use Rattle.laws.proofs.OneJudgement.{never, noted, same_refusal}
use Rattle.laws.proofs.OneSums.{few_records, sums_once, table_alike}

-- ---- the first difference of two logs

-- a record of a list that has some
some_of : (rs : List Record) → 1 ≤ length rs → Record
some_of [] some = absurd (omega (arith, some))
some_of (r ∷ rs) some = r

-- logs don't differ first in two seconds
not_sooner : (s t : ℕ) (rs ss : List Record) → IsFirst s rs ss → IsFirst t rs ss → s < t → ⊥
not_sooner s t rs ss x y less =
    let d = some_of rs (omega (arith, x.some, x.one)) in
    let inside : s - 1 < t - 1 = omega (arith, less, x.some) in
    x.differs d (sym (get_or-take (t - 1) rs (s - 1) d inside) ∙ ap (λ xs. slice_index_or xs (s - 1) d) y.before
    ∙ get_or-take (t - 1) ss (s - 1) d inside)

-- nor in a second that both have, where one of them ends first
not_inside : (last s : ℕ) (rs ss : List Record) → EndsFirst last rs ss → IsFirst s rs ss → ⊥
not_inside last s rs ss x y =
    let d = some_of rs (omega (arith, y.some, y.one)) in
    let inside : s - 1 < last = omega (arith, y.some, y.one, x.count) in
    y.differs d (ap (λ xs. slice_index_or xs (s - 1) d) (sym x.same) ∙ get_or-take last ss (s - 1) d inside)

not_other : (last s : ℕ) (rs ss : List Record) → EndsFirst last ss rs → IsFirst s rs ss → ⊥
not_other last s rs ss x y =
    let d = some_of rs (omega (arith, y.some, y.one)) in
    let inside : s - 1 < last = omega (arith, y.some, y.other, x.count) in
    y.differs d (sym (get_or-take last rs (s - 1) d inside) ∙ ap (λ xs. slice_index_or xs (s - 1) d) x.same)

not_nowhere : (s : ℕ) (rs ss : List Record) → rs ≡ ss → IsFirst s rs ss → ⊥
not_nowhere s rs ss same y =
    let d = some_of rs (omega (arith, y.some, y.one)) in y.differs d (ap (λ xs. slice_index_or xs (s - 1) d) same)

-- where neither ends first
not_ended : (last : ℕ) (rs ss : List Record) → rs ≡ ss → EndsFirst last rs ss → ⊥
not_ended last rs ss same x = let size = ap length same in omega (arith, size, x.count, x.goes_on)

not_ended_either : (last : ℕ) (rs ss : List Record) → rs ≡ ss → EndsFirst last ss rs → ⊥
not_ended_either last rs ss same x = let size = ap length same in omega (arith, size, x.count, x.goes_on)

not_both : (last end : ℕ) (rs ss : List Record) → EndsFirst last rs ss → EndsFirst end ss rs → ⊥
not_both last end rs ss x y = omega (arith, x.count, x.goes_on, y.count, y.goes_on)

-- what is told of a difference is one thing
module _ (names : List (List ℕ)) (word other bytes others : List ℕ) (rs ss : List Record) where
  abbrev IsSame : Difference → Difference → Type 0
  IsSame d e = (differs (Some d) ≡ differs (Some e)) × (difference_text names word other d ≡ difference_text names word other e)

  difference_once : (d e : Difference) → IsDifference bytes others rs ss d → IsDifference bytes others rs ss e → IsSame d e
  difference_once Nowhere Nowhere x y = (refl, refl)
  difference_once Nowhere (OneEnds last) x y = absurd (not_ended last rs ss x y)
  difference_once Nowhere (OtherEnds last) x y = absurd (not_ended_either last rs ss x y)
  difference_once Nowhere (In second one two) x y = absurd (not_nowhere second rs ss x y.0)
  difference_once (OneEnds last) Nowhere x y = absurd (not_ended last rs ss y x)
  difference_once (OneEnds last) (OneEnds end) x y = (refl, ap (λ n. ends_text n word) (sym x.count ∙ y.count))
  difference_once (OneEnds last) (OtherEnds end) x y = absurd (not_both last end rs ss x y)
  difference_once (OneEnds last) (In second one two) x y = absurd (not_inside last second rs ss x y.0)
  difference_once (OtherEnds last) Nowhere x y = absurd (not_ended_either last rs ss y x)
  difference_once (OtherEnds last) (OneEnds end) x y = absurd (not_both end last rs ss y x)
  difference_once (OtherEnds last) (OtherEnds end) x y = (refl, ap (λ n. ends_text n other) (sym x.count ∙ y.count))
  difference_once (OtherEnds last) (In second one two) x y = absurd (not_other last second rs ss x y.0)
  difference_once (In second one two) Nowhere x y = absurd (not_nowhere second rs ss y x.0)
  difference_once (In second one two) (OneEnds end) x y = absurd (not_inside end second rs ss y x.0)
  difference_once (In second one two) (OtherEnds end) x y = absurd (not_other end second rs ss y x.0)
  difference_once (In second one two) (In second' one' two') x y =
      let here : second ≡ second' = elim (cases_lt second second') [
        | inl less ↦ absurd (not_sooner second second' rs ss x.0 y.0 less)
        | inr ge ↦ elim (cases_lt second' second) [
          | inl less ↦ absurd (not_sooner second' second rs ss y.0 x.0 less)
          | inr le ↦ omega (arith, ge, le)
        ]
      ] in
      let ones : one.now ≡ one'.now = sym x.1.0 ∙ ap (line_at (told_lines bytes)) here ∙ y.1.0 in
      let twos : two.now ≡ two'.now = sym x.1.1 ∙ ap (line_at (told_lines others)) here ∙ y.1.1 in
      (refl, λ j. lines_text (here j) names (ones j) (twos j))

-- ---- what is told

-- the sums of an accepted log are told as one table
table_once : OneFound → OneHeader → (names others : List (List ℕ)) (bytes : List ℕ) (x y : LogSums) → AreSumsIn names bytes 1 604801 x →
    AreSumsIn others bytes 1 604801 y → serves_of x.serves.items ≡ [] → serves_of y.serves.items ≡ [] → table_text names x ≡ table_text others y
table_once found header names others bytes x y p q none other_none =
    let same : names ≡ others = header AtOne names others bytes p.records q.records p.log q.log in
    let records : p.records ≡ q.records = (found AtOne names others bytes p.records q.records None None p.log q.log).0 in
    let here : AreSumsOf (length others) 1 604801 q.records x = subst (λ ns. AreSumsOf (length ns) 1 604801 q.records x) same
    (subst (λ rs. AreSumsOf (length names) 1 604801 rs x) records p.summed) in
    let few = few_records others bytes q.records q.log in
    ap (λ ns. table_text ns x) same
    ∙ table_alike others x y (sums_once (length others) 1 604801 q.records x y few (none ∙ sym other_none) here q.summed)

-- whether two logs differ, and the beginning of the text
beginning_once : (asked : compare_form.Asked) (names others : List (List ℕ)) (bytes other_bytes : List ℕ) (rs ss : List Record) (d e : Option Difference) →
    IsFound names others bytes other_bytes rs ss d → IsFound names others bytes other_bytes rs ss e →
    (differs d ≡ differs e) × (beginning_text asked names others d ≡ beginning_text asked names others e)
beginning_once asked names others bytes other_bytes rs ss None None x y = (refl, refl)
beginning_once asked names others bytes other_bytes rs ss None (Some e) x y = absurd (x y.0)
beginning_once asked names others bytes other_bytes rs ss (Some d) None x y = absurd (y x.0)
beginning_once asked names others bytes other_bytes rs ss (Some d) (Some e) x y =
    difference_once names asked.one asked.other bytes other_bytes rs ss d e x.1 y.1

compared_once : OneFound → OneHeader → (asked : compare_form.Asked) (bytes other_bytes : List ℕ) (differ other_differ : Bool) (a b : List ℕ) →
    IsTextOf asked bytes other_bytes differ a → IsTextOf asked bytes other_bytes other_differ b → (differ ≡ other_differ) × (a ≡ b)
compared_once found header asked bytes other_bytes differ other_differ a b x y =
    let names : x.names ≡ y.names = header AtOne x.names y.names bytes x.sums_are.records y.sums_are.records x.sums_are.log y.sums_are.log in
    let others : x.others ≡ y.others =
    header AtOne x.others y.others other_bytes x.other_sums_are.records y.other_sums_are.records x.other_sums_are.log y.other_sums_are.log in
    let rs : x.sums_are.records ≡ y.sums_are.records =
    (found AtOne x.names y.names bytes x.sums_are.records y.sums_are.records None None x.sums_are.log y.sums_are.log).0 in
    let ss : x.other_sums_are.records ≡ y.other_sums_are.records =
    (found AtOne x.others y.others other_bytes x.other_sums_are.records y.other_sums_are.records None None x.other_sums_are.log y.other_sums_are.log).0 in
    let here : IsFound y.names y.others bytes other_bytes y.sums_are.records y.other_sums_are.records x.difference =
    subst (λ qs. IsFound y.names y.others bytes other_bytes y.sums_are.records qs x.difference) ss
    (subst (λ ps. IsFound y.names y.others bytes other_bytes ps x.other_sums_are.records x.difference) rs
    (subst (λ os. IsFound y.names os bytes other_bytes x.sums_are.records x.other_sums_are.records x.difference) others
    (subst (λ ns. IsFound ns x.others bytes other_bytes x.sums_are.records x.other_sums_are.records x.difference) names x.found))) in
    let one = beginning_once asked y.names y.others bytes other_bytes y.sums_are.records y.other_sums_are.records x.difference y.difference here y.found in
    let table = table_once found header x.names y.names bytes x.sums y.sums x.sums_are y.sums_are x.unserved y.unserved in
    let other_table = table_once found header x.others y.others other_bytes x.other_sums y.other_sums x.other_sums_are y.other_sums_are
    x.other_unserved y.other_unserved in (
      x.differ_is ∙ one.0 ∙ sym y.differ_is,
      x.text_is
          ∙ (λ j. beginning_text asked (names j) (others j) x.difference ++ sides_text (sides_of (rows_of (table j)) (rows_of (other_table j))))
          ∙ ap (λ t. t ++ sides_text (sides_of (rows_of (table_text y.names y.sums)) (rows_of (table_text y.others y.other_sums)))) one.1 ∙ sym y.text_is,
    )

-- ---- how a call ends

-- a log that is accepted isn't refused
accepted_or_refused : OneFound → (bytes : List ℕ) (line : ℕ) (why : LogWhy) → compare.IsAccepted bytes → IsRefusedAt bytes line why → ⊥
accepted_or_refused found bytes line why is not =
    never (line, why) (found AtOne is.0 not.0 bytes is.1.0 not.1.0 None (Some (line, why)) is.1.1 not.1.1).1

refused_once : OneFound → (bytes : List ℕ) (line line' : ℕ) (why why' : LogWhy) → IsRefusedAt bytes line why → IsRefusedAt bytes line' why' →
    (line ≡ line') × (why ≡ why')
refused_once found bytes line line' why why' x y =
    same_refusal line line' why why' (found AtOne x.0 y.0 bytes x.1.0 y.1.0 (Some (line, why)) (Some (line', why')) x.1.1 y.1.1).1

-- the note of a call, where it has one
abbrev note : Result Bool JudgeStop → Option (List ℕ)
note (Ok differ) = None
note (Err why) = Some (stop_note why)

-- neither want of memory nor a fault ended it
record IsOwn (given : Result Bool JudgeStop) : Type 0 where
  pub found : given ≡ Err stop.Memory → ⊥
  pub read : IsFault given → ⊥
  pub written : given ≡ Err stop.WriteFault → ⊥

abbrev AreSame : (given got : Result Bool JudgeStop) (new other_new : Option (List ℕ)) → Type 0
AreSame given got new other_new = (compare.status_by given ≡ compare.status_by got) × (note given ≡ note got) × (new ≡ other_new)

-- which log is refused, at which line and why
abbrev Refuses : compare_form.Asked → Contents → List ℕ → ℕ → LogWhy → Type 0
Refuses asked file word line why =
    ((word ≡ asked.one) × IsRefusedAt (file asked.one) line why)
    ⊎ (compare.IsAccepted (file asked.one) × ((word ≡ asked.other) × IsRefusedAt (file asked.other) line why))

told_or_refused : OneFound → (asked : compare_form.Asked) (file : Contents) (differ : Bool) (text word : List ℕ) (line : ℕ) (why : LogWhy) →
    IsTextOf asked (file asked.one) (file asked.other) differ text → Refuses asked file word line why → ⊥
told_or_refused found asked file differ text word line why x (inl r) =
    accepted_or_refused found (file asked.one) line why (x.names, (x.sums_are.records, x.sums_are.log)) r.1
told_or_refused found asked file differ text word line why x (inr r) =
    accepted_or_refused found (file asked.other) line why (x.others, (x.other_sums_are.records, x.other_sums_are.log)) r.1.1

note_once : OneFound → (asked : compare_form.Asked) (file : Contents) (word word' : List ℕ) (line line' : ℕ) (why why' : LogWhy) →
    Refuses asked file word line why → Refuses asked file word' line' why' → line_note word line (why_name why) ≡ line_note word' line' (why_name why')
note_once found asked file word word' line line' why why' (inl r) (inl s) =
    let one = refused_once found (file asked.one) line line' why why' r.1 s.1 in λ j. line_note ((r.0 ∙ sym s.0) j) (one.0 j) (why_name (one.1 j))
note_once found asked file word word' line line' why why' (inl r) (inr s) = absurd (accepted_or_refused found (file asked.one) line why s.0 r.1)
note_once found asked file word word' line line' why why' (inr r) (inl s) = absurd (accepted_or_refused found (file asked.one) line' why' r.0 s.1)
note_once found asked file word word' line line' why why' (inr r) (inr s) =
    let one = refused_once found (file asked.other) line line' why why' r.1.1 s.1.1 in
    λ j. line_note ((r.1.0 ∙ sym s.1.0) j) (one.0 j) (why_name (one.1 j))

settled : OneFound → OneHeader → (asked : compare_form.Asked) (file : Contents) (given got : Result Bool JudgeStop) (old new other_old other_new : Option (List ℕ)) →
    old ≡ other_old → IsOwn given → IsOwn got → compare.IsAnswered asked file given old new → compare.IsAnswered asked file got other_old other_new →
    AreSame given got new other_new
settled found header asked file (Ok differ) (Ok other) old new other_old other_new same own owns x y =
    let one = compared_once found header asked (file asked.one) (file asked.other) differ other x.0 y.0 x.1.0 y.1.0 in
    (ap compare.status_for one.0, refl, x.1.1 ∙ (λ j. append_known (same j) (one.1 j)) ∙ sym y.1.1)
settled found header asked file (Ok differ) (Err (stop.RefusedLine at line why)) old new other_old other_new same own owns x y =
    absurd (told_or_refused found asked file differ x.0 at.now line why x.1.0 y.1)
settled found header asked file (Err (stop.RefusedLine at line why)) (Ok other) old new other_old other_new same own owns x y =
    absurd (told_or_refused found asked file other y.0 at.now line why y.1.0 x.1)
settled found header asked file (Err (stop.RefusedLine at line why)) (Err (stop.RefusedLine at' line' why')) old new other_old other_new same own owns x y =
    (refl, ap Some (note_once found asked file at.now at'.now line line' why why' x.1 y.1), x.0 ∙ same ∙ sym y.0)
settled found header asked file (Err stop.Words) got old new other_old other_new same own owns x y = absurd x
settled found header asked file (Err stop.Memory) got old new other_old other_new same own owns x y = absurd (own.found refl)
settled found header asked file (Err (stop.Site why)) got old new other_old other_new same own owns x y = absurd x
settled found header asked file (Err (stop.ReadFault at)) got old new other_old other_new same own owns x y = absurd (own.read tt)
settled found header asked file (Err stop.WriteFault) got old new other_old other_new same own owns x y = absurd (own.written refl)
settled found header asked file given (Err stop.Words) old new other_old other_new same own owns x y = absurd y
settled found header asked file given (Err stop.Memory) old new other_old other_new same own owns x y = absurd (owns.found refl)
settled found header asked file given (Err (stop.Site why)) old new other_old other_new same own owns x y = absurd y
settled found header asked file given (Err (stop.ReadFault at)) old new other_old other_new same own owns x y = absurd (owns.read tt)
settled found header asked file given (Err stop.WriteFault) old new other_old other_new same own owns x y = absurd (owns.written refl)

answers : OneFound → OneHeader → (form : Option compare_form.Asked) (file : Contents) (call other : Call) (given got : Result Bool JudgeStop) →
    BeginAlike file call other → IsOwn given → IsOwn got → compare.IsAnswerTo form call.files call.out given →
    compare.IsAnswerTo form other.files other.out got → AreSame given got call.out.new other.out.new
answers found header None file call other given got begin own owns x y =
    let same : given ≡ got = x.0 ∙ sym y.0 in (ap compare.status_by same, ap note same, x.1 ∙ begin.out ∙ sym y.1)
answers found header (Some asked) file call other given got begin own owns x y =
    settled found header asked file given got call.out.old call.out.new other.out.old other.out.new begin.out own owns
    (x file begin.files) (y file begin.other_files)

note_is : (given : Result Bool JudgeStop) (call : Call) → WentWell call → compare.IsNoted given call.notes →
    call.notes.new ≡ noted call.notes.old (note given)
note_is (Ok differ) call well is = is
note_is (Err why) call well is = is well.noted

own_end : (words : List (List ℕ)) (call : Call) (end : Status) → WentWell call → (end ≡ status.Memory → ⊥) →
    (x : compare.IsReported words call.files call.out call.notes end) → IsOwn x.given
own_end words call end well found x = record {
  found = λ is. found (x.status_is ∙ ap compare.status_by is);
  read = λ is. well.read (x.read_fault is);
  written = λ is. well.written (x.write_fault is);
}

pub comparisons_once : OneFound → OneHeader → ComparisonsHaveOneAnswer
comparisons_once found header words file call other end other_end begin well goes has got x y =
    let alike = answers found header (compare_form.form_of words) file call other x.given y.given begin (own_end words call end well has x)
    (own_end words other other_end goes got y) x.answer y.answer in (
      record {
        status_is = x.status_is ∙ alike.0 ∙ sym y.status_is;
        note_is = note_is x.given call well x.note ∙ (λ j. noted (begin.notes j) (alike.1 j)) ∙ sym (note_is y.given other goes y.note);
      },
      alike.2,
    )
