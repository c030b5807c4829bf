-- What `sums` answers is one thing.
use Rattle.std.proofs.Common.{◌≡◌, ◌∙◌, ℕ, ◌≤◌, true, false, Bool, List, [], ◌∷◌, ◌++◌, length, Option, None, Some, Result, Ok, Err, refl, sym, ap, arith, subst}
use Rattle.std.specs.Io.KnownBytes.{append_known}
use Rattle.std.specs.Prelude.{MatchOption}
use Rattle.sig_io.specs.Outside.{Contents}
use Rattle.sig_types.specs.declared.record.Record.{Record}
use Rattle.log_read.specs.declared.begin.Begin.TheVariants.{AtOne}
use Rattle.log_read.specs.declared.refusal.LogWhy.{LogWhy}
use Rattle.log_read.specs.Fields.{names_in}
use Rattle.log_read.specs.Laws.{OneFound, OneHeader}
use Rattle.log_read.specs.Log.{line_at}
use Rattle.log_read.specs.Watchers.{told_lines}
use Rattle.log_sums.specs.declared.serves.Serve.{Serve}
use Rattle.log_sums.specs.declared.sums.LogSums.{LogSums}
use Rattle.log_sums.specs.Parts.{AreParts}
use Rattle.log_sums.specs.Serves.{serves_of}
use Rattle.log_sums.specs.Summed.{AreSumsOf}
use Rattle.sums_text.specs.Table.{table_text}
use Rattle.report_seen.specs.declared.stop.Stop.{Stop}
use Rattle.report_seen.specs.declared.stop.Stop.TheVariants.{Memory, Words, TooManySeconds, ReadFault, WriteFault, Line, LogEnds}
use Rattle.report_seen.specs.Answers.{IsRefusedAt}
use Rattle.report_seen.specs.Serves.{serves_for}
use Rattle.report_seen.specs.SumsCall.{IsAnswerTo, IsAnswered, IsOfParts, IsWhole, LacksGroup, written_parts, written_text}
use Rattle.report_seen.specs.SumsForm.{Asked, form_of}
use Rattle.laws.specs.OneAnswer.{BeginAlike, Call, WentWell}
use Rattle.laws.specs.OneShown.{SumsHaveOneAnswer}
use Rattle.laws.proofs.OneJudgement.{never, same_refusal}
use Rattle.laws.proofs.OneShown.{IsOwnEnd, IsSettled, told_once}
use Rattle.laws.proofs.OneSums.{AreAlike, AreAllAlike, few_records, lines_alike, parts_alike, parts_once, parts_table_alike, sums_once, table_alike}

same_serves : (o : Option (List Serve)) (a b : List Serve) → o ≡ Some a → o ≡ Some b → a ≡ b
same_serves o a b x y = let is : Some a ≡ Some b = sym x ∙ y in cc

-- the names, where there are any
abbrev those : Option (List (List ℕ)) → List (List ℕ)
those None = []
those (Some names) = names

no_serves : (serves : List Serve) → None ≡ Some serves → ⊥
no_serves serves same = cc

-- a log whose header names each group that is asked for lacks none
lacking : (bytes : List ℕ) (names words : List (List ℕ)) (serves : List Serve) → serves_for names words ≡ Some serves →
    (1 ≤ length (told_lines bytes) → names_in (line_at (told_lines bytes) 0) ≡ Some names) → LacksGroup bytes words → ⊥
lacking bytes names words serves named headed lacks =
    let same : Some lacks.0 ≡ Some names = sym (lacks.1.0.headed (omega arith)) ∙ headed lacks.1.0.inside in
    let none : serves_for names words ≡ None = subst (λ ns. serves_for ns words ≡ None) (ap those same) lacks.1.1 in
    no_serves serves (sym none ∙ named)

-- ---- `sums`

whole_written : (csv : Bool) (names : List (List ℕ)) (x y : LogSums) → AreAlike (length names) x y → written_text csv names x ≡ written_text csv names y
whole_written true names x y alike = table_alike names x y alike
whole_written false names x y alike = lines_alike names x y alike x.detectors y.detectors alike.detectors

parts_written : (csv : Bool) (names : List (List ℕ)) (xs ys : List LogSums) → AreAllAlike (length names) xs ys →
    written_parts csv names xs ≡ written_parts csv names ys
parts_written true names xs ys alike = parts_table_alike names xs ys alike
parts_written false names xs ys alike = parts_alike names xs ys alike

module _ (found : OneFound) (header : OneHeader) (asked : Asked) (file : Contents) where
  whole_once : (a b : List ℕ) → IsWhole asked file a → IsWhole asked file b → a ≡ b
  whole_once a b x y =
      let bytes = file asked.log in
      let names : x.names ≡ y.names = header AtOne x.names y.names bytes x.sums_are.records y.sums_are.records x.sums_are.log y.sums_are.log in
      let records : x.sums_are.records ≡ y.sums_are.records =
      (found AtOne x.names y.names bytes x.sums_are.records y.sums_are.records None None x.sums_are.log y.sums_are.log).0 in
      let served : serves_of x.sums.serves.items ≡ serves_of y.sums.serves.items = x.serves_are
      ∙ same_serves (serves_for y.names asked.serves) x.serves y.serves (subst (λ ns. serves_for ns asked.serves ≡ Some x.serves) names x.named) y.named
      ∙ sym y.serves_are in
      let here : AreSumsOf (length y.names) asked.from asked.to y.sums_are.records x.sums =
      subst (λ ns. AreSumsOf (length ns) asked.from asked.to y.sums_are.records x.sums) names
      (subst (λ rs. AreSumsOf (length x.names) asked.from asked.to rs x.sums) records x.sums_are.summed) in
      let few = few_records y.names bytes y.sums_are.records y.sums_are.log in
      let alike = sums_once (length y.names) asked.from asked.to y.sums_are.records x.sums y.sums few served here y.sums_are.summed in
      x.text_is ∙ ap (λ ns. written_text asked.csv ns x.sums) names ∙ whole_written asked.csv y.names x.sums y.sums alike ∙ sym y.text_is

  of_parts_once : (each : ℕ) (a b : List ℕ) → IsOfParts asked each file a → IsOfParts asked each file b → a ≡ b
  of_parts_once each a b x y =
      let bytes = file asked.log in
      let names : x.names ≡ y.names = header AtOne x.names y.names bytes x.parts_are.records y.parts_are.records x.parts_are.log y.parts_are.log in
      let records : x.parts_are.records ≡ y.parts_are.records =
      (found AtOne x.names y.names bytes x.parts_are.records y.parts_are.records None None x.parts_are.log y.parts_are.log).0 in
      let serves : x.serves ≡ y.serves =
      same_serves (serves_for y.names asked.serves) x.serves y.serves (subst (λ ns. serves_for ns asked.serves ≡ Some x.serves) names x.named) y.named in
      let here : AreParts (length y.names) asked.from each asked.to y.serves y.parts_are.records x.parts =
      subst (λ ns. AreParts (length ns) asked.from each asked.to y.serves y.parts_are.records x.parts) names
      (subst (λ ss. AreParts (length x.names) asked.from each asked.to ss y.parts_are.records x.parts) serves
      (subst (λ rs. AreParts (length x.names) asked.from each asked.to x.serves rs x.parts) records x.parts_are.parts_are)) in
      let few = few_records y.names bytes y.parts_are.records y.parts_are.log in
      let alike = parts_once (length y.names) asked.from each asked.to y.serves y.parts_are.records x.parts y.parts few here y.parts_are.parts_are in
      x.text_is ∙ ap (λ ns. written_parts asked.csv ns x.parts) names ∙ parts_written asked.csv y.names x.parts y.parts alike ∙ sym y.text_is

  text_once : (each : Option ℕ) (a b : List ℕ) → MatchOption each (IsWhole asked file a) (λ n. IsOfParts asked n file a) →
      MatchOption each (IsWhole asked file b) (λ n. IsOfParts asked n file b) → a ≡ b
  text_once None a b x y = whole_once a b x y
  text_once (Some each) a b x y = of_parts_once each a b x y

  -- a log of which a text is told names each group that is asked for, and no line of it is refused
  told_or_lacking : (each : Option ℕ) (a : List ℕ) → MatchOption each (IsWhole asked file a) (λ n. IsOfParts asked n file a) →
      LacksGroup (file asked.log) asked.serves → ⊥
  told_or_lacking None a x lacks = lacking (file asked.log) x.names asked.serves x.serves x.named x.sums_are.log.0.headed lacks
  told_or_lacking (Some each) a x lacks = lacking (file asked.log) x.names asked.serves x.serves x.named x.parts_are.log.0.headed lacks

  told_or_refused : (each : Option ℕ) (a : List ℕ) (line : ℕ) (why : LogWhy) → MatchOption each (IsWhole asked file a) (λ n. IsOfParts asked n file a) →
      IsRefusedAt (file asked.log) line why → ⊥
  told_or_refused None a line why x refused =
      never (line, why) (found AtOne x.names refused.0 (file asked.log) x.sums_are.records refused.1.0 None (Some (line, why)) x.sums_are.log refused.1.1).1
  told_or_refused (Some each) a line why x refused =
      never (line, why) (found AtOne x.names refused.0 (file asked.log) x.parts_are.records refused.1.0 None (Some (line, why)) x.parts_are.log refused.1.1).1

sums_settled : OneFound → OneHeader → (asked : Asked) (file : Contents) → IsSettled (IsAnswered asked file)
sums_settled found header asked file (Ok a) (Ok b) old new other_old other_new same own owns x y =
    (refl, x.2 ∙ (λ j. append_known (same j) (text_once found header asked file asked.each x.0 y.0 x.1 y.1 j)) ∙ sym y.2)
sums_settled found header asked file (Ok a) (Err Words) old new other_old other_new same own owns x y =
    absurd (told_or_lacking found header asked file asked.each x.0 x.1 y.1)
sums_settled found header asked file (Ok a) (Err (Line line why)) old new other_old other_new same own owns x y =
    absurd (told_or_refused found header asked file asked.each x.0 line why x.1 y.1)
sums_settled found header asked file (Err Words) (Ok b) old new other_old other_new same own owns x y =
    absurd (told_or_lacking found header asked file asked.each y.0 y.1 x.1)
sums_settled found header asked file (Err Words) (Err Words) old new other_old other_new same own owns x y = (refl, x.0 ∙ same ∙ sym y.0)
sums_settled found header asked file (Err Words) (Err (Line line why)) old new other_old other_new same own owns x y = absurd (y.2 x.1)
sums_settled found header asked file (Err (Line line why)) (Ok b) old new other_old other_new same own owns x y =
    absurd (told_or_refused found header asked file asked.each y.0 line why y.1 x.1)
sums_settled found header asked file (Err (Line line why)) (Err Words) old new other_old other_new same own owns x y = absurd (x.2 y.1)
sums_settled found header asked file (Err (Line line why)) (Err (Line line' why')) old new other_old other_new same own owns x y =
    let one = same_refusal line line' why why' (found AtOne x.1.0 y.1.0 (file asked.log) x.1.1.0 y.1.1.0 (Some (line, why)) (Some (line', why'))
    x.1.1.1 y.1.1.1).1 in
    (λ j. Err (Line (one.0 j) (one.1 j)), x.0 ∙ same ∙ sym y.0)
sums_settled found header asked file (Err Memory) got old new other_old other_new same own owns x y = absurd (own.found refl)
sums_settled found header asked file (Err ReadFault) got old new other_old other_new same own owns x y = absurd (own.read refl)
sums_settled found header asked file (Err WriteFault) got old new other_old other_new same own owns x y = absurd (own.written refl)
sums_settled found header asked file (Err TooManySeconds) got old new other_old other_new same own owns x y = absurd x
sums_settled found header asked file (Err (LogEnds last)) got old new other_old other_new same own owns x y = absurd x
sums_settled found header asked file given (Err Memory) old new other_old other_new same own owns x y = absurd (owns.found refl)
sums_settled found header asked file given (Err ReadFault) old new other_old other_new same own owns x y = absurd (owns.read refl)
sums_settled found header asked file given (Err WriteFault) old new other_old other_new same own owns x y = absurd (owns.written refl)
sums_settled found header asked file given (Err TooManySeconds) old new other_old other_new same own owns x y = absurd y
sums_settled found header asked file given (Err (LogEnds last)) old new other_old other_new same own owns x y = absurd y

sums_answered : OneFound → OneHeader → (form : Option Asked) (file : Contents) (call other : Call) (given got : Result (Unit {0}) Stop) →
    BeginAlike file call other → IsOwnEnd given → IsOwnEnd got → IsAnswerTo form call.files call.out given →
    IsAnswerTo form other.files other.out got → (given ≡ got) × (call.out.new ≡ other.out.new)
sums_answered found header None file call other given got begin own owns x y = (x.0 ∙ sym y.0, x.1 ∙ begin.out ∙ sym y.1)
sums_answered found header (Some asked) file call other given got begin own owns x y =
    sums_settled found header asked file given got call.out.old call.out.new other.out.old other.out.new begin.out own owns
    (x file begin.files) (y file begin.other_files)

pub sums_told_once : OneFound → OneHeader → SumsHaveOneAnswer
sums_told_once found header words file call other end other_end begin well goes has got x y =
    told_once words (IsAnswerTo (form_of words)) file call other end other_end x.given y.given begin well goes has got
    (record { answer = x.answer; status_is = x.status_is; note = x.note; read_fault = x.read_fault; write_fault = x.write_fault })
    (record { answer = y.answer; status_is = y.status_is; note = y.note; read_fault = y.read_fault; write_fault = y.write_fault })
    (λ own owns a b. sums_answered found header (form_of words) file call other x.given y.given begin own owns a b)
