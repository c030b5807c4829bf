-- Two logs, compared line by line.
use Rattle.std.proofs.Common.{false, ◌≡◌, ◌∙◌, ℕ, suc, ◌+◌, ◌-◌, ◌<◌, ◌≤◌, List, [], ◌∷◌, ◌++◌, length, get_or, take, drop, None, refl, sym, ap, arith, inl, inr}
use Rattle.std.proofs.lemmas.Bool.{cases_lt}
use Rattle.std.proofs.lemmas.List.{length-drop, take_all}
use Rattle.std.proofs.Math.Seq.{take-suc}
use Rattle.sig_types.specs.declared.record.Record.{Record}
use Rattle.log_read.specs.declared.refusal.LogWhy.TheVariants as why
use Rattle.log_read.specs.Log.{line_at}
use Rattle.log_read.specs.Readings.{IsRecords, records_by}
use Rattle.log_read.specs.declared.begin.Begin.TheVariants.{AtOne}
use Rattle.log_read.specs.Records.{IsEntry}
use Rattle.log_read.specs.Watchers.{told_lines}
use Rattle.log_read.proofs.Entries.{never, no_record}
use Rattle.log_read.proofs.LineLemmas.{head_at}
use Rattle.log_read.proofs.LogLaws.{some_lines}
use Rattle.log_read.proofs.LogLemmas.{too_many}
use Rattle.log_compare.specs.declared.difference.Difference.{Difference}
use Rattle.log_compare.specs.declared.difference.Difference.TheVariants.{Nowhere, OneEnds, OtherEnds, In}
use Rattle.log_compare.specs.declared.difference.Step.TheVariants.{Found}
use Rattle.log_compare.specs.Difference.{EndsFirst, IsDifference, IsFirst}
use Rattle.log_compare.specs.Stepping.{Begins, GoesOn, IsStep, Parts, Stops}

-- an accepted log has a line
pub has_lines : (names : List (List ℕ)) (bytes : List ℕ) (rs : List Record) → IsRecords false AtOne names bytes rs None → 1 ≤ length (told_lines bytes)
has_lines names bytes rs is = some_lines (records_by false names) 1 (told_lines bytes) is.1

-- and not too many
pub few_lines : (names : List (List ℕ)) (bytes : List ℕ) (rs : List Record) → IsRecords false AtOne names bytes rs None → length (told_lines bytes) ≤ 604802
few_lines names bytes rs is = elim (cases_lt 604802 (length (told_lines bytes))) [
  | inl many ↦ absurd (never why.TooManySeconds
      (sym (too_many (records_by false names) 1 604802 (line_at (told_lines bytes) 604802) (omega arith)) ∙ is.0.accepted 604802 many))
  | inr few ↦ few
]

-- the lines of these logs but for the first ones are left, and the records of the first ones are the same
pub record Compared (one other rest other_rest : List ℕ) (second : ℕ) (rs ss : List Record) : Type 0 where
  pub some : 1 ≤ second
  pub left : told_lines rest ≡ drop second (told_lines one)
  pub other_left : told_lines other_rest ≡ drop second (told_lines other)
  pub inside : second ≤ length (told_lines one)
  pub other_inside : second ≤ length (told_lines other)
  pub same : take (second - 1) rs ≡ take (second - 1) ss

-- behind the headers
pub compared_first : (names : List (List ℕ)) (one other rest other_rest : List ℕ) (rs ss : List Record) → told_lines rest ≡ drop 1 (told_lines one) →
    told_lines other_rest ≡ drop 1 (told_lines other) → IsRecords false AtOne names one rs None → IsRecords false AtOne names other ss None → Compared one other rest other_rest 1 rs ss
compared_first names one other rest other_rest rs ss left other_left is too = record {
  some = omega arith;
  left = left;
  other_left = other_left;
  inside = has_lines names one rs is;
  other_inside = has_lines names other ss too;
  same = refl;
}

-- the record of a second, by its line
record At (names : List (List ℕ)) (bytes : List ℕ) (second : ℕ) (rs : List Record) (line : List ℕ) : Type 0 where
  inside : second - 1 < length rs
  line_is : line_at (told_lines bytes) second ≡ line
  entry : (d : Record) → IsEntry names second line (get_or rs (second - 1) d)
  more : second < length (told_lines bytes)

at_line : (names : List (List ℕ)) (bytes rest after line : List ℕ) (second : ℕ) (rs : List Record) → 1 ≤ second → told_lines rest ≡ drop second (told_lines bytes) →
    Begins rest line after → IsRecords false AtOne names bytes rs None → At names bytes second rs line
at_line names bytes rest after line second rs some left begins is =
    let head = head_at (told_lines bytes) second line (told_lines after) (sym left ∙ begins) in
    let inside : second - 1 < length rs = omega (arith, head.inside, is.0.count) in
    let place : second - 1 + 1 ≡ second = omega (arith, some) in
    let number : 1 + (second - 1) ≡ second = omega (arith, some) in
    record {
      inside = inside;
      line_is = head.here;
      entry = λ d. rw (← head.here) (rw (number, place) at (is.0.entries_are (second - 1) d inside));
      more = head.inside;
    }

-- what is left behind a line more
after_line : (bytes rest after line : List ℕ) (second : ℕ) → told_lines rest ≡ drop second (told_lines bytes) → Begins rest line after →
    told_lines after ≡ drop (second + 1) (told_lines bytes)
after_line bytes rest after line second left begins =
    sym (head_at (told_lines bytes) second line (told_lines after) (sym left ∙ begins)).after

-- the first records, with one more
with_next : (second : ℕ) (rs : List Record) → 1 ≤ second → second - 1 < length rs →
    take (second + 1 - 1) rs ≡ take (second - 1) rs ++ get_or rs (second - 1) no_record ∷ []
with_next second rs some inside =
    let next : second + 1 - 1 ≡ suc (second - 1) = omega (arith, some) in
    rw next (take-suc rs (second - 1) no_record inside)

-- lines that say the same
pub compared_next : (names : List (List ℕ)) (one other rest other_rest after other_after : List ℕ) (second : ℕ) (rs ss : List Record) →
    GoesOn names second rest other_rest after other_after → IsRecords false AtOne names one rs None → IsRecords false AtOne names other ss None →
    Compared one other rest other_rest second rs ss → Compared one other after other_after (second + 1) rs ss
compared_next names one other rest other_rest after other_after second rs ss on is too so =
    let at = at_line names one rest after on.line second rs so.some so.left on.begins is in
    let bt = at_line names other other_rest other_after on.other_line second ss so.some so.other_left on.other_begins too in
    let same = on.same (get_or rs (second - 1) no_record) (get_or ss (second - 1) no_record) (at.entry no_record) (bt.entry no_record) in
    record {
      some = omega arith;
      left = after_line one rest after on.line second so.left on.begins;
      other_left = after_line other other_rest other_after on.other_line second so.other_left on.other_begins;
      inside = omega (arith, at.more);
      other_inside = omega (arith, bt.more);
      same = with_next second rs so.some at.inside ∙ ap (λ (xs : List Record). xs ++ get_or rs (second - 1) no_record ∷ []) so.same
          ∙ ap (λ (x : Record). take (second - 1) ss ++ x ∷ []) same ∙ sym (with_next second ss so.some bt.inside);
    }

-- no line is left
over : (names : List (List ℕ)) (bytes rest : List ℕ) (second : ℕ) (rs : List Record) → told_lines rest ≡ drop second (told_lines bytes) → told_lines rest ≡ [] →
    second ≤ length (told_lines bytes) → IsRecords false AtOne names bytes rs None → length rs ≡ second - 1
over names bytes rest second rs left none inside is =
    let gone : length (drop second (told_lines bytes)) ≡ 0 = ap length (sym left ∙ none) in
    omega (arith, length-drop second (told_lines bytes), gone, is.0.count)

-- a line is left
not_over : (names : List (List ℕ)) (bytes rest : List ℕ) (second : ℕ) (rs : List Record) → told_lines rest ≡ drop second (told_lines bytes) → 0 < length (told_lines rest) →
    1 ≤ second → IsRecords false AtOne names bytes rs None → second - 1 < length rs
not_over names bytes rest second rs left some first is =
    let more : 0 < length (drop second (told_lines bytes)) = omega (arith, ap length left) in
    omega (arith, length-drop second (told_lines bytes), more, is.0.count)

-- one log ends
ends : (names : List (List ℕ)) (one other rest other_rest : List ℕ) (second last : ℕ) (rs ss : List Record) → Stops second last rest other_rest →
    IsRecords false AtOne names one rs None → IsRecords false AtOne names other ss None → Compared one other rest other_rest second rs ss → EndsFirst last rs ss
ends names one other rest other_rest second last rs ss stop is too so =
    let count = over names one rest second rs so.left stop.over so.inside is in
    let more = not_over names other other_rest second ss so.other_left stop.more so.some too in
    record {
      count = count ∙ sym stop.last_is;
      goes_on = omega (arith, more, stop.last_is);
      same = rw stop.last_is (sym so.same ∙ take_all (second - 1) rs (omega (arith, count)));
    }

turned : (one other rest other_rest : List ℕ) (second : ℕ) (rs ss : List Record) → Compared one other rest other_rest second rs ss →
    Compared other one other_rest rest second ss rs
turned one other rest other_rest second rs ss so = record {
  some = so.some;
  left = so.other_left;
  other_left = so.left;
  inside = so.other_inside;
  other_inside = so.inside;
  same = sym so.same;
}

-- lines that say different records
differ : (names : List (List ℕ)) (one other rest other_rest line other_line : List ℕ) (second : ℕ) (rs ss : List Record) →
    Parts names second rest other_rest line other_line → IsRecords false AtOne names one rs None → IsRecords false AtOne names other ss None → Compared one other rest other_rest second rs ss →
    IsFirst second rs ss × ((line_at (told_lines one) second ≡ line) × (line_at (told_lines other) second ≡ other_line))
differ names one other rest other_rest line other_line second rs ss parts is too so =
    let at = at_line names one rest parts.rest line second rs so.some so.left parts.begins is in
    let bt = at_line names other other_rest parts.other_rest other_line second ss so.some so.other_left parts.other_begins too in
    let first : IsFirst second rs ss = record {
      some = so.some;
      one = omega (arith, at.inside);
      other = omega (arith, bt.inside);
      before = so.same;
      differs = λ d. parts.differs (get_or rs (second - 1) d) (get_or ss (second - 1) d) (at.entry d) (bt.entry d);
    } in
    (first, (at.line_is, bt.line_is))

-- what the next lines show
pub found : (names : List (List ℕ)) (one other rest other_rest : List ℕ) (second : ℕ) (d : Difference) (rs ss : List Record) →
    IsStep names second rest other_rest (Found d) → IsRecords false AtOne names one rs None → IsRecords false AtOne names other ss None → Compared one other rest other_rest second rs ss →
    IsDifference one other rs ss d
found names one other rest other_rest second Nowhere rs ss step is too so =
    let count = over names one rest second rs so.left step.0 so.inside is in
    let other_count = over names other other_rest second ss so.other_left step.1 so.other_inside too in
    sym (take_all (second - 1) rs (omega (arith, count))) ∙ so.same ∙ take_all (second - 1) ss (omega (arith, other_count))
found names one other rest other_rest second (OneEnds last) rs ss step is too so = ends names one other rest other_rest second last rs ss step is too so
found names one other rest other_rest second (OtherEnds last) rs ss step is too so =
    ends names other one other_rest rest second last ss rs step too is (turned one other rest other_rest second rs ss so)
found names one other rest other_rest second (In at line other_line) rs ss step is too so =
    rw step.0 (differ names one other rest other_rest line.now other_line.now second rs ss step.1 is too so)
