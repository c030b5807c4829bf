-- The marks of refused commands, faults and fronts.
use Rattle.std.specs.Prelude.{zero, suc, Bool, true, ℕ, ◌+◌, ◌-◌, ◌*◌, ◌<◌, min, List, [], ◌∷◌, ◌++◌, codes, Option, Some, None, false, if◌then◌else◌, ◌==◌, ◌&&◌, ◌||◌}
use Rattle.std.specs.List.{flat_map, fold, list_any}
use Rattle.std.specs.Fmt.{decimal}
use Rattle.std.specs.Option.{ForSome}
use Rattle.sig_types.specs.declared.aspect.Rule.{Rule}
use Rattle.sig_types.specs.declared.aspect.Rule.TheVariants.{Sequence, MinGreen, MinRed, Conflict, Intergreen, Running, WrongStage, NoInterstage}
use Rattle.sig_types.specs.declared.numbers.GroupNo.{GroupNo}
use Rattle.signal_log.specs.Log.{fault_text, stage_refusal_text, turn_text}
use Rattle.log_chart.specs.declared.span.Span.{Span}
use Rattle.log_svg.specs.declared.layout.Layout.{Layout}
use Rattle.log_svg.specs.declared.marks.Refused.{Refused}
use Rattle.log_svg.specs.declared.marks.Refused.TheVariants.{Command, Turn}
use Rattle.log_svg.specs.declared.marks.RefusalMark.{RefusalMark}
use Rattle.log_svg.specs.declared.marks.FaultMark.{FaultMark}
use Rattle.log_svg.specs.declared.fronts.FrontMark.{FrontMark}
use Rattle.log_svg.specs.Layout.{has_row, has_second, middle_of, right_of, y_of}
use Rattle.log_svg.specs.Svg.{across_text, cross_text, label_begin, upright_text}
use Rattle.log_svg.specs.Covers.{covers_text, is_covered, spans_of}

-- the letter of a rule: a large one of a turn, a small one of a stage command
abbrev pub rule_letter : Rule → ℕ
rule_letter Sequence = 83
rule_letter MinGreen = 71
rule_letter MinRed = 82
rule_letter Conflict = 67
rule_letter Intergreen = 73
rule_letter Running = 114
rule_letter WrongStage = 119
rule_letter NoInterstage = 110

-- the rule by which it was refused
abbrev pub rule_of : Refused → Rule
rule_of (Command r) = r.rule
rule_of (Turn r) = r.rule

-- a refused stage command where no group is asked for, and else a refused turn of the group
abbrev pub is_of : Option GroupNo → Refused → Bool
is_of None (Command r) = true
is_of None (Turn r) = false
is_of (Some g) (Command r) = false
is_of (Some g) (Turn r) = r.group.0 == g.0

-- what the log says of it
abbrev pub words_text : List (List ℕ) → Refused → List ℕ
words_text names (Turn r) = turn_text names r
words_text names (Command r) = stage_refusal_text r

-- the marks of a row: the second of the last one, which is still open, and the text so far
pub record Marking : Type 0 where
  pub last : Option ℕ
  pub text : List ℕ

-- the last mark is of this second
abbrev pub is_open : Option ℕ → ℕ → Bool
is_open None t = false
is_open (Some second) t = second == t

-- the end of the last mark
abbrev pub close_text : Option ℕ → List ℕ
close_text None = []
close_text (Some second) = codes "</title></text>\n"

-- the beginning of a mark: the letter in the middle of the second, at this height, and what is told where one points at it
unfoldable pub open_text : Layout → ℕ → RefusalMark → List ℕ
open_text layout y m =
    label_begin (codes "x") (middle_of layout m.second) y ++ rule_letter (rule_of m.refused) ∷ [] ++ codes "<title>" ++ decimal m.second
    ++ codes " refused"

-- a mark begins with the first refusal of its second
abbrev pub next_mark : Layout → ℕ → Option ℕ → RefusalMark → List ℕ
next_mark layout y last m = if is_open last m.second then [] else close_text last ++ open_text layout y m

-- and tells each of them in a line
unfoldable pub told_line : List (List ℕ) → Layout → ℕ → Option ℕ → RefusalMark → List ℕ
told_line names layout y last m = next_mark layout y last m ++ codes "\n" ++ words_text names m.refused

-- a refusal stands in the row of its group, or in that of the stages, in the strip that has its second
abbrev pub is_marked : Layout → Option GroupNo → RefusalMark → Bool
is_marked layout group m = is_of group m.refused && has_second layout m.second

-- what a refusal adds to the marks of a row
abbrev pub mark_text : List (List ℕ) → Layout → Option GroupNo → ℕ → Option ℕ → RefusalMark → List ℕ
mark_text names layout group y last m = if is_marked layout group m then told_line names layout y last m else []

-- the second of the last mark behind it
abbrev pub open_after : Layout → Option GroupNo → Option ℕ → RefusalMark → Option ℕ
open_after layout group last m = if is_marked layout group m then Some m.second else last

-- the marks with one refusal more
abbrev pub with_mark : List (List ℕ) → Layout → Option GroupNo → ℕ → Marking → RefusalMark → Marking
with_mark names layout group y marking m = record {
  last = open_after layout group marking.last m;
  text = marking.text ++ mark_text names layout group y marking.last m;
}

-- the marks of these refusals in a row
abbrev pub marking_of : List (List ℕ) → Layout → Option GroupNo → ℕ → List RefusalMark → Marking
marking_of names layout group y marks = fold (with_mark names layout group y) (record { last = None; text = [] }) marks

-- one mark for each second in which something was refused in a row: the letter of the first rule, and all refusals of the second
unfoldable pub marks_text : List (List ℕ) → Layout → Option GroupNo → ℕ → List RefusalMark → List ℕ
marks_text names layout group y marks =
    (marking_of names layout group y marks).text ++ close_text (marking_of names layout group y marks).last

-- a refused command of groups that there are
abbrev pub IsRefused : ℕ → Refused → Type 0
IsRefused groups (Turn r) = (r.group.0 < groups) × ForSome r.other (λ other. other.0 < groups)
IsRefused groups (Command r) = Unit {0}

-- a cross in the middle of the second, with the words of the log
unfoldable pub fault_mark_text : Layout → ℕ → FaultMark → List ℕ
fault_mark_text layout y m =
    cross_text (middle_of layout m.second - 4) (y + 5) ++ codes "><title>" ++ decimal m.second ++ codes " fault " ++ fault_text (Some m.fault)
    ++ codes "</title></path>\n"

-- the fault, where its second is in the strip
abbrev pub seen_fault : Layout → ℕ → FaultMark → List ℕ
seen_fault layout y m = if has_second layout m.second then fault_mark_text layout y m else []

-- the faults, one after the other
abbrev pub faults_text : Layout → ℕ → List FaultMark → List ℕ
faults_text layout y marks = flat_map (seen_fault layout y) marks

-- the fronts of a detector in a second: the more, the higher
abbrev pub front_text : Layout → ℕ → FrontMark → List ℕ
front_text layout y m = upright_text (codes "t") (middle_of layout m.second) (y + 16 - 3 * min 3 m.fronts) (y + 19)

-- the fronts of one detector in the strip
abbrev pub fronts_of : Layout → ℕ → ℕ → List FrontMark → List ℕ
fronts_of layout y d marks = flat_map (λ m. if m.detector.0 == d && has_second layout m.second then front_text layout y m else []) marks

-- a detector's name
unfoldable pub detector_name : Layout → ℕ → ℕ → List ℕ
detector_name layout y d = label_begin (codes "d") (layout.left - 12) (y + 14) ++ codes "D" ++ decimal d ++ codes "</text>\n"

-- a detector's row: its name, a thin line across, a bar as long as it is covered and its fronts
unfoldable pub detector_text : Layout → ℕ → List FrontMark → List (Span Bool) → ℕ → List ℕ
detector_text layout y marks spans d =
    detector_name layout y d ++ across_text (y + 19) (right_of layout) ++ covers_text layout y d spans ++ fronts_of layout y d marks

-- a detector has a front in the diagram
abbrev pub has_front : List FrontMark → ℕ → Bool
has_front marks d = list_any (λ m. m.detector.0 == d) marks

-- a detector has a row where it has a front or is covered in the diagram
abbrev pub is_told : List FrontMark → List (List (Span Bool)) → ℕ → Bool
is_told marks covers d = has_front marks d || is_covered (spans_of covers d)

-- how many rows a detector has
abbrev pub row_count : List FrontMark → List (List (Span Bool)) → ℕ → ℕ
row_count marks covers d = if is_told marks covers d then 1 else 0

-- how many rows the first n detectors have
unfoldable pub shown_to : List FrontMark → List (List (Span Bool)) → ℕ → ℕ
shown_to marks covers zero = 0
shown_to marks covers (suc n) = shown_to marks covers n + row_count marks covers (n + 1)

-- a detector's row where it has one and that is in the part
abbrev pub shown_text : Layout → ℕ → List FrontMark → List (List (Span Bool)) → ℕ → List ℕ
shown_text layout row marks covers d =
    if is_told marks covers d && has_row layout row then detector_text layout (y_of layout row) marks (spans_of covers d) d else []

-- the rows of the first n detectors, one below the other from this row on
unfoldable pub detectors_text : Layout → ℕ → List FrontMark → List (List (Span Bool)) → ℕ → List ℕ
detectors_text layout row marks covers zero = []
detectors_text layout row marks covers (suc n) =
    detectors_text layout row marks covers n ++ shown_text layout (row + shown_to marks covers n) marks covers (n + 1)
