-- The text of a group's row in a diagram.
use Rattle.std.specs.Prelude.{ℕ, ◌+◌, ◌-◌, ◌*◌, ◌/◌, ◌≤◌, max, min, Bool, List, [], ◌++◌, codes}
use Rattle.std.specs.Prelude.{if◌then◌else◌, nat_lt, nat_le, ◌&&◌}
use Rattle.std.specs.List.{flat_map}
use Rattle.std.specs.Fmt.{decimal}
use Rattle.sig_types.specs.declared.aspect.Aspect.{Aspect}
use Rattle.sig_types.specs.declared.aspect.Aspect.TheVariants.{Red, RedAmber, Green, Amber}
use Rattle.log_chart.specs.declared.span.Span.{Span}
use Rattle.log_svg.specs.declared.layout.Layout.{Layout}
use Rattle.log_svg.specs.Layout.{right_of, x_of}

-- an attribute that is a number
unfoldable pub attribute_text : List ℕ → ℕ → List ℕ
attribute_text name n = codes " " ++ name ++ codes "=\"" ++ decimal n ++ codes "\""

-- the beginning of a box of a class, by its upper left corner, its width and its height
unfoldable pub box_begin : List ℕ → ℕ → ℕ → ℕ → ℕ → List ℕ
box_begin class x y width height =
    codes "<rect class=\"" ++ class ++ codes "\"" ++ attribute_text (codes "x") x ++ attribute_text (codes "y") y
    ++ attribute_text (codes "width") width ++ attribute_text (codes "height") height

-- a box of which nothing more is told
unfoldable pub box_text : List ℕ → ℕ → ℕ → ℕ → ℕ → List ℕ
box_text class x y width height = box_begin class x y width height ++ codes "/>\n"

-- a word of a class, at a place
unfoldable pub label_begin : List ℕ → ℕ → ℕ → List ℕ
label_begin class x y =
    codes "<text class=\"" ++ class ++ codes "\"" ++ attribute_text (codes "x") x ++ attribute_text (codes "y") y ++ codes ">"

-- a word of a class, at this place
unfoldable pub label_text : List ℕ → ℕ → ℕ → List ℕ → List ℕ
label_text class x y word = label_begin class x y ++ word ++ codes "</text>\n"

-- a thin line across
unfoldable pub across_text : ℕ → ℕ → List ℕ
across_text y right = codes "<path class=\"b\" d=\"M12 " ++ decimal y ++ codes "H" ++ decimal right ++ codes "\"/>\n"

-- the beginning of a path of a class, at this x
unfoldable pub path_begin : List ℕ → ℕ → List ℕ
path_begin class x = codes "<path class=\"" ++ class ++ codes "\" d=\"M" ++ decimal x ++ codes " "

-- a line down, of a class
unfoldable pub upright_text : List ℕ → ℕ → ℕ → ℕ → List ℕ
upright_text class x top end = path_begin class x ++ decimal top ++ codes "V" ++ decimal end ++ codes "\"/>\n"

-- a cross with this corner, up to the end of its outline
unfoldable pub cross_text : ℕ → ℕ → List ℕ
cross_text x y = path_begin (codes "f") x ++ decimal y ++ codes "l8 8m0 -8l-8 8\""

-- the first of the strip's seconds that the span has
abbrev pub first_in : {T : Type 0} → Layout → Span T → ℕ
first_in layout s = max layout.from s.first.0

-- the last one
abbrev pub last_in : {T : Type 0} → Layout → Span T → ℕ
last_in layout s = min layout.to s.last.0

-- the span has some of the strip's seconds
abbrev pub is_seen : {T : Type 0} → Layout → Span T → Bool
is_seen layout s = nat_le (first_in layout s) (last_in layout s)

-- so that what of it is in the strip can be drawn
abbrev pub IsSeen : {T : Type 0} → Layout → Span T → Type 0
IsSeen layout s = first_in layout s ≤ last_in layout s

-- where that begins
abbrev pub begin_of : {T : Type 0} → Layout → Span T → ℕ
begin_of layout s = x_of layout (first_in layout s)

-- and how wide it is
abbrev pub width_of : {T : Type 0} → Layout → Span T → ℕ
width_of layout s = (last_in layout s + 1 - first_in layout s) * layout.scale

-- the class of an aspect
abbrev pub class_of : Aspect → List ℕ
class_of Red = codes "r"
class_of RedAmber = codes "u"
class_of Green = codes "g"
class_of Amber = codes "a"

-- how many digits a number below 10,000 has
abbrev pub digit_count : ℕ → ℕ
digit_count n = if nat_lt n 10 then 1 else (if nat_lt n 100 then 2 else (if nat_lt n 1000 then 3 else 4))

-- the whole of it is in the strip, and begins and ends inside the diagram
abbrev pub is_whole : Layout → Span Aspect → Bool
is_whole layout s =
    (nat_le layout.from s.first.0 && nat_le s.last.0 layout.to) && (nat_lt layout.first s.first.0 && nat_lt s.last.0 layout.last)

-- a green has its seconds written in it where it is whole, and wide enough
abbrev pub is_told : Layout → Span Aspect → Bool
is_told layout s = is_whole layout s && nat_le (digit_count (s.last.0 + 1 - s.first.0) * 7 + 4) (width_of layout s)

-- the seconds of a green, where they are told
abbrev pub seconds_text : Layout → ℕ → Span Aspect → List ℕ
seconds_text layout y s =
    if is_told layout s
    then label_text (codes "k") (begin_of layout s + width_of layout s / 2) (y + 15) (decimal (s.last.0 + 1 - s.first.0))
    else []

-- how far below the beginning of its row it begins: a red is a line, and the other aspects are bars
abbrev pub inset_of : Aspect → ℕ
inset_of Red = 10
inset_of RedAmber = 5
inset_of Green = 5
inset_of Amber = 5

-- how high it is
abbrev pub thick_of : Aspect → ℕ
thick_of Red = 2
thick_of RedAmber = 12
thick_of Green = 12
thick_of Amber = 12

-- the word of an aspect
abbrev pub word_of : Aspect → List ℕ
word_of Red = codes "red"
word_of RedAmber = codes "red-amber"
word_of Green = codes "green"
word_of Amber = codes "amber"

-- from when to when, and how long
unfoldable pub inside_text : ℕ → ℕ → List ℕ
inside_text first last = codes " " ++ decimal first ++ codes " to " ++ decimal last ++ codes ", " ++ decimal (last + 1 - first) ++ codes " s"

-- from when, where it does not end inside the diagram
abbrev pub begun_text : {T : Type 0} → Layout → Span T → List ℕ
begun_text layout s =
    if nat_lt s.last.0 layout.last then inside_text s.first.0 s.last.0 else codes " from " ++ decimal s.first.0

-- to when, where it did not begin inside the diagram
abbrev pub ended_text : {T : Type 0} → Layout → Span T → List ℕ
ended_text layout s = if nat_lt s.last.0 layout.last then codes " to " ++ decimal s.last.0 else []

-- when a thing is shown, as far as the diagram shows it
unfoldable pub times_text : {T : Type 0} → Layout → Span T → List ℕ
times_text layout s = if nat_lt layout.first s.first.0 then begun_text layout s else ended_text layout s

-- what is told of a span of a group where one points at it
unfoldable pub span_title : Layout → List ℕ → Span Aspect → List ℕ
span_title layout name s =
    codes "><title>" ++ name ++ codes " " ++ word_of s.shown ++ times_text layout s ++ codes "</title></rect>\n"

-- the first seconds of a green, up to its minimum
abbrev pub least_part : ℕ → Span Aspect → Span Aspect
least_part minimum s = record {
  shown = s.shown;
  first = s.first;
  last = record { 0 = min s.last.0 (s.first.0 + minimum - 1) };
}

-- they are told where there is a minimum, the green begins inside the diagram, and some of them are in the strip
abbrev pub has_least : Layout → ℕ → Span Aspect → Bool
has_least layout minimum s = (nat_lt 0 minimum && nat_lt layout.first s.first.0) && is_seen layout (least_part minimum s)

-- a darker box over these
abbrev pub darker_text : Layout → ℕ → Span Aspect → List ℕ
darker_text layout y part = box_text (codes "e") (begin_of layout part) (y + 5) (width_of layout part) 12

-- the darker part of a green
abbrev pub least_text : Layout → ℕ → ℕ → Span Aspect → List ℕ
least_text layout y minimum s = if has_least layout minimum s then darker_text layout y (least_part minimum s) else []

-- the minimum and the seconds of a green, where they are told
abbrev pub told_text : Layout → ℕ → ℕ → Span Aspect → Aspect → List ℕ
told_text layout y minimum s Red = []
told_text layout y minimum s RedAmber = []
told_text layout y minimum s Green = least_text layout y minimum s ++ seconds_text layout y s
told_text layout y minimum s Amber = []

-- a span by its aspect
unfoldable pub span_text : Layout → ℕ → List ℕ → ℕ → Span Aspect → List ℕ
span_text layout y name minimum s =
    box_begin (class_of s.shown) (begin_of layout s) (y + inset_of s.shown) (width_of layout s) (thick_of s.shown)
    ++ span_title layout name s ++ told_text layout y minimum s s.shown

-- a span that has some of the strip's seconds
abbrev pub seen_text : Layout → ℕ → List ℕ → ℕ → Span Aspect → List ℕ
seen_text layout y name minimum s = if is_seen layout s then span_text layout y name minimum s else []

-- the spans of a group, one after the other
abbrev pub row_text : Layout → ℕ → List ℕ → ℕ → List (Span Aspect) → List ℕ
row_text layout y name minimum spans = flat_map (seen_text layout y name minimum) spans

-- a group: its name, its spans, and a line below
unfoldable pub group_text : Layout → ℕ → List ℕ → ℕ → List (Span Aspect) → List ℕ
group_text layout y name minimum spans =
    label_text (codes "n") (layout.left - 12) (y + 15) name ++ row_text layout y name minimum spans ++ across_text (y + 20) (right_of layout)
