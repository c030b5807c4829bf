-- The text of a whole signal timing diagram.
use Rattle.std.specs.Prelude.{ℕ, zero, suc, ◌+◌, ◌-◌, ◌*◌, ◌/◌, ◌<◌, ◌≤◌, ◌≡◌, min, Bool, List, [], ◌∷◌, ◌++◌, None, codes, length, All, if◌then◌else◌, ◌==◌, ◌||◌, not}
use Rattle.std.specs.Fmt.{decimal}
use Rattle.sig_types.specs.declared.aspect.Aspect.{Aspect}
use Rattle.sig_types.specs.declared.aspect.Rule.{Rule}
use Rattle.sig_types.specs.declared.aspect.Rule.TheVariants.{Sequence, MinGreen, MinRed, Conflict, Intergreen, Running, WrongStage, NoInterstage}
use Rattle.sig_types.specs.Turns.{History}
use Rattle.log_chart.specs.declared.span.Span.{Span}
use Rattle.log_chart.specs.Spans.{IsChart}
use Rattle.log_chart.specs.Stays.{Stay}
use Rattle.log_svg.specs.declared.layout.Layout.{Layout}
use Rattle.log_svg.specs.declared.layout.Sheet.{Sheet}
use Rattle.log_svg.specs.declared.marks.RefusalMark.{RefusalMark}
use Rattle.log_svg.specs.declared.marks.FaultMark.{FaultMark}
use Rattle.log_svg.specs.declared.fronts.FrontMark.{FrontMark}
use Rattle.log_svg.specs.Layout.{end_of, has_row, height_of, left_of, sheet_by, top_of, y_of}
use Rattle.log_svg.specs.Svg.{attribute_text, box_text, cross_text, label_begin, label_text, upright_text}
use Rattle.log_svg.specs.Axis.{axis_text}
use Rattle.log_svg.specs.Words.{Looked, title_words}
use Rattle.log_svg.specs.Band.{band_text}
use Rattle.log_svg.specs.Marks.{IsRefused, detectors_text, faults_text, marks_text, rule_letter, shown_to}
use Rattle.log_svg.specs.Groups.{groups_text}

-- what a diagram shows: the names of the groups, the seconds, the spans of each group, the stays at stages and interstages, and
-- the marks of fronts, refused commands and faults, and the spans of each detector in which it is covered, or isn't
pub record Shown : Type 0 where
  pub names : List (List ℕ)
  pub from : ℕ
  pub to : ℕ
  pub rows : List (List (Span Aspect))
  pub stays : List Stay
  pub fronts : List FrontMark
  pub covers : List (List (Span Bool))
  pub refusals : List RefusalMark
  pub faults : List FaultMark

-- ---- the head

-- the box that is seen
unfoldable pub view_text : ℕ → ℕ → List ℕ
view_text width height = codes " viewBox=\"0 0 " ++ decimal width ++ codes " " ++ decimal height

-- the beginning of the text, by the size of the picture
unfoldable pub size_text : ℕ → ℕ → List ℕ
size_text width height =
    codes "<svg xmlns=\"http://www.w3.org/2000/svg\"" ++ attribute_text (codes "width") width ++ attribute_text (codes "height") height
    ++ view_text width height
    ++ codes "\" role=\"img\" font-family=\"'DejaVu Sans Mono',Consolas,monospace\" font-size=\"12\">\n"

-- how bars and lines look
unfoldable pub bars_style : List ℕ
bars_style =
    codes "<style>@page{size:A4 landscape;margin:12.667mm 10mm}@media print{svg{width:100%;height:auto}}\n"
    ++ codes ".r{fill:#c4161c}.u{fill:url(#u);stroke:#000;stroke-width:.4}\n"
    ++ codes ".g{fill:#00843d;stroke:#000;stroke-width:.6}.a{fill:url(#a);stroke:#000;stroke-width:.6}\n"
    ++ codes ".s{fill:#eef1f4;stroke:#000;stroke-width:.8}.i{fill:url(#i);stroke:#000;stroke-width:.8}.q{fill:#9db4cc}\n"

-- how words look
unfoldable pub words_style : List ℕ
words_style =
    codes ".n,.d{text-anchor:end}.m,.l,.k{text-anchor:middle}.k{fill:#fff;font-size:10px}.l,.d{font-size:10px}\n"
    ++ codes ".h{font-size:13px;font-weight:bold}\n"
    ++ codes ".m{font-weight:bold;paint-order:stroke;stroke:#fff;stroke-width:4;stroke-linejoin:round}\n"

-- how marks look
unfoldable pub marks_style : List ℕ
marks_style =
    codes ".w,.p{fill:#fff}.b,.c,.t,.f{fill:none;stroke:#000}.b{stroke:#d5d9dd}.t{stroke-width:1.4}.f{stroke-width:2}\n"
    ++ codes ".x{font-size:9px;font-weight:bold;text-anchor:middle;paint-order:stroke;stroke:#fff;stroke-width:3;stroke-linejoin:round}\n"

-- how all of it looks on a dark screen
unfoldable pub dark_style : List ℕ
dark_style =
    codes "@media screen and (prefers-color-scheme:dark){text{fill:#e6e8ea}.w,.p{fill:#16191c}.s{fill:#2b3036}.s,.i{stroke:#c3c8cd}\n"
    ++ codes ".m,.x{stroke:#16191c}.k{fill:#fff}.q{fill:#4a6480}.b{stroke:#3a4047}.c,.t,.f{stroke:#e6e8ea}.r{fill:#ff5a5f}}</style>\n"

-- red-amber is dark over light
unfoldable pub half_pattern : List ℕ
half_pattern =
    codes "<defs><linearGradient id=\"u\" x1=\"0\" y1=\"0\" x2=\"0\" y2=\"1\">"
    ++ codes "<stop offset=\".5\" stop-color=\"#c4161c\"/><stop offset=\".5\" stop-color=\"#ffd500\"/></linearGradient>\n"

-- the stripes of amber
unfoldable pub amber_pattern : List ℕ
amber_pattern =
    codes "<pattern id=\"a\" width=\"5\" height=\"5\" patternUnits=\"userSpaceOnUse\" patternTransform=\"rotate(45)\">"
    ++ codes "<rect width=\"5\" height=\"5\" fill=\"#ffd500\"/><rect width=\"1.6\" height=\"5\" fill=\"#000\"/></pattern>\n"

-- the thin stripes of an interstage
unfoldable pub interstage_pattern : List ℕ
interstage_pattern =
    codes "<pattern id=\"i\" width=\"5\" height=\"5\" patternUnits=\"userSpaceOnUse\" patternTransform=\"rotate(45)\">"
    ++ codes "<rect class=\"p\" width=\"5\" height=\"5\"/><rect width=\"1\" height=\"5\" fill=\"#8a9199\"/></pattern></defs>\n"

-- all of how things look
abbrev pub looks_text : List ℕ
looks_text = (bars_style ++ words_style ++ marks_style ++ dark_style) ++ half_pattern ++ amber_pattern ++ interstage_pattern

-- the ground
unfoldable pub ground_text : ℕ → ℕ → List ℕ
ground_text width height =
    codes "<rect class=\"w\"" ++ attribute_text (codes "width") width ++ attribute_text (codes "height") height ++ codes "/>\n"

-- the title that is asked for, or what every diagram is
abbrev pub given_title : List ℕ → List ℕ
given_title title = if length title == 0 then codes "Signal timing diagram" else title_words title

-- what the diagram is of
unfoldable pub seconds_title : List ℕ → ℕ → ℕ → List ℕ
seconds_title title from to = given_title title ++ codes ", seconds " ++ decimal from ++ codes " to " ++ decimal to

-- the title, which a screen reader reads
unfoldable pub title_text : List ℕ → ℕ → ℕ → List ℕ
title_text title from to = codes "<title>" ++ seconds_title title from to ++ codes "</title>\n"

-- and which is seen
unfoldable pub heading_text : List ℕ → ℕ → ℕ → List ℕ
heading_text title from to = label_begin (codes "h") 12 20 ++ seconds_title title from to ++ codes "</text>\n"

-- the head: size, title, looks, ground and heading
unfoldable pub head_text : Sheet → List ℕ → ℕ → ℕ → List ℕ
head_text sheet title from to =
    size_text sheet.width (height_of sheet) ++ title_text title from to ++ looks_text ++ ground_text sheet.width (height_of sheet)
    ++ heading_text title from to

-- ---- the legend

-- a bar with what it stands for
unfoldable pub key_text : List ℕ → ℕ → ℕ → List ℕ → List ℕ
key_text class x y word = box_text class x y 24 12 ++ label_text (codes "o") (x + 30) (y + 10) word

-- what the aspects look like
unfoldable pub aspects_key : ℕ → List ℕ
aspects_key y =
    (box_text (codes "r") 12 (y + 5) 24 2 ++ label_text (codes "o") 42 (y + 10) (codes "red"))
    ++ key_text (codes "u") 82 y (codes "red-amber") ++ key_text (codes "g") 196 y (codes "green, seconds")
    ++ label_text (codes "k") 208 (y + 10) (codes "12") ++ key_text (codes "a") 346 y (codes "amber")

-- what a fault looks like
unfoldable pub fault_key : ℕ → List ℕ
fault_key y = cross_text 562 (y + 2) ++ codes "/>\n" ++ label_text (codes "o") 576 (y + 10) (codes "fault")

-- a rule with its letter
unfoldable pub rule_key : ℕ → ℕ → Rule → List ℕ → List ℕ
rule_key x y rule word =
    label_begin (codes "x") x (y + 10) ++ rule_letter rule ∷ [] ++ codes "</text>\n" ++ label_text (codes "o") (x + 8) (y + 10) word

-- the rules of turns
unfoldable pub turns_key : ℕ → List ℕ
turns_key y =
    rule_key 88 y MinGreen (codes "minimum green") ++ rule_key 204 y MinRed (codes "minimum red") ++ rule_key 306 y Conflict (codes "conflict")
    ++ rule_key 386 y Intergreen (codes "intergreen") ++ rule_key 480 y Sequence (codes "sequence")

-- the rules of stage commands
unfoldable pub commands_key : ℕ → List ℕ
commands_key y =
    rule_key 568 y Running (codes "interstage runs") ++ rule_key 698 y WrongStage (codes "wrong stage")
    ++ rule_key 800 y NoInterstage (codes "no interstage")

-- what refusals look like
unfoldable pub rules_key : ℕ → List ℕ
rules_key y = label_text (codes "o") 12 (y + 10) (codes "refused:") ++ turns_key y ++ commands_key y

-- what fronts look like
unfoldable pub fronts_key : ℕ → List ℕ
fronts_key y =
    upright_text (codes "t") 638 (y + 6) (y + 12) ++ upright_text (codes "t") 646 (y + 3) (y + 12)
    ++ upright_text (codes "t") 654 y (y + 12) ++ label_text (codes "o") 664 (y + 10) (codes "1, 2, more fronts")

-- what a covered detector looks like
unfoldable pub cover_key : ℕ → List ℕ
cover_key y = box_text (codes "q") 800 (y + 6) 24 6 ++ label_text (codes "o") 830 (y + 10) (codes "covered")

-- the legend: aspects, interstages, faults, fronts and covered detectors, and below them the rules
unfoldable pub legend_text : ℕ → List ℕ
legend_text y =
    aspects_key y ++ key_text (codes "i") 436 y (codes "interstage") ++ fault_key y ++ fronts_key y ++ cover_key y ++ rules_key (y + 20)

-- how a minimum green looks: a darker part of a green
unfoldable pub least_style : List ℕ
least_style = codes "<style>.e{fill:#00562a;pointer-events:none}</style>\n"

-- and its key, right of the title in a picture of this width
abbrev pub told_key : ℕ → List ℕ
told_key width = least_style ++ key_text (codes "e") (width - 130) 10 (codes "minimum green")

-- they stand where there are minimum greens
abbrev pub least_key : ℕ → List ℕ → List ℕ
least_key width minimums = if length minimums == 0 then [] else told_key width

-- ---- the whole

-- ---- rows and panels

-- how many rows there are for faults: one where there are any
abbrev pub fault_rows : List FaultMark → ℕ
fault_rows faults = if length faults == 0 then 0 else 1

-- the rows of groups come first, then that of faults, where there are any, and then one for each detector that has one
abbrev pub detectors_row : Shown → ℕ
detectors_row s = length s.names + fault_rows s.faults

-- how many rows there are
abbrev pub rows_in : Shown → ℕ
rows_in s = detectors_row s + shown_to s.fronts s.covers 64

-- the seconds of a whole strip, or all where there are fewer
abbrev pub strip_seconds : Shown → ℕ → ℕ
strip_seconds s strip = min strip (s.to + 1 - s.from)

-- how many strips of so many seconds there are
abbrev pub strips_in : Shown → ℕ → ℕ
strips_in s strip = (s.to - s.from) / strip + 1

-- the sheet of what is shown, in strips of so many seconds
abbrev pub sheet_in : Shown → ℕ → Sheet
sheet_in s strip = sheet_by (left_of s.names) (strip_seconds s strip) (rows_in s) (strips_in s strip)

-- the first second of strip k
abbrev pub strip_from : Shown → ℕ → ℕ → ℕ
strip_from s strip k = s.from + strip * k

-- a panel has part p of the rows in strip k
abbrev pub panel_at : Sheet → Shown → ℕ → ℕ → ℕ → Layout
panel_at sheet s strip k p = record {
  first = s.from;
  last = s.to;
  from = strip_from s strip k;
  to = min s.to (strip_from s strip k + strip - 1);
  scale = sheet.scale;
  left = sheet.left;
  row = p * sheet.each;
  rows = min sheet.each (sheet.rows - p * sheet.each);
}

-- the row of faults
unfoldable pub named_faults : Layout → ℕ → List FaultMark → List ℕ
named_faults layout y marks = label_text (codes "d") (layout.left - 12) (y + 14) (codes "faults") ++ faults_text layout y marks

-- it stands where there are any and it is in the part
abbrev pub faults_row : Layout → ℕ → List FaultMark → List ℕ
faults_row layout row marks = if length marks == 0 || not (has_row layout row) then [] else named_faults layout (y_of layout row) marks

-- the seconds, the band and the rows of groups, with the marks of what was refused
unfoldable pub upper_text : Looked → Layout → Shown → List ℕ
upper_text look layout s =
    axis_text look.begin layout (end_of layout) (layout.to + 1 - layout.from) ++ label_text (codes "n") (layout.left - 12) 73 (codes "stage")
    ++ band_text look.stages layout s.stays ++ marks_text s.names layout None 58 s.refusals
    ++ groups_text layout s.names look.minimums s.rows s.refusals (length s.names)

-- the rows of faults and detectors
unfoldable pub lower_text : Layout → Shown → List ℕ
lower_text layout s =
    faults_row layout (length s.names) s.faults ++ detectors_text layout (detectors_row s) s.fronts s.covers 64

-- what follows stands so far below
unfoldable pub shift_text : ℕ → List ℕ
shift_text y = codes "<g transform=\"translate(0 " ++ decimal y ++ codes ")\">\n"

-- a panel, at this height
unfoldable pub panel_text : Looked → Layout → ℕ → Shown → List ℕ
panel_text look layout y s = shift_text y ++ upper_text look layout s ++ lower_text layout s ++ codes "</g>\n"

-- part p of strip k, at its height
abbrev pub part_text : Sheet → Shown → Looked → ℕ → ℕ → List ℕ
part_text sheet s look k p = panel_text look (panel_at sheet s look.strip k p) (top_of sheet (k * sheet.parts + p)) s

-- the first n parts of strip k
unfoldable pub parts_text : Sheet → Shown → Looked → ℕ → ℕ → List ℕ
parts_text sheet s look k zero = []
parts_text sheet s look k (suc n) = parts_text sheet s look k n ++ part_text sheet s look k n

-- the first n strips, with all their parts
unfoldable pub strips_text : Sheet → Shown → Looked → ℕ → List ℕ
strips_text sheet s look zero = []
strips_text sheet s look (suc n) = strips_text sheet s look n ++ parts_text sheet s look n sheet.parts

-- the head, the legend, the key of minimum greens and the strips
unfoldable pub whole_text : Sheet → Shown → Looked → List ℕ
whole_text sheet s look =
    head_text sheet look.title s.from s.to ++ legend_text 32 ++ least_key sheet.width look.minimums ++ strips_text sheet s look sheet.strips
    ++ codes "</svg>\n"

-- the whole text of a diagram that is to look so
abbrev pub diagram_text : Shown → Looked → List ℕ
diagram_text s look = whole_text (sheet_in s look.strip) s look

-- a strip has 30 to 600 seconds
abbrev pub IsStrip : ℕ → Type 0
IsStrip strip = (30 ≤ strip) × (strip ≤ 600)

-- a diagram of 1 to 3,600 seconds of a log, of at most 64 groups, whose rows are a chart of these seconds
-- and whose refused turns are of these groups, with the spans of 64 detectors
pub record IsShowable (s : Shown) : Type 0 where
  pub order : s.from ≤ s.to
  pub hour : s.to < s.from + 3600
  pub last : s.to < 1000000
  pub few : length s.names ≤ 64
  pub history : History
  pub chart : IsChart history (length s.names) s.from (s.to + 1) s.rows
  pub refusals : All (λ m. IsRefused (length s.names) m.refused) s.refusals
  pub covers : length s.covers ≡ 64
