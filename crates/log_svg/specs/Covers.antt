-- The bars of a detector, as long as it is covered.
use Rattle.std.specs.Prelude.{ℕ, ◌+◌, ◌-◌, Bool, List, [], ◌++◌, codes, map, slice_index_or, if◌then◌else◌, ◌&&◌}
use Rattle.std.specs.List.{flat_map, list_any}
use Rattle.std.specs.Fmt.{decimal}
use Rattle.log_chart.specs.declared.cover.Cover.{Cover}
use Rattle.log_chart.specs.declared.span.Span.{Span}
use Rattle.log_svg.specs.declared.layout.Layout.{Layout}
use Rattle.log_svg.specs.Svg.{begin_of, box_begin, is_seen, times_text, width_of}

-- the spans of the detectors, each of seconds in which it is covered, or isn't
abbrev pub spans_in : List Cover → List (List (Span Bool))
spans_in covers = map (λ c. c.spans.items) covers

-- the spans of a detector, by its number
abbrev pub spans_of : List (List (Span Bool)) → ℕ → List (Span Bool)
spans_of covers d = slice_index_or covers (d - 1) []

-- it is covered in some second
abbrev pub is_covered : List (Span Bool) → Bool
is_covered spans = list_any (λ s. s.shown) spans

-- what is told of a bar where one points at it
unfoldable pub cover_title : Layout → ℕ → Span Bool → List ℕ
cover_title layout d s =
    codes "><title>detector " ++ decimal d ++ codes " covered" ++ times_text layout s ++ codes "</title></rect>\n"

-- a bar above the thin line of the detector's row
unfoldable pub cover_text : Layout → ℕ → ℕ → Span Bool → List ℕ
cover_text layout y d s =
    box_begin (codes "q") (begin_of layout s) (y + 13) (width_of layout s) 6 ++ cover_title layout d s

-- a span in which it is covered, and which has some of the strip's seconds
abbrev pub seen_cover : Layout → ℕ → ℕ → Span Bool → List ℕ
seen_cover layout y d s = if s.shown && is_seen layout s then cover_text layout y d s else []

-- the bars of a detector, one after the other
abbrev pub covers_text : Layout → ℕ → ℕ → List (Span Bool) → List ℕ
covers_text layout y d spans = flat_map (seen_cover layout y d) spans
