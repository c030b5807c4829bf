-- The rows of the groups, with the marks of their refused turns.
use Rattle.std.specs.Prelude.{zero, suc, slice_index_or, ℕ, ◌+◌, List, [], ◌++◌, Some, if◌then◌else◌}
use Rattle.sig_types.specs.declared.aspect.Aspect.{Aspect}
use Rattle.log_chart.specs.declared.span.Span.{Span}
use Rattle.log_svg.specs.declared.layout.Layout.{Layout}
use Rattle.log_svg.specs.declared.marks.RefusalMark.{RefusalMark}
use Rattle.log_svg.specs.Layout.{has_row, y_of}
use Rattle.log_svg.specs.Svg.{group_text}
use Rattle.log_svg.specs.Marks.{marks_text}

-- a group at this height, and the marks of its refused turns
unfoldable pub marked_group : List (List ℕ) → Layout → ℕ → ℕ → List ℕ → ℕ → List (Span Aspect) → List RefusalMark → List ℕ
marked_group names layout y n name minimum spans marks =
    group_text layout y name minimum spans ++ marks_text names layout (Some (record { 0 = n })) (y + 9) marks

-- a group, where its row is in the part
abbrev pub shown_group : List (List ℕ) → Layout → ℕ → List ℕ → ℕ → List (Span Aspect) → List RefusalMark → List ℕ
shown_group names layout n name minimum spans marks =
    if has_row layout n then marked_group names layout (y_of layout n) n name minimum spans marks else []

-- the minimum green of a group, 0 where there is none
abbrev pub minimum_of : List ℕ → ℕ → ℕ
minimum_of minimums g = slice_index_or minimums g 0

-- those of the first n groups whose rows are in the part, one below the other
unfoldable pub groups_text : Layout → List (List ℕ) → List ℕ → List (List (Span Aspect)) → List RefusalMark → ℕ → List ℕ
groups_text layout names minimums rows marks zero = []
groups_text layout names minimums rows marks (suc n) =
    groups_text layout names minimums rows marks n
    ++ shown_group names layout n (slice_index_or names n []) (minimum_of minimums n) (slice_index_or rows n []) marks
