-- The texts of a diagram with one piece more.
use Rattle.std.proofs.Common.{◌≡◌, ℕ, suc, ◌+◌, Bool, List, [], ◌++◌, Option, get_or, refl, arith, add-one, ap}
use Rattle.sig_types.specs.declared.aspect.Aspect.{Aspect}
use Rattle.log_chart.specs.declared.span.Span.{Span}
use Rattle.log_svg.specs.declared.layout.Layout.{Layout}
use Rattle.log_svg.specs.declared.layout.Sheet.{Sheet}
use Rattle.log_svg.specs.Groups.{groups_text, minimum_of, shown_group}
use Rattle.log_svg.specs.declared.marks.RefusalMark.{RefusalMark}
use Rattle.log_svg.specs.declared.fronts.FrontMark.{FrontMark}
use Rattle.log_svg.specs.Axis.{axis_text, second_text}
use Rattle.log_svg.specs.Diagram.{Shown, part_text, parts_text, strips_text}
use Rattle.log_svg.specs.Words.{Looked}
use Rattle.log_svg.specs.Marks.{detectors_text, row_count, shown_text, shown_to}

-- the rows of one group more
pub groups_more : (layout : Layout) (names : List (List ℕ)) (minimums : List ℕ) (rows : List (List (Span Aspect))) (marks : List RefusalMark) (n : ℕ) →
    groups_text layout names minimums rows marks (n + 1) ≡ groups_text layout names minimums rows marks n
    ++ shown_group names layout n (get_or names n []) (minimum_of minimums n) (get_or rows n []) marks
unfolding groups_text
groups_more layout names minimums rows marks n = rw add-one refl

-- what stands at one second more
pub axis_more : (begin : Option ℕ) (layout : Layout) (end n : ℕ) → axis_text begin layout end (n + 1) ≡ axis_text begin layout end n ++ second_text begin layout end (layout.from + n)
unfolding axis_text
axis_more begin layout end n = rw add-one refl

-- one detector more
pub shown_more : (marks : List FrontMark) (covers : List (List (Span Bool))) (n : ℕ) → shown_to marks covers (n + 1) ≡ shown_to marks covers n + row_count marks covers (n + 1)
unfolding shown_to
shown_more marks covers n = let next : n + 1 ≡ suc n = omega arith in ap (λ k. shown_to marks covers k) next

pub detectors_more : (layout : Layout) (row : ℕ) (marks : List FrontMark) (covers : List (List (Span Bool))) (n : ℕ) →
    detectors_text layout row marks covers (n + 1) ≡ detectors_text layout row marks covers n ++ shown_text layout (row + shown_to marks covers n) marks covers (n + 1)
unfolding detectors_text
detectors_more layout row marks covers n = let next : n + 1 ≡ suc n = omega arith in ap (λ k. detectors_text layout row marks covers k) next

-- the parts of a strip with one more
pub parts_more : (sheet : Sheet) (s : Shown) (look : Looked) (k n : ℕ) → parts_text sheet s look k (n + 1) ≡ parts_text sheet s look k n ++ part_text sheet s look k n
unfolding parts_text
parts_more sheet s look k n = rw add-one refl

-- one strip more
pub strips_more : (sheet : Sheet) (s : Shown) (look : Looked) (n : ℕ) → strips_text sheet s look (n + 1) ≡ strips_text sheet s look n ++ parts_text sheet s look n sheet.parts
unfolding strips_text
strips_more sheet s look n = rw add-one refl
