-- The texts of a diagram of characters, one part more.
use Rattle.std.proofs.Common.{◌≡◌, ◌∙◌, ℕ, suc, ◌+◌, Bool, List, [], ◌∷◌, ◌++◌, replicate, refl, sym, ap, arith, add-one, append_assoc, Option}
use Rattle.std.proofs.lemmas.List.{replicate-append-replicate}
use Rattle.sig_io.specs.Draft.{Held, Puts}
use Rattle.sig_io.proofs.Drafts.{same_put, then}
use Rattle.log_chart.specs.declared.span.Span.{Span}
use Rattle.log_svg.specs.declared.fronts.FrontMark.{FrontMark}
use Rattle.log_svg.specs.Covers.{spans_of}
use Rattle.log_svg.specs.Diagram.{Shown}
use Rattle.report_seen.specs.declared.letters.Block.{Block}
use Rattle.report_seen.specs.declared.letters.MarkRow.{MarkRow}
use Rattle.report_seen.specs.Letters.{block_at, block_text, blocks_to, covered_to, detector_row, detector_rows, free_after, free_to, group_rows, groups_rows, number_cell, numbers_to, tick_of, ticks_to, with_letter}

-- the same character once more
pub times_more : (n letter : ℕ) → replicate n letter ++ letter ∷ [] ≡ replicate (n + 1) letter
times_more n letter = replicate-append-replicate n 1 letter

-- one second more
pub free_more : (first n : ℕ) → free_to first (n + 1) ≡ free_after first (free_to first n) (first + n)
unfolding free_to
free_more first n = rw add-one refl

pub numbers_more : (first n : ℕ) → numbers_to first (n + 1) ≡ numbers_to first n ++ number_cell first (free_to first n) (first + n)
unfolding numbers_to
numbers_more first n = rw add-one refl

pub ticks_more : (first n : ℕ) → ticks_to first (n + 1) ≡ ticks_to first n ++ tick_of (first + n)
unfolding ticks_to
ticks_more first n = rw add-one refl

-- one covered second more
pub covered_more : (block : Block) (row : MarkRow) (t n : ℕ) → covered_to block row t (n + 1) ≡ with_letter block (covered_to block row t n) (t + n) 61
unfolding covered_to
covered_more block row t n = rw add-one refl

-- one detector more
pub detectors_more : (block : Block) (marks : List FrontMark) (covers : List (List (Span Bool))) (n : ℕ) →
    detector_rows block marks covers (n + 1) ≡ detector_rows block marks covers n ++ detector_row block marks (spans_of covers (n + 1)) (n + 1)
unfolding detector_rows
detectors_more block marks covers n = let next : n + 1 ≡ suc n = omega arith in ap (λ k. detector_rows block marks covers k) next

-- one group more
pub groups_more : (block : Block) (s : Shown) (n : ℕ) → groups_rows block s (n + 1) ≡ groups_rows block s n ++ group_rows block s n
unfolding groups_rows
groups_more block s n = rw add-one refl

-- one block more
pub blocks_more : (s : Shown) (n : ℕ) → blocks_to s (n + 1) ≡ blocks_to s n ++ block_text (block_at s n) s
unfolding blocks_to
blocks_more s n = rw add-one refl

-- what begins with a text is put, and then one part more of what follows it
pub then_more : {O : Type 0} {taken : O → Option (List ℕ)} {faults : O → ℕ} {d e f : Held} {s t u : O} (a b : List ℕ) {x more : List ℕ} →
    Puts taken faults d e s t (a ++ b) → Puts taken faults e f t u x → more ≡ b ++ x → Puts taken faults d f s u (a ++ more)
then_more a b {x = x} first second same = same_put (append_assoc a b x ∙ ap (λ w. a ++ w) (sym same)) (then first second)
