-- The first refusal among the records of a text.
use Rattle.std.proofs.Common.{◌≡◌, ◌∙◌, ℕ, zero, suc, ◌+◌, ◌<◌, ◌≤◌, List, [], ◌∷◌, ◌++◌, length, Some, None, Option, refl, ap, arith, length-append}
use Rattle.std.specs.Option.{option_or}
use Rattle.std.proofs.lemmas.List.{take-append-le, get_or_append_left}
use Rattle.std.proofs.Math.Seq.{take-append_seam, get_or-append_seam}
use Rattle.sig_types.specs.FirstRefused.{refused_to, first_refused, with_line}
use Rattle.sig_types.proofs.Refusals.{refused_here}
use Rattle.sig_tables.specs.declared.refusal.TableWhy.{TableWhy}
use Rattle.sig_tables.specs.Records.{Row}
use Rattle.sig_tables.specs.Refusals.{numbered}

-- a refusal, or else none, is the refusal
pub or_none : {A : Type 0} (r : Option A) → option_or r None ≡ r
or_none None = refl
or_none (Some w) = refl

-- the refusals among the first n items don't see the items after
same_before : {A W : Type 0} (judge : List A → A → Option W) (xs ys : List A) (d : A) (n : ℕ) → n ≤ length xs → refused_to judge (xs ++ ys) d n ≡ refused_to judge xs d n
unfolding refused_to
same_before judge xs ys d zero le = refl
same_before judge xs ys d (suc n) le =
    let inside : n < length xs = omega arith in
    rw (same_before judge xs ys d n (omega arith), take-append-le n xs ys (omega arith), get_or_append_left xs ys d n inside) refl

-- the record after those that are accepted is refused, whatever follows
pub refused_row : (judge : List Row → Row → Option TableWhy) (rows more : List Row) (row : Row) (why : TableWhy) → first_refused (numbered judge) rows [] ≡ None →
    judge rows row ≡ Some why → first_refused (numbered judge) (rows ++ row ∷ more) [] ≡ Some (length rows + 2, why)
unfolding numbered
refused_row judge rows more row why none is =
    let inside : length rows < length (rows ++ row ∷ more) = omega (arith, length-append rows (row ∷ more)) in
    refused_here (numbered judge) (rows ++ row ∷ more) [] (length rows + 2, why) (length rows) (same_before (numbered judge) rows (row ∷ more) [] (length rows) (omega arith) ∙ none) inside
    (rw (take-append_seam rows (row ∷ more), get_or-append_seam rows row more []) (ap (with_line (length rows + 2)) is))
