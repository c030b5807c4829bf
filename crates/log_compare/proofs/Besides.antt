-- Rows and sides, one after another.
use Rattle.std.proofs.Common.{◌≡◌, ◌∙◌, ℕ, suc, ◌+◌, ◌<◌, List, [], ◌∷◌, ◌++◌, length, get_or, map, take, Option, None, Some, refl, sym, ap, arith, append_assoc}
use Rattle.std.proofs.lemmas.List.{append-nil, map-append}
use Rattle.std.proofs.Math.Seq.{take-suc}
use Rattle.log_compare.specs.declared.sides.Side.{Side}
use Rattle.log_compare.specs.Rows.{Cells, row_in}
use Rattle.log_compare.specs.Sides.{Beside, row_before, side_in, side_text, sides_from}

-- a row behind others
sides_more : (before : Option Cells) (sides : List Beside) (side : Beside) →
    sides_from before (sides ++ side ∷ []) ≡ sides_from before sides ++ side_text (row_before before sides) side
sides_more before [] side = append-nil (side_text before side)
sides_more before (x ∷ xs) side =
    ap (λ l. side_text before x ++ l) (sides_more (Some x.row) xs side)
    ∙ sym (append_assoc (side_text before x) (sides_from (Some x.row) xs) (side_text (row_before (Some x.row) xs) side))

-- and it is the row before those that follow
before_more : (before : Option Cells) (sides : List Beside) (side : Beside) → row_before before (sides ++ side ∷ []) ≡ Some side.row
before_more before [] side = refl
before_more before (x ∷ xs) side = before_more (Some x.row) xs side

-- the first ones, with one more
mapped_more : (sides : List Side) (n : ℕ) (d : Side) → n < length sides →
    map side_in (take (n + 1) sides) ≡ map side_in (take n sides) ++ side_in (get_or sides n d) ∷ []
mapped_more sides n d inside =
    let next : n + 1 ≡ suc n = omega arith in
    rw next (ap (map side_in) (take-suc sides n d inside) ∙ map-append side_in (take n sides) (get_or sides n d ∷ []))

pub side_put : (sides : List Side) (n : ℕ) (d : Side) (before : Option Cells) → n < length sides → before ≡ row_before None (map side_in (take n sides)) →
    sides_from None (map side_in (take n sides)) ++ side_text before (side_in (get_or sides n d)) ≡ sides_from None (map side_in (take (n + 1) sides))
side_put sides n d before inside is =
    ap (λ b. sides_from None (map side_in (take n sides)) ++ side_text b (side_in (get_or sides n d))) is
    ∙ sym (sides_more None (map side_in (take n sides)) (side_in (get_or sides n d)))
    ∙ ap (sides_from None) (sym (mapped_more sides n d inside))

pub before_put : (sides : List Side) (n : ℕ) (d : Side) → n < length sides →
    Some (row_in (get_or sides n d).row) ≡ row_before None (map side_in (take (n + 1) sides))
before_put sides n d inside =
    sym (before_more None (map side_in (take n sides)) (side_in (get_or sides n d))) ∙ ap (row_before None) (sym (mapped_more sides n d inside))
