-- Lists that are filled one after another.
use Rattle.std.proofs.Common.{◌≡◌, ◌∙◌, ℕ, zero, suc, ◌+◌, ◌<◌, ◌≤◌, List, [], ◌∷◌, ◌++◌, length, map, drop, refl, sym, ap, append_assoc, add-one, arith, drop-cons, get_or}
use Rattle.std.proofs.lemmas.List.{append-nil}
use Rattle.std.specs.List.{AllByRecursion}
use Rattle.sig_types.specs.Words.{tabulate}
use Rattle.vap_ast.specs.Tree.{array_of}
use Rattle.vap_ast.specs.declared.tree.ArrayDecl.{ArrayDecl}
use Rattle.trace_told.specs.Columns.{array_columns, cell_behind}
use Rattle.trace_told.specs.declared.columns.Column.{Column}

-- no number yet
pub none_yet : {A : Type 0} (f : ℕ → A) (kept : List A) → kept ++ tabulate f 0 ≡ kept
none_yet f kept = append-nil kept

-- the next number
pub one_more : {A : Type 0} (f : ℕ → A) (kept : List A) (n : ℕ) → kept ++ tabulate f (n + 1) ≡ (kept ++ tabulate f n) ++ f n ∷ []
one_more f kept n = rw add-one (sym (append_assoc kept (tabulate f n) (f n ∷ [])))

-- the loops that add what each number gives
pub ruleset steps = (none_yet, one_more)

-- the cells of the array at a place, and those of the arrays behind it
pub array_next : (arrays : List ArrayDecl) (a : ℕ) (it : ArrayDecl) → a < length arrays → it ≡ get_or arrays a it →
    array_columns a (map array_of (drop a arrays))
    ≡ tabulate (cell_behind a) (length it.values.items) ++ array_columns (a + 1) (map array_of (drop (a + 1) arrays))
array_next arrays a it below is = rw (drop-cons arrays a it below, sym is, add-one) refl

-- its number of cells
pub array_sized : (arrays : List ArrayDecl) (a : ℕ) (it : ArrayDecl) →
    AllByRecursion (λ a. (1 ≤ length a.values) × (length a.values ≤ 1024)) (map array_of arrays) → a < length arrays → it ≡ get_or arrays a it →
    length it.values.items ≤ 1024
array_sized [] a it all below is = absurd (omega arith)
array_sized (x ∷ xs) zero it all below is = rw is all.0.1
array_sized (x ∷ xs) (suc a) it all below is = array_sized xs a it all.1 (omega arith) is

-- what was added so far, with the cells of one array more
pub arrays_on : (kept now : List Column) (whole before next cells : List Column) → now ++ before ≡ kept ++ whole → before ≡ cells ++ next →
    (now ++ cells) ++ next ≡ kept ++ whole
arrays_on kept now whole before next cells is split = append_assoc now cells next ∙ ap (λ l. now ++ l) (sym split) ∙ is
