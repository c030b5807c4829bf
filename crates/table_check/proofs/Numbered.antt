-- The piece with a number.
use Rattle.std.proofs.Common.{◌≡◌, ℕ, ◌-◌, ◌==◌, Bool, false, cond, List, [], Some, None, unwrap_or, map, get_or, ap, sym, ◌∙◌}
use Rattle.std.specs.List.{slice_get}
use Rattle.std.proofs.lemmas.Bool.{ne_eqb}
use Rattle.table_check.specs.Lines.{numbered}
use Rattle.std.specs.Option.{option_map}
use Rattle.std.proofs.lemmas.Option.{slice_get-map, get_or_from_slice_get, unwrap_or-slice_get}

-- the piece at a place, of pieces that were changed
pub get_or-changed : {X : Type 0} (f : X → List ℕ) (pieces : List X) (n : ℕ) (x : X) →
    Some x ≡ slice_get pieces n → f x ≡ get_or (map f pieces) n []
get_or-changed f pieces n x h =
    sym (get_or_from_slice_get (map f pieces) n (f x) [] (slice_get-map f pieces n ∙ ap (option_map f) (sym h)))

-- there is none
pub get_or-changed_none : {X : Type 0} (f : X → List ℕ) (pieces : List X) (n : ℕ) → None ≡ slice_get pieces n →
    [] ≡ get_or (map f pieces) n []
get_or-changed_none f pieces n h =
    ap (λ o. unwrap_or (option_map f o) []) h
    ∙ (ap (λ o. unwrap_or o []) (sym (slice_get-map f pieces n)) ∙ unwrap_or-slice_get (map f pieces) n [])

numbered-cases : (t : Bool) (a x : List ℕ) → t ≡ false → x ≡ a → x ≡ cond t [] a
numbered-cases t a x h e = e ∙ sym (ap (λ v. cond v [] a) h)

-- a number from 1 on
pub numbered-at : (pieces : List (List ℕ)) (n : ℕ) (x : List ℕ) → (n ≡ 0 → ⊥) → x ≡ get_or pieces (n - 1) [] →
    x ≡ numbered pieces n
numbered-at pieces n x h e = numbered-cases (n == 0) (get_or pieces (n - 1) []) x (ne_eqb n 0 h) e

-- the same of pieces as they are
pub get_or-none : (pieces : List (List ℕ)) (n : ℕ) → None ≡ slice_get pieces n → [] ≡ get_or pieces n []
get_or-none pieces n h = ap (λ o. unwrap_or o []) h ∙ unwrap_or-slice_get pieces n []
