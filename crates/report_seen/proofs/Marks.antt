-- Marks, as loops put them.
use Rattle.std.proofs.Common.{◌≡◌, ◌∙◌, ℕ, suc, zero, ◌+◌, ◌<◌, List, [], ◌∷◌, ◌++◌, length, get_or, take, map, Some, refl, sym, ap, arith, append_assoc}
use Rattle.std.specs.List.{slice_get}
use Rattle.std.proofs.lemmas.List.{append-nil, map-append}
use Rattle.std.proofs.lemmas.Option.{get_or_from_slice_get, slice_get_within}
use Rattle.std.proofs.Math.Seq.{take-suc}
use Rattle.log_svg.specs.declared.fronts.FrontMark.{FrontMark}
use Rattle.report_seen.specs.Gathered.{front_by, fronts_from}

fronts_step : (s d : ℕ) (xs : List (ℕ × ℕ)) (p q : ℕ) → p < length xs → q ≡ d + p → fronts_from s d (take (suc p) xs) ≡ fronts_from s d (take p xs) ++ front_by s q (get_or xs p (0, 0)).0
fronts_step s d [] p q lt e = absurd (omega arith)
fronts_step s d (x ∷ xs) zero q lt e = let same : q ≡ d = omega (arith, e) in rw (same, append-nil) refl
fronts_step s d (x ∷ xs) (suc p) q lt e = rw (fronts_step s (d + 1) xs p q (omega arith) (omega (arith, e))) (sym (append_assoc (front_by s d x.0) (fronts_from s (d + 1) (take p xs)) (front_by s q (get_or xs p (0, 0)).0)))

-- the fronts of one detector more
pub fronts_more : (new mid base : List FrontMark) (s : ℕ) (xs : List (ℕ × ℕ)) (p : ℕ) → p < length xs → new ≡ mid ++ front_by s (p + 1) (get_or xs p (0, 0)).0 →
    mid ≡ base ++ fronts_from s 1 (take p xs) → new ≡ base ++ fronts_from s 1 (take (p + 1) xs)
fronts_more new mid base s xs p lt put before =
    let next : p + 1 ≡ suc p = omega arith in
    put ∙ ap (λ ms. ms ++ front_by s (p + 1) (get_or xs p (0, 0)).0) before ∙ append_assoc base (fronts_from s 1 (take p xs)) (front_by s (p + 1) (get_or xs p (0, 0)).0) ∙ ap (λ ms. base ++ ms) (sym (fronts_step s 1 xs p (p + 1) lt (omega arith)))
    ∙ ap (λ n. base ++ fronts_from s 1 (take n xs)) (sym next)

-- one item more
pub item_more : {A B : Type 0} (f : A → B) (new mid base : List B) (xs : List A) (p : ℕ) (x : A) → slice_get xs p ≡ Some x → new ≡ mid ++ f x ∷ [] →
    mid ≡ base ++ map f (take p xs) → new ≡ base ++ map f (take (p + 1) xs)
item_more f new mid base xs p x is put before =
    let inside = slice_get_within xs p x is in
    let next : p + 1 ≡ suc p = omega arith in
    let here : get_or xs p x ≡ x = get_or_from_slice_get xs p x x is in
    put ∙ ap (λ ms. ms ++ f x ∷ []) before ∙ append_assoc base (map f (take p xs)) (f x ∷ [])
    ∙ ap (λ ms. base ++ ms) (sym (ap (map f) (ap (λ n. take n xs) next ∙ take-suc xs p x inside ∙ ap (λ y. take p xs ++ y ∷ []) here) ∙ map-append f (take p xs) (x ∷ [])))
