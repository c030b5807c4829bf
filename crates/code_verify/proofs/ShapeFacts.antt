-- The starts of routines, and sums over a part of a list.
use Rattle.std.proofs.Common.{◌≡◌, ℕ, ◌+◌, ◌-◌, ◌<◌, ◌≤◌, List, [], ◌∷◌, length, get_or, take, drop, map, true, refl, ap, arith, length-drop}
use Rattle.std.specs.Prelude.{sum}
use Rattle.std.specs.List.{All}
use Rattle.std.proofs.lemmas.List.Elements.{All-nil, All-cons, All-head, All-tail, All-map}
use Rattle.std.proofs.lemmas.List.Sums.{sum-map, sum_by_more_le}
use Rattle.std.proofs.Math.ListN.{length-map}
use Rattle.std.specs.Prelude.{ℤ}
use Rattle.sig_types.specs.Limits.{most_arrays, most_array_cells, most_cells}
use Rattle.vap_code.specs.Valid.{rise}
use Rattle.code_verify.specs.Shape.{ArraysFit}

rise_short : (xs : List ℕ) → length xs ≤ 1 → rise xs ≡ true
rise_short [] h = refl
rise_short (x ∷ []) h = refl
rise_short (x ∷ y ∷ xs) h = absurd (omega arith)

pub rise_end : (xs : List ℕ) (k : ℕ) → length xs ≤ k → rise (drop (k - 1) xs) ≡ true
rise_end xs k h = rise_short (drop (k - 1) xs) (omega (arith, length-drop (k - 1) xs))

pub sum_with : {A : Type 0} (f : A → ℕ) (xs : List A) (i : ℕ) (d : A) → i < length xs → sum (map f (take i xs)) + f (get_or xs i d) ≤ sum (map f xs)
sum_with f xs i d h = omega (arith, sum-map f (take i xs), sum-map f xs, sum_by_more_le f xs i d h)

pub all_images : {A B : Type 0} (P : B → Type 0) (f : A → B) (xs : List A) → All P (map f xs) → All (λ a. P (f a)) xs
all_images P f [] h = All-nil (λ a. P (f a))
all_images P f (x ∷ xs) h = All-cons (λ a. P (f a)) x xs (All-head P (f x) (map f xs) h) (all_images P f xs (All-tail P (f x) (map f xs) h))

pub map_map : {A B C : Type 0} (g : B → C) (f : A → B) (xs : List A) → map g (map f xs) ≡ map (λ a. g (f a)) xs
map_map g f [] = refl
map_map g f (x ∷ xs) = ap (λ ys. g (f x) ∷ ys) (map_map g f xs)

-- what the arrays of a code are asked, from what holds of their rows
module _ {A : Type 0} (cells : A → List ℤ) (arrays : List A) where
  abbrev pub RowsFit : Type 0
  RowsFit = All (λ a. (1 ≤ length (cells a)) × (length (cells a) ≤ most_array_cells)) arrays

  abbrev pub SumFits : Type 0
  SumFits = sum (map (λ a. length (cells a)) arrays) ≤ most_cells

  pub fit_arrays : length arrays ≤ most_arrays → RowsFit → SumFits → ArraysFit (map cells arrays)
  fit_arrays count rows all = record {
    at_most = omega (arith, length-map arrays cells);
    cells = All-map (λ c. (1 ≤ length c) × (length c ≤ most_array_cells)) cells arrays rows;
    all_cells = omega (arith, all, ap sum (map_map length cells arrays));
  }

  pub fit_count : ArraysFit (map cells arrays) → length arrays ≤ most_arrays
  fit_count fit = omega (arith, fit.at_most, length-map arrays cells)

  pub fit_rows : ArraysFit (map cells arrays) → RowsFit
  fit_rows fit = all_images (λ c. (1 ≤ length c) × (length c ≤ most_array_cells)) cells arrays fit.cells

  pub fit_sum : ArraysFit (map cells arrays) → SumFits
  fit_sum fit = omega (arith, fit.all_cells, ap sum (map_map length cells arrays))
