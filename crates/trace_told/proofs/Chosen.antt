-- Values that are chosen word by word.
use Rattle.std.proofs.Common.{◌≡◌, ◌∙◌, ℕ, zero, suc, ◌+◌, ◌<◌, List, [], ◌∷◌, ◌++◌, length, map, take, String, Global, refl, sym, ap, subst, arith, get_or, append_assoc, add-one, inl, inr, ◌⊎◌, ◌≢◌, true, false, nat_eq}
use Rattle.std.specs.Prelude.{slice_index_or, string_bytes}
use Rattle.std.proofs.lemmas.Bool.Decides.{eqb_tells}
use Rattle.std.proofs.lemmas.List.{append-nil}
use Rattle.vap_ast.specs.Syntax.{Program}
use Rattle.trace_told.specs.declared.columns.Column.{Column}
use Rattle.trace_told.specs.Columns.{chosen_by, meant_by}

-- the word at a place
pub word_at : (words : List (String Global)) (k : ℕ) (it : String Global) → k < length words →
    slice_index_or (map string_bytes words) k [] ≡ string_bytes (get_or words k it)
word_at [] k it below = absurd (omega arith)
word_at (w ∷ ws) zero it below = refl
word_at (w ∷ ws) (suc k) it below = word_at ws k it (omega arith)

chosen_next : (p : Program) (columns : List Column) (words : List (List ℕ)) (k : ℕ) → k < length words →
    chosen_by p columns (take (suc k) words) ≡ chosen_by p columns (take k words) ++ meant_by p columns (slice_index_or words k [])
chosen_next p columns [] k below = absurd (omega arith)
chosen_next p columns (w ∷ ws) zero below = append-nil (meant_by p columns w)
chosen_next p columns (w ∷ ws) (suc k) below =
    ap (λ l. meant_by p columns w ++ l) (chosen_next p columns ws k (omega arith))
    ∙ sym (append_assoc (meant_by p columns w) (chosen_by p columns (take k ws)) (meant_by p columns (slice_index_or ws k [])))

-- one word more
pub chosen_more : (p : Program) (columns : List Column) (words : List (List ℕ)) (k : ℕ) → k < length words →
    chosen_by p columns (take (k + 1) words) ≡ chosen_by p columns (take k words) ++ meant_by p columns (slice_index_or words k [])
chosen_more p columns words k below = rw add-one (chosen_next p columns words k below)

-- what holds at each place before another, and there
pub each_more : (P : ℕ → Type 0) (k : ℕ) → ((j : ℕ) → j < k → P j) → P k → (j : ℕ) → j < k + 1 → P j
each_more P k before here j below = either (eqb_tells j k)
  where
    either : ((nat_eq j k ≡ true) × (j ≡ k)) ⊎ ((nat_eq j k ≡ false) × (j ≢ k)) → P j
    either (inl t) = subst P (sym t.1) here
    either (inr t) = let other = t.1 in before j (omega (arith, below, other))
