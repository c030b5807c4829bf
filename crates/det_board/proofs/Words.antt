-- Words of a detector, and the values read of a word.
use Rattle.std.proofs.Common.{◌≡◌, ◌≢◌, ℕ, ◌<◌, List, [], ◌∷◌, ◌++◌, length, refl, sym, ap, ◌∙◌, subst, get_or-set_same, get_or-set_other, Some, None, cond, eq-eqb, ne_eqb}
use Rattle.std.specs.Prelude.{slice_index_or}
use mathlib.Core.Logic.{dite}
use native.Mathlib.Decide.{ℕ_discrete}
use Rattle.det_board.specs.declared.view.View.TheVariants.{Feeder}
use Rattle.det_board.specs.Rule.{last_from, last_read, loads_after, owned_by}

pub last_from-push : (n : ℕ) (xs : List ℕ) (x : ℕ) → last_from n (xs ++ x ∷ []) ≡ x
last_from-push n [] x = refl
last_from-push n (y ∷ xs) x = last_from-push y xs x

pub last_read-here : (loads : List (List ℕ)) (w n : ℕ) → w < length loads → last_read (loads_after loads w n) w ≡ n
last_read-here loads w n inside = ap (last_from 0) (get_or-set_same {A = List ℕ} loads w (slice_index_or loads w [] ++ n ∷ []) [] inside) ∙
    last_from-push 0 (slice_index_or loads w []) n

pub last_read-else : (loads : List (List ℕ)) (w n k : ℕ) → k ≢ w → last_read (loads_after loads w n) k ≡ last_read loads k
last_read-else loads w n k apart = ap (last_from 0) (get_or-set_other loads w k (slice_index_or loads w [] ++ n ∷ []) [] apart)

pub owned_here : (k f r : ℕ) → owned_by (Feeder k f r) k ≡ Some (f, r)
owned_here k f r = rw (eq-eqb k k refl)

pub owned_only : (k f r d : ℕ) (c : ℕ × ℕ) → owned_by (Feeder k f r) d ≡ Some c → (d ≡ k) × (c ≡ (f, r))
owned_only k f r d c e = dite (ℕ_discrete d k)
    (λ same. (same, sym (some_is (subst (λ b. cond b (Some (f, r)) None ≡ Some c) (eq-eqb d k same) e))))
    (λ ne. absurd (none_is (subst (λ b. cond b (Some (f, r)) None ≡ Some c) (ne_eqb d k ne) e)))
  where
    some_is : {a b : ℕ × ℕ} → Some a ≡ Some b → a ≡ b
    some_is e = cc

    none_is : {b : ℕ × ℕ} → None ≡ Some b → ⊥
    none_is e = cc
