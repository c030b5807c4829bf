-- A list is what its places say.
use Rattle.std.proofs.Common.{◌≡◌, ◌∙◌, ℕ, zero, suc, ◌+◌, ◌<◌, ◌≤◌, List, [], ◌∷◌, ◌++◌, length, take, get_or, refl, sym, ap, arith}
use Rattle.std.proofs.lemmas.List.{take_more, take_all}
use Rattle.sig_types.specs.Words.{tabulate}

-- whatever stands for an item behind the list's end
pub tabulate-is : {A : Type 0} (f : ℕ → A) (d : A) (n : ℕ) (xs : List A) → length xs ≡ n → ((g : ℕ) → g < n → get_or xs g d ≡ f g) → xs ≡ tabulate f n
tabulate-is {A} f d n xs len each = sym (take_all n xs (omega (arith, len))) ∙ front n (omega (arith, len)) each
  where
    front : (m : ℕ) → m ≤ length xs → ((g : ℕ) → g < m → get_or xs g d ≡ f g) → take m xs ≡ tabulate f m
    front zero le each = refl
    front (suc m) le each =
        let s : suc m ≡ m + 1 = omega arith in
        let lt : m < length xs = omega (arith, le) in
        let below : m < suc m = omega arith in
        ap (λ k. take k xs) s ∙ take_more xs m d lt
        ∙ ap (λ l. l ++ get_or xs m d ∷ []) (front m (omega (arith, le)) (λ g h. each g (omega (arith, h))))
        ∙ ap (λ b. tabulate f m ++ b ∷ []) (each m below)
