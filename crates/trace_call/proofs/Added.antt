-- Words in pairs: an option, and the file behind it.
use Rattle.std.proofs.Common.{◌≡◌, ◌∙◌, ◌<◌, ◌≤◌, ◌-◌, ◌∷◌, [], ℕ, List, true, false, length, take, drop, get_or, map, ap, sym, refl, arith}
use Rattle.std.proofs.lemmas.Bool.{eqb-true}
use Rattle.std.proofs.lemmas.List.{length-drop, take_all}
use Rattle.std.specs.Bool.{◌==◌}
use Rattle.trace_call.specs.Form.{are_added, files_in}

-- a word alone is no option with its file
pub one_word : {A : Type 0} (f : A → List ℕ) (words : List A) → false ≡ (length words == 0) → length words < 2 → are_added (map f words) ≡ false
one_word f [] some few = absurd cc
one_word f (w ∷ []) some few = refl
one_word f (v ∷ w ∷ ws) some few = absurd (omega (arith, few))

-- nor does it name a file
pub few_files : {A : Type 0} (f : A → List ℕ) (words : List A) → length words < 2 → files_in (map f words) ≡ []
few_files f [] few = refl
few_files f (w ∷ []) few = refl
few_files f (v ∷ w ∷ ws) few = absurd (omega (arith, few))

-- without words there are no files
pub no_files : {A : Type 0} (f : A → List ℕ) (words : List A) → true ≡ (length words == 0) → files_in (map f words) ≡ []
no_files f [] none = refl
no_files f (w ∷ ws) none = absurd (omega (arith, eqb-true (length (w ∷ ws)) 0 (sym none)))

-- the second word is the first file
pub file_is : {A : Type 0} (f : A → List ℕ) (words : List A) (x : A) (name : List ℕ) → 2 ≤ length words → x ≡ get_or words 1 x → name ≡ f x →
    files_in (map f words) ≡ name ∷ files_in (map f (drop 2 words))
file_is f [] x name long at is = absurd (omega (arith, long))
file_is f (v ∷ []) x name long at is = absurd (omega (arith, long))
file_is f (v ∷ w ∷ ws) x name long at is = ap (λ n. n ∷ files_in (map f ws)) (sym (is ∙ ap f at))

-- what is behind the first two words, cut where they end
pub behind_is : {A : Type 0} (n : ℕ) (words : List A) → length words - 2 ≤ n → take n (drop 2 words) ≡ drop 2 words
behind_is n words most = take_all n (drop 2 words) (omega (arith, most, length-drop 2 words))
