-- A list of names with their counts, as it grows.
use Rattle.std.proofs.Common.{◌≡◌, ◌∙◌, ℕ, suc, ◌+◌, ◌<◌, List, [], ◌∷◌, ◌++◌, length, take, get_or, refl, sym, ap, arith, append_assoc}
use Rattle.std.specs.List.{flat_map}
use Rattle.std.proofs.lemmas.List.{take_more, append-nil, length-take-le}
use Rattle.std.proofs.lemmas.Grind.{flat_map-append}
use Rattle.signal_log.specs.Summary.{tally, groups_text}

groups_text-append : (count : ℕ → ℕ) (g : ℕ) (names : List (List ℕ)) (name : List ℕ) →
    groups_text count g (names ++ name ∷ []) ≡ groups_text count g names ++ tally name (count (g + length names))
groups_text-append count g [] name = let z : g ≡ g + 0 = omega arith in append-nil (tally name (count g)) ∙ ap (λ k. tally name (count k)) z
groups_text-append count g (x ∷ names) name =
    let next : (g + 1) + length names ≡ g + suc (length names) = omega arith in
    ap (λ l. tally x (count g) ++ l) (groups_text-append count (g + 1) names name ∙ ap (λ k. groups_text count (g + 1) names ++ tally name (count k)) next)
    ∙ sym (append_assoc (tally x (count g)) (groups_text count (g + 1) names) (tally name (count (g + suc (length names)))))

-- one more group
pub groups_more : (count : ℕ → ℕ) (n : ℕ) (names : List (List ℕ)) (name : List ℕ) (k : ℕ) (text : List ℕ) → n < length names → name ≡ get_or names n [] →
    k ≡ count n → (text ++ groups_text count 0 (take n names)) ++ tally name k ≡ text ++ groups_text count 0 (take (n + 1) names)
groups_more count n names name k text lt is counted =
    let at : 0 + length (take n names) ≡ n = omega (arith, length-take-le n names) in
    append_assoc text (groups_text count 0 (take n names)) (tally name k)
    ∙ ap (λ l. text ++ l) ((λ j. groups_text count 0 (take n names) ++ tally (is j) (counted j))
    ∙ ap (λ m. groups_text count 0 (take n names) ++ tally (get_or names n []) (count m)) (sym at)
    ∙ sym (groups_text-append count 0 (take n names) (get_or names n [])) ∙ ap (groups_text count 0) (sym (take_more names n [] lt)))

-- groups with the same counts
pub groups_text-same : (count also : ℕ → ℕ) (g : ℕ) (names : List (List ℕ)) → ((k : ℕ) → k < g + length names → count k ≡ also k) →
    groups_text count g names ≡ groups_text also g names
groups_text-same count also g [] same = refl
groups_text-same count also g (name ∷ names) same =
    (λ j. tally name (same g (omega arith) j) ++ groups_text-same count also (g + 1) names (λ k lt. same k (omega arith)) j)

-- one more item of a text of items
pub items_more : {A : Type 0} (f : A → List ℕ) (n : ℕ) (xs : List A) (x : A) (text : List ℕ) → n < length xs →
    (text ++ flat_map f (take n xs)) ++ f (get_or xs n x) ≡ text ++ flat_map f (take (n + 1) xs)
items_more f n xs x text lt =
    append_assoc text (flat_map f (take n xs)) (f (get_or xs n x))
    ∙ ap (λ l. text ++ l) (ap (λ l. flat_map f (take n xs) ++ l) (sym (append-nil (f (get_or xs n x))))
    ∙ sym (flat_map-append f (take n xs) (get_or xs n x ∷ [])) ∙ ap (flat_map f) (sym (take_more xs n x lt)))
