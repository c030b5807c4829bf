-- The lines of the groups, one after another.
use Rattle.std.proofs.Common.{◌≡◌, ◌∙◌, ℕ, suc, zero, ◌+◌, ◌<◌, ◌≤◌, List, [], ◌∷◌, ◌++◌, length, get_or, take, refl, sym, ap, arith, append_assoc}
use Rattle.std.proofs.lemmas.List.{append-nil}
use Rattle.log_compare.specs.Text.{aspect_text, aspects_text}

-- one group more
aspect_more : (k : ℕ) (names : List (List ℕ)) (ones others : List ℕ) (n : ℕ) (d : List ℕ) (e f : ℕ) → n < length names → n < length ones → n < length others →
    aspects_text k (take (suc n) names) ones others
    ≡ aspects_text k (take n names) ones others ++ aspect_text k (get_or names n d) (get_or ones n e) (get_or others n f)
aspect_more k [] ones others n d e f inside one other = absurd (omega (arith, inside))
aspect_more k (x ∷ names) [] others n d e f inside one other = absurd (omega (arith, one))
aspect_more k (x ∷ names) (a ∷ ones) [] n d e f inside one other = absurd (omega (arith, other))
aspect_more k (x ∷ names) (a ∷ ones) (b ∷ others) zero d e f inside one other = append-nil (aspect_text k x a b)
aspect_more k (x ∷ names) (a ∷ ones) (b ∷ others) (suc n) d e f inside one other =
    ap (λ l. aspect_text k x a b ++ l) (aspect_more k names ones others n d e f (omega (arith, inside)) (omega (arith, one)) (omega (arith, other)))
    ∙ sym (append_assoc (aspect_text k x a b) (aspects_text k (take n names) ones others) (aspect_text k (get_or names n d) (get_or ones n e) (get_or others n f)))

pub aspects_more : (k : ℕ) (names : List (List ℕ)) (ones others : List ℕ) (n : ℕ) (x : List ℕ) → n < length names → n < length ones → n < length others →
    x ≡ get_or names n x →
    aspects_text k (take n names) ones others ++ aspect_text k x (get_or ones n 0) (get_or others n 0) ≡ aspects_text k (take (n + 1) names) ones others
aspects_more k names ones others n x inside one other name =
    let next : suc n ≡ n + 1 = omega arith in
    ap (λ w. aspects_text k (take n names) ones others ++ aspect_text k w (get_or ones n 0) (get_or others n 0)) name
    ∙ sym (aspect_more k names ones others n x 0 0 inside one other) ∙ ap (λ j. aspects_text k (take j names) ones others) next

-- without letters there is no line
no_ones : (k m : ℕ) (xs : List (List ℕ)) (ys : List ℕ) → aspects_text k (take m xs) [] ys ≡ []
no_ones k zero xs ys = refl
no_ones k (suc m) [] ys = refl
no_ones k (suc m) (x ∷ xs) ys = refl

no_others : (k m : ℕ) (xs : List (List ℕ)) (ys : List ℕ) → aspects_text k (take m xs) ys [] ≡ []
no_others k zero xs ys = refl
no_others k (suc m) [] ys = refl
no_others k (suc m) (x ∷ xs) [] = refl
no_others k (suc m) (x ∷ xs) (y ∷ ys) = refl

one_step : (k : ℕ) (xs : List (List ℕ)) (ones others : List ℕ) (m : ℕ) → length ones ≤ m →
    aspects_text k (take m xs) ones others ≡ aspects_text k (take (suc m) xs) ones others
one_step k [] ones others zero le = refl
one_step k [] ones others (suc m) le = refl
one_step k (x ∷ xs) [] others m le = no_ones k m (x ∷ xs) others ∙ sym (no_ones k (suc m) (x ∷ xs) others)
one_step k (x ∷ xs) (a ∷ ones) others zero le = absurd (omega (arith, le))
one_step k (x ∷ xs) (a ∷ ones) [] (suc m) le = refl
one_step k (x ∷ xs) (a ∷ ones) (b ∷ others) (suc m) le = ap (λ l. aspect_text k x a b ++ l) (one_step k xs ones others m (omega (arith, le)))

other_step : (k : ℕ) (xs : List (List ℕ)) (ones others : List ℕ) (m : ℕ) → length others ≤ m →
    aspects_text k (take m xs) ones others ≡ aspects_text k (take (suc m) xs) ones others
other_step k [] ones others zero le = refl
other_step k [] ones others (suc m) le = refl
other_step k (x ∷ xs) ones [] m le = no_others k m (x ∷ xs) ones ∙ sym (no_others k (suc m) (x ∷ xs) ones)
other_step k (x ∷ xs) [] (b ∷ others) zero le = absurd (omega (arith, le))
other_step k (x ∷ xs) [] (b ∷ others) (suc m) le = refl
other_step k (x ∷ xs) (a ∷ ones) (b ∷ others) zero le = absurd (omega (arith, le))
other_step k (x ∷ xs) (a ∷ ones) (b ∷ others) (suc m) le = ap (λ l. aspect_text k x a b ++ l) (other_step k xs ones others m (omega (arith, le)))

-- a group without a letter in the one line
pub no_letter : (k : ℕ) (names : List (List ℕ)) (ones others : List ℕ) (n : ℕ) → length ones ≤ n →
    aspects_text k (take n names) ones others ≡ aspects_text k (take (n + 1) names) ones others
no_letter k names ones others n past =
    let next : suc n ≡ n + 1 = omega arith in
    one_step k names ones others n past ∙ ap (λ j. aspects_text k (take j names) ones others) next

-- or in the other
pub no_other_letter : (k : ℕ) (names : List (List ℕ)) (ones others : List ℕ) (n : ℕ) → length others ≤ n →
    aspects_text k (take n names) ones others ≡ aspects_text k (take (n + 1) names) ones others
no_other_letter k names ones others n past =
    let next : suc n ≡ n + 1 = omega arith in
    other_step k names ones others n past ∙ ap (λ j. aspects_text k (take j names) ones others) next
