-- One part more of what a site gives a diagram, and names that stay what they are.
use Rattle.std.proofs.Common.{◌≡◌, ◌∙◌, ℕ, ◌+◌, ◌<◌, ◌≤◌, List, [], ◌∷◌, ◌++◌, length, take, get_or, refl, sym, ap, arith, add-one}
use Rattle.std.proofs.lemmas.List.{take_all, take_more}
use Rattle.std.proofs.lemmas.Bool.{and_parts, le-leb, leb-true}
use Rattle.std.specs.Prelude.{true, ◌&&◌, nat_le}
use Rattle.sig_types.specs.Text.{is_letter, is_name, is_word}
use Rattle.pua_model.specs.Plan.{are_names}
use Rattle.report_judged.specs.SiteParts.{minimums_to, short_name, short_names}

pub minimums_more : (minimum : ℕ → ℕ) (n : ℕ) → minimums_to minimum (n + 1) ≡ minimums_to minimum n ++ minimum n ∷ []
unfolding minimums_to
minimums_more minimum n = rw add-one refl

-- two lists that are the same up to a place, and there
pub same_more : {A : Type 0} (xs ys : List A) (n : ℕ) (d : A) → n < length xs → n < length ys → take n xs ≡ take n ys → get_or xs n d ≡ get_or ys n d →
    take (n + 1) xs ≡ take (n + 1) ys
same_more xs ys n d inside within before here =
    take_more xs n d inside ∙ ap (λ l. l ++ get_or xs n d ∷ []) before ∙ ap (λ x. take n ys ++ x ∷ []) here ∙ sym (take_more ys n d within)

pub same_whole : {A : Type 0} (xs ys : List A) (n : ℕ) → length xs ≤ n → length ys ≤ n → take n xs ≡ take n ys → xs ≡ ys
same_whole xs ys n short small same = sym (take_all n xs short) ∙ same ∙ take_all n ys small

-- a name has 1 to 32 bytes
short_name_same : (name : List ℕ) → is_name name ≡ true → short_name name ≡ name
short_name_same [] is = absurd (cc)
short_name_same (b ∷ bs) is =
    let few : length bs ≤ 31 = leb-true (length bs) 31 (and_parts (is_letter b && is_word bs) (nat_le (length bs) 31) is).1 in
    let all : nat_le (length (b ∷ bs)) 32 ≡ true = le-leb (length (b ∷ bs)) 32 (omega (arith, few)) in
    let some : nat_le 1 (length (b ∷ bs)) ≡ true = le-leb 1 (length (b ∷ bs)) (omega arith) in
    rw (some, all) refl

-- names stay what they are
pub short_names_same : (names : List (List ℕ)) → are_names names ≡ true → short_names names ≡ names
short_names_same [] is = refl
short_names_same (n ∷ ns) is =
    let parts = and_parts (is_name n) (are_names ns) is in
    ap (λ (m : List ℕ). m ∷ short_names ns) (short_name_same n parts.0) ∙ ap (λ (ms : List (List ℕ)). n ∷ ms) (short_names_same ns parts.1)
