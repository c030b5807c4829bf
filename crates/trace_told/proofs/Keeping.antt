-- Values that are kept anew, one after the other.
use Rattle.std.proofs.Common.{◌≡◌, ◌∙◌, ◌+◌, ◌<◌, ℕ, suc, List, [], ◌∷◌, ◌++◌, length, map, take, drop, get_or, set, refl, sym, ap, arith, subst, add-one, drop-cons, drop-set-lt, length-set}
use Rattle.std.proofs.lemmas.List.{map_more, take_more_set}
use Rattle.sig_types.specs.Pass.{Store}
use Rattle.trace_told.specs.declared.kept.Kept.{Kept}
use Rattle.trace_told.specs.Listing.{kept_anew}

heads : (x y : Kept) (xs ys : List Kept) → (x ∷ xs) ≡ (y ∷ ys) → x ≡ y
heads x y xs ys e = cc

tails : (x y : Kept) (xs ys : List Kept) → (x ∷ xs) ≡ (y ∷ ys) → xs ≡ ys
tails x y xs ys e = cc

-- one value more
pub keep_more : (s : Store) (now old : List Kept) (k : ℕ) (x d : Kept) → k < length now → length now ≡ length old →
    take k now ≡ map (kept_anew s) (take k old) → drop k now ≡ drop k old → x ≡ kept_anew s (get_or now k d) →
    (length (set now k x) ≡ length old)
    × (take (k + 1) (set now k x) ≡ map (kept_anew s) (take (k + 1) old))
    × (drop (k + 1) (set now k x) ≡ drop (k + 1) old)
keep_more s now old k x d below same front rest is =
    let within : k < length old = omega (arith, below, same) in
    let both : (get_or now k d ∷ drop (suc k) now) ≡ (get_or old k d ∷ drop (suc k) old) =
    sym (drop-cons now k d below) ∙ rest ∙ drop-cons old k d within in
    let here : get_or now k d ≡ get_or old k d = heads _ _ _ _ both in
    let behind : drop (k + 1) now ≡ drop (k + 1) old = rw add-one (tails _ _ _ _ both) in (
      length-set now k x ∙ same,
      take_more_set now k x below ∙ (λ j. front j ++ (is ∙ ap (kept_anew s) here) j ∷ []) ∙ sym (map_more (kept_anew s) old k d within),
      drop-set-lt (k + 1) now k x (omega arith) ∙ behind,
    )
