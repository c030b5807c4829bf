-- The first refusal, item by item.
use Rattle.std.proofs.Common.{◌≡◌, ℕ, zero, suc, ◌+◌, ◌-◌, ◌<◌, ◌≤◌, List, take, get_or, length, Option, Some, None, refl, arith, add-one, [], ◌∷◌, ◌++◌, length-append}
use Rattle.std.proofs.lemmas.List.{take-append-le, get_or_append_left}
use Rattle.std.proofs.Math.Seq.{take-append_seam, get_or-append_seam}
use Rattle.sig_types.specs.FirstRefused.{refused_to, first_refused}

-- one more item is accepted
pub accepted_more : {A W : Type 0} (judge : List A → A → Option W) (xs : List A) (d : A) (n : ℕ) → refused_to judge xs d n ≡ None →
    judge (take n xs) (get_or xs n d) ≡ None → refused_to judge xs d (n + 1) ≡ None
unfolding refused_to
accepted_more judge xs d n none next = rw (add-one, none) next

-- the first refusal stands
stands : {A W : Type 0} (judge : List A → A → Option W) (xs : List A) (d : A) (why : W) (n k : ℕ) → refused_to judge xs d n ≡ Some why → refused_to judge xs d (n + k) ≡ Some why
unfolding refused_to
stands judge xs d why n zero is = let e : n + 0 ≡ n = omega arith in rw e is
stands judge xs d why n (suc k) is = let e : n + suc k ≡ suc (n + k) = omega arith in rw (e, stands judge xs d why n k is) refl

pub refused_here : {A W : Type 0} (judge : List A → A → Option W) (xs : List A) (d : A) (why : W) (n : ℕ) → refused_to judge xs d n ≡ None → n < length xs →
    judge (take n xs) (get_or xs n d) ≡ Some why → first_refused judge xs d ≡ Some why
unfolding refused_to
refused_here judge xs d why n none lt here =
    let one : refused_to judge xs d (suc n) ≡ Some why = rw none here in
    let e : suc n + (length xs - suc n) ≡ length xs = omega arith in
    let all = stands judge xs d why (suc n) (length xs - suc n) one in
    rw e at all

-- the refusals among the items before n don't see the items after
same_before : {A W : Type 0} (judge : List A → A → Option W) (xs : List A) (y d : A) (n : ℕ) → n ≤ length xs → refused_to judge (xs ++ y ∷ []) d n ≡ refused_to judge xs d n
unfolding refused_to
same_before judge xs y d zero le = refl
same_before judge xs y d (suc n) le =
    let inside : n < length xs = omega arith in
    rw (same_before judge xs y d n (omega arith), take-append-le n xs (y ∷ []) (omega arith), get_or_append_left xs (y ∷ []) d n inside) refl

-- a list stays accepted with one more accepted item
pub accepted_pushed : {A W : Type 0} (judge : List A → A → Option W) (xs : List A) (y d : A) → first_refused judge xs d ≡ None → judge xs y ≡ None → first_refused judge (xs ++ y ∷ []) d ≡ None
unfolding refused_to
accepted_pushed judge xs y d none here =
    let size : length (xs ++ y ∷ []) ≡ suc (length xs) = omega (arith, length-append xs (y ∷ [])) in
    rw (size, same_before judge xs y d (length xs) (omega arith), none, take-append_seam xs (y ∷ []), get_or-append_seam xs y [] d) here
