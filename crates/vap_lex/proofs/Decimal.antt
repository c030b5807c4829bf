-- The value of digits grows with each digit.
use Rattle.std.proofs.Common.{◌≡◌, ℕ, suc, ◌+◌, ◌-◌, ◌*◌, ◌<◌, ◌≤◌, List, [], ◌∷◌, length, drop, get_or, drop-cons, Some, None, refl, arith}
use Rattle.std.proofs.lemmas.Bool.{lt-leb}
use Rattle.std.specs.Prelude.{fold, nat_le, if◌then◌else◌}
use Rattle.vap_lex.specs.Piece.{decimal, number}

pub fold-grows : (digits : List ℕ) (n : ℕ) → n ≤ fold (λ n d. n * 10 + (d - 48)) n digits
fold-grows [] n = omega arith
fold-grows (d ∷ ds) n = omega (arith, fold-grows ds (n * 10 + (d - 48)))

abbrev step : ℕ → ℕ → ℕ
step n d = n * 10 + (d - 48)

large : (n : ℕ) → 2147483647 < n → (if nat_le n 2147483647 then Some n else None) ≡ None
large n lt = rw (lt-leb n 2147483647 lt) refl

pub too_large : (digits : List ℕ) (i v : ℕ) → i < length digits → 2147483647 < v * 10 + (get_or digits i 0 - 48) → fold step v (drop i digits) ≡ decimal digits → number digits ≡ None
too_large digits i v lt big goes =
    let grows = fold-grows (drop (suc i) digits) (v * 10 + (get_or digits i 0 - 48)) in
    let once : fold step v (drop i digits) ≡ fold step (v * 10 + (get_or digits i 0 - 48)) (drop (suc i) digits) = rw (drop-cons digits i 0) refl in
    let is : 2147483647 < decimal digits = omega (arith, once, goes, grows) in
    large (decimal digits) is
