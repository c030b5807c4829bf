-- Numbers: each is read as it is written.
use Rattle.std.proofs.Common.{◌≡◌, ◌∙◌, ◌⊎◌, ℕ, zero, suc, ◌^◌, ◌<◌, ◌≤◌, Bool, true, false, List, [], ◌∷◌, length, get_or, Some, None, refl, ap, arith, inl, inr, nat_eq, rules}
use Rattle.std.specs.Prelude.{if◌then◌else◌, ◌&&◌, ◌||◌, not, nat_le}
use Rattle.std.specs.Fmt.{decimal}
use Rattle.std.proofs.lemmas.Bool.{le-leb, ne_eqb}
use Rattle.std.proofs.lemmas.Fmt.{decimal_digit, decimal_nonempty, digits_decimal, digits_value-decimal, first_decimal}
use Rattle.std.proofs.lemmas.Str.Parse.{IsNumeralModel, numerals_by_fold}
use Rattle.sig_types.specs.Text.{all_digits, number_of, value_from, within}

own : IsNumeralModel (λ ds. all_digits ds ≡ true) (value_from 0)
own = numerals_by_fold _ (search rules) value_from (search rules)

number_plain : (ds : List ℕ) → all_digits ds ≡ true → 0 < length ds → (48 < get_or ds 0 0) ⊎ (length ds ≡ 1) →
    number_of ds ≡ Some (value_from 0 ds)
number_plain [] all some lead = absurd (omega (arith, some))
number_plain (d ∷ ds) all some (inl great) =
    let first : nat_eq d 48 ≡ false = ne_eqb d 48 (λ is. omega (arith, is, great)) in
    rw (all, first) refl
number_plain (d ∷ []) all some (inr one) = rw all (plain_one (nat_eq d 48))
  where
    plain_one : (b : Bool) → (if (true && (not b || true)) then Some (value_from 0 (d ∷ [])) else None) ≡ Some (value_from 0 (d ∷ []))
    plain_one true = refl
    plain_one false = refl
number_plain (d ∷ e ∷ ds) all some (inr one) = absurd (omega (arith, one))

leads : (n : ℕ) → n < 2 ^ 64 → (48 < get_or (decimal n) 0 0) ⊎ (length (decimal n) ≡ 1)
leads zero small = inr (ap length (decimal_digit 0 (omega arith)))
leads (suc n) small = inl (first_decimal (suc n) (omega arith) small)

number_again : (n : ℕ) → n < 2 ^ 64 → number_of (decimal n) ≡ Some n
number_again n small =
    number_plain (decimal n) (digits_decimal own n small) (decimal_nonempty n small) (leads n small)
    ∙ ap Some (digits_value-decimal own n small)

-- what is written of a number in a range is read as that number
pub number_within : (least most n : ℕ) → most < 2 ^ 64 → least ≤ n → n ≤ most → within least most (number_of (decimal n)) ≡ Some n
number_within least most n small low high =
    let a : nat_le least n ≡ true = le-leb least n low in
    let b : nat_le n most ≡ true = le-leb n most high in
    rw (number_again n (omega (arith, small, high)), a, b) refl
