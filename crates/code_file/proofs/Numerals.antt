-- Numbers: each is read as it is written.
use Rattle.std.proofs.Common.{◌≡◌, ◌∙◌, ℕ, zero, suc, ◌<◌, ◌≤◌, ◌^◌, Bool, true, false, List, [], ◌∷◌, length, get_or, Option, Some, None, Ok, Err, refl, sym, ap, arith, inl, inr, nat_eq, ◌⊎◌, rules}
use Rattle.std.specs.Prelude.{if◌then◌else◌, ◌&&◌, ◌||◌, not, nat_le, ℤ, pos, negsuc}
use Rattle.std.specs.Option.{option_map}
use Rattle.std.specs.Fmt.{decimal, signed_decimal}
use Rattle.std.proofs.lemmas.Bool.{eqb-true, eq-eqb, ne_eqb, leb-true, le-leb, and_parts, true≢false}
use Rattle.std.proofs.lemmas.Bool.Decides.{nat_tests}
use Rattle.std.proofs.lemmas.Str.Parse.{IsNumeralModel, numerals_by_fold}
use Rattle.std.proofs.lemmas.Fmt.{digits_decimal, digits_value-decimal, decimal-digits_value, decimal_nonempty, first_decimal, decimal_digit}
use Rattle.sig_types.specs.Text.{is_digit, all_digits, value_from, number_of, is_empty}
use Rattle.sig_types.specs.Number.{fits}
use Rattle.code_file.specs.declared.refusal.CodeWhy.{CodeWhy}
use Rattle.code_file.specs.Reading.{within_range, below_zero, signed_by, signed_of}
use Rattle.code_file.proofs.Steps.{ok_is, some_is}
use Rattle.code_file.proofs.Cuts.{lacks, lacks_digits}

own : IsNumeralModel (λ ds. all_digits ds ≡ true) (value_from 0)
own = numerals_by_fold _ (search rules) value_from (search rules)

pub digits_of_decimal : (n : ℕ) → n < 2 ^ 64 → all_digits (decimal n) ≡ true
digits_of_decimal n small = digits_decimal own n small

number_plain : (ds : List ℕ) → all_digits ds ≡ true → 0 < length ds → (48 < get_or ds 0 0) ⊎ (length ds ≡ 1) → number_of ds ≡ Some (value_from 0 ds)
number_plain [] all some lead = absurd (omega (arith, some))
number_plain (d ∷ ds) all some (inl great) =
    let first : nat_eq d 48 ≡ false = ne_eqb d 48 (λ is. omega (arith, is, great)) in
    rw (all, first) refl
number_plain (d ∷ []) all some (inr one) = rw all (plain_one (nat_eq d 48))
  where
    plain_one : (b : Bool) → (if (true && (not b || true)) then Some (value_from 0 (d ∷ [])) else None) ≡ Some (value_from 0 (d ∷ []))
    plain_one true = refl
    plain_one false = refl
number_plain (d ∷ e ∷ ds) all some (inr one) = absurd (omega (arith, one))

leads : (n : ℕ) → n < 2 ^ 64 → (48 < get_or (decimal n) 0 0) ⊎ (length (decimal n) ≡ 1)
leads zero small = inr (ap length (decimal_digit 0 (omega arith)))
leads (suc n) small = inl (first_decimal (suc n) (omega arith) small)

-- what is written of a number is read as that number
pub number_again : (n : ℕ) → n < 2 ^ 64 → number_of (decimal n) ≡ Some n
number_again n small =
    number_plain (decimal n) (digits_decimal own n small) (decimal_nonempty n small) (leads n small) ∙ ap Some (digits_value-decimal own n small)

found_case : (d : ℕ) (ds : List ℕ) (a b : Bool) (n : ℕ) → all_digits (d ∷ ds) ≡ a → (not (nat_eq d 48) || is_empty ds) ≡ b →
    (if (a && b) then Some (value_from 0 (d ∷ ds)) else None) ≡ Some n → n < 2 ^ 64 → d ∷ ds ≡ decimal n
found_case d ds false b n all lead e small = absurd cc
found_case d ds true false n all lead e small = absurd cc
found_case d ds true true n all lead e small =
    let is : value_from 0 (d ∷ ds) ≡ n = some_is _ _ e in
    let short : value_from 0 (d ∷ ds) < 2 ^ 64 = omega (arith, is, small) in
    sym (decimal-digits_value own (d ∷ ds) all (omega arith) (λ zero_first. alone d ds zero_first lead) short) ∙ ap decimal is
  where
    alone : (d : ℕ) (ds : List ℕ) → d ≡ 48 → (not (nat_eq d 48) || is_empty ds) ≡ true → length (d ∷ ds) ≡ 1
    alone d [] is lead = refl
    alone d (x ∷ xs) is lead = let here : nat_eq d 48 ≡ true = eq-eqb d 48 is in absurd (true≢false (sym (rw here at lead)))

-- what is read as a number is what is written of it
pub number_found : (ds : List ℕ) (n : ℕ) → number_of ds ≡ Some n → n < 2 ^ 64 → ds ≡ decimal n
number_found [] n e small = absurd cc
number_found (d ∷ ds) n e small = found_case d ds (all_digits (d ∷ ds)) (not (nat_eq d 48) || is_empty ds) n refl refl e small

-- ---- numbers in a range

range_case : {A : Type 0} (make : ℕ → A) (least most : ℕ) (past : CodeWhy) (n : ℕ) (a b : Bool) (x : A) → nat_le least n ≡ a → nat_le n most ≡ b →
    (if (a && b) then Ok (make n) else Err past) ≡ Ok x → (least ≤ n) × (n ≤ most) × (make n ≡ x)
range_case make least most past n false b x low high e = absurd cc
range_case make least most past n true false x low high e = absurd cc
range_case make least most past n true true x low high e = (leb-true least n low, leb-true n most high, ok_is _ _ e)

-- what is made of a number in the range
pub range_found : {A : Type 0} (make : ℕ → A) (least most : ℕ) (past : CodeWhy) (ds : List ℕ) (x : A) → most < 2 ^ 64 →
    within_range make least most past (number_of ds) ≡ Ok x →
    (n : ℕ) × (least ≤ n) × (n ≤ most) × (make n ≡ x) × (ds ≡ decimal n)
range_found make least most past ds x small e = by_number (number_of ds) refl e
  where
    by_number : (o : Option ℕ) → number_of ds ≡ o → within_range make least most past o ≡ Ok x → (n : ℕ) × (least ≤ n) × (n ≤ most) × (make n ≡ x)
        × (ds ≡ decimal n)
    by_number None is e = absurd cc
    by_number (Some n) is e =
        let r = range_case make least most past n (nat_le least n) (nat_le n most) x refl refl e in
        (n, r.0, r.1, r.2, number_found ds n is (omega (arith, r.1, small)))

pub range_again : {A : Type 0} (make : ℕ → A) (least most : ℕ) (past : CodeWhy) (n : ℕ) → most < 2 ^ 64 → least ≤ n → n ≤ most →
    within_range make least most past (number_of (decimal n)) ≡ Ok (make n)
range_again make least most past n small low high =
    let a : nat_le least n ≡ true = le-leb least n low in
    let b : nat_le n most ≡ true = le-leb n most high in
    rw (number_again n (omega (arith, small, high)), a, b) refl

-- ---- signed numbers

signed_case : (b : ℕ) (bs : List ℕ) (t : Bool) (v : ℤ) → (t ≡ true → b ≡ 45) → signed_by t (b ∷ bs) bs ≡ Some v → fits v ≡ true → b ∷ bs ≡ signed_decimal v
signed_case b bs true v is e small = by_number (number_of bs) refl e
  where
    by_number : (o : Option ℕ) → number_of bs ≡ o → below_zero o ≡ Some v → b ∷ bs ≡ signed_decimal v
    by_number None n e = absurd cc
    by_number (Some zero) n e = absurd cc
    by_number (Some (suc n)) num e =
        let is_v : negsuc n ≡ v = some_is _ _ e in
        let minus : b ≡ 45 = is refl in
        let short : suc n < 2 ^ 64 = grind (arith, nat_tests, ap fits is_v, small) in
        rw (minus, number_found bs (suc n) num short) (ap signed_decimal is_v)
signed_case b bs false v is e small = by_number (number_of (b ∷ bs)) refl e
  where
    by_number : (o : Option ℕ) → number_of (b ∷ bs) ≡ o → option_map pos o ≡ Some v → b ∷ bs ≡ signed_decimal v
    by_number None n e = absurd cc
    by_number (Some n) num e =
        let is_v : pos n ≡ v = some_is _ _ e in
        let short : n < 2 ^ 64 = grind (arith, nat_tests, ap fits is_v, small) in
        number_found (b ∷ bs) n num short ∙ ap signed_decimal is_v

pub signed_found : (bs : List ℕ) (v : ℤ) → signed_of bs ≡ Some v → fits v ≡ true → bs ≡ signed_decimal v
signed_found [] v e small = absurd cc
signed_found (b ∷ bs) v e small = signed_case b bs (nat_eq b 45) v (eqb-true b 45) e small

plain_again : (n : ℕ) (ds : List ℕ) → decimal n ≡ ds → all_digits ds ≡ true → n < 2 ^ 64 → signed_of ds ≡ Some (pos n)
plain_again n [] is all small = absurd (let some = decimal_nonempty n small in omega (arith, some, ap length is))
plain_again n (d ∷ ds) is all small =
    let h = and_parts (is_digit d) (all_digits ds) all in
    let g = and_parts (nat_le 48 d) (nat_le d 57) h.0 in
    let least : 48 ≤ d = leb-true 48 d g.0 in
    let here : nat_eq d 45 ≡ false = ne_eqb d 45 (λ e. omega (arith, e)) in
    let num : number_of (d ∷ ds) ≡ Some n = ap number_of (sym is) ∙ number_again n small in
    rw (here, num) refl

pub signed_again : (v : ℤ) → fits v ≡ true → signed_of (signed_decimal v) ≡ Some v
signed_again (pos n) small =
    let short : n < 2 ^ 64 = grind (arith, nat_tests) in
    plain_again n (decimal n) refl (digits_of_decimal n short) short
signed_again (negsuc n) small =
    let short : suc n < 2 ^ 64 = grind (arith, nat_tests) in
    rw (number_again (suc n) short) refl

-- a signed number has no byte below 45
pub lacks_signed : (s : ℕ) (v : ℤ) → s < 45 → fits v ≡ true → lacks s (signed_decimal v) ≡ true
lacks_signed s (pos n) low small =
    let short : n < 2 ^ 64 = grind (arith, nat_tests) in
    lacks_digits s (decimal n) (omega arith) (digits_of_decimal n short)
lacks_signed s (negsuc n) low small =
    let short : suc n < 2 ^ 64 = grind (arith, nat_tests) in
    let here : nat_eq 45 s ≡ false = ne_eqb 45 s (λ e. omega (arith, e)) in
    rw here (lacks_digits s (decimal (suc n)) (omega arith) (digits_of_decimal (suc n) short))
