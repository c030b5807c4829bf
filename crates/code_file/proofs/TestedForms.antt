-- Numbers and words of one line, as the readers test them.
use Rattle.std.proofs.Common.{◌≡◌, ◌∙◌, ℕ, zero, suc, ◌<◌, ◌^◌, Bool, true, false, cond, List, [], ◌∷◌, Option, Some, None, Ok, Err, refl, sym, ap, arith, nat_eq}
use Rattle.std.specs.Prelude.{if◌then◌else◌, ◌&&◌, nat_le, nat_lt, is_some, not}
use Rattle.std.specs.Option.{option_map}
use Rattle.std.proofs.lemmas.Bool.{true≢false, leb-false, le-ltb, le-leb}
use Rattle.std.proofs.lemmas.Fmt.{decimal_digit}
use lib.Pointwise.{pointwise}
use Rattle.std.proofs.lemmas.Slice.Eq.{bytes_eq-Decides}
use Rattle.sig_types.specs.Text.{number_of, within}
use Rattle.vap_code.specs.declared.Instr.{Instr}
use Rattle.code_file.specs.declared.refusal.CodeWhy.{CodeWhy}
use Rattle.code_file.specs.declared.refusal.CodeWhy.TheVariants.{Range}
use Rattle.code_file.specs.Reading.{numbered, within_range, below_zero}
use Rattle.code_file.specs.Values.{as_value}
use Rattle.code_file.proofs.Numerals.{number_found}
use Rattle.code_file.proofs.Steps.{some_is}

made_case : (make : ℕ → Instr) (c : Bool) (k n : ℕ) (i : Instr) (why : CodeWhy) → Ok n ≡ cond c (Ok k) (Err why) → Some i ≡ Some (make n) →
    Ok i ≡ cond c (Ok (make k)) (Err why)
made_case make true k n i why first second = (let same : n ≡ k = cc in let is : i ≡ make n = some_is _ _ second in rw (is, same) refl)
made_case make false k n i why first second = absurd cc

-- a number in its range, and the instruction of a word
pub numbered_is : (o : Option (ℕ → Instr)) (m : Option ℕ) (n : ℕ) (i : Instr) → Ok n ≡ within_range (λ x. x) 0 65535 Range m →
    Some i ≡ option_map (λ make. make n) o → Ok i ≡ numbered o m
numbered_is None m n i first second = absurd cc
numbered_is (Some make) None n i first second = absurd cc
numbered_is (Some make) (Some k) n i first second = made_case make (nat_le 0 k && nat_le k 65535) k n i Range first second

kept_case : (make : ℕ → Instr) (c : Bool) (k : ℕ) (why past : CodeWhy) → Err why ≡ cond c (Ok k) (Err past) → Err why ≡ cond c (Ok (make k)) (Err past)
kept_case make true k why past e = absurd cc
kept_case make false k why past e = cc

pub numbered_fails : (o : Option (ℕ → Instr)) (m : Option ℕ) (why : CodeWhy) → is_some (option_map (λ make. make 0) o) ≡ true →
    Err why ≡ within_range (λ x. x) 0 65535 Range m → Err why ≡ numbered o m
numbered_fails None m why some e = absurd (true≢false (sym some))
numbered_fails (Some make) None why some e = cc
numbered_fails (Some make) (Some k) why some e = kept_case make (nat_le 0 k && nat_le k 65535) k why Range e

far_case : (n : ℕ) (a b : Bool) → nat_le 1 (suc n) ≡ a → nat_le (suc n) 2147483648 ≡ b → None ≡ (if (a && b) then Some (suc n) else None) → 2147483648 < suc n
far_case n true true low high e = absurd cc
far_case n true false low high e = leb-false (suc n) 2147483648 high
far_case n false b low high e = absurd (true≢false (sym (le-leb 1 (suc n) (omega arith)) ∙ low))

-- a number below zero that is no number of 32 bits
pub below_refused : (ds : List ℕ) (o : Option ℕ) → number_of ds ≡ o → is_some o ≡ true → pointwise nat_eq ds (48 ∷ []) ≡ false →
    None ≡ within 1 2147483648 o → Err Range ≡ as_value (below_zero o)
below_refused ds None is some other e = absurd (true≢false (sym some))
below_refused ds (Some zero) is some other e =
    let zero_text : ds ≡ 48 ∷ [] = number_found ds 0 is (omega arith) ∙ decimal_digit 0 (omega arith) in
    absurd (true≢false (sym (ap (λ xs. pointwise nat_eq xs (48 ∷ [])) zero_text) ∙ other))
below_refused ds (Some (suc n)) is some other e =
    let far : 2147483648 < suc n = far_case n (nat_le 1 (suc n)) (nat_le (suc n) 2147483648) refl refl e in
    let no : nat_lt n (2 ^ 31) ≡ false = le-ltb n (2 ^ 31) (omega arith) in
    rw no refl

alone_case : (ds : List ℕ) (n : ℕ) (b : Bool) → number_of ds ≡ Some (suc n) → (b ≡ true → ds ≡ 48 ∷ []) → b ≡ false
alone_case ds n true is same = absurd (let zero_is : Some (suc n) ≡ Some 0 = sym is ∙ ap number_of (same refl) in omega (arith, some_is _ _ zero_is))
alone_case ds n false is same = refl

-- a number that isn't the digit 0 alone
pub positive_is : (ds : List ℕ) (o : Option ℕ) (t : Bool) → number_of ds ≡ o → is_some o ≡ true → t ≡ not (pointwise nat_eq ds (48 ∷ [])) →
    t ≡ is_some (below_zero o)
positive_is ds None t is some test = absurd (true≢false (sym some))
positive_is ds (Some zero) t is some test =
    let zero_text : ds ≡ 48 ∷ [] = number_found ds 0 is (omega arith) ∙ decimal_digit 0 (omega arith) in
    test ∙ ap (λ xs. not (pointwise nat_eq xs (48 ∷ []))) zero_text
positive_is ds (Some (suc n)) t is some test =
    let no = alone_case ds n (pointwise nat_eq ds (48 ∷ [])) is ((bytes_eq-Decides ds (48 ∷ [])).0) in
    test ∙ ap not no
