-- What names are, by the names that are kept.
use Rattle.std.proofs.Common.{◌≡◌, ℕ, suc, ◌+◌, Bool, true, false, not, cond, List, [], ◌∷◌, ◌++◌, length, Option, None, Some, refl, sym, ap, ◌∙◌, if◌then◌else◌, arith}
use Rattle.std.specs.Prelude.{position, nat_lt}
use Rattle.std.specs.List.{position_or_len}
use Rattle.std.proofs.lemmas.Bool.Decides.{nat_tests}
use Rattle.std.specs.Option.{option_map, option_or}
use Rattle.std.specs.Str.{bytes_eq}
use Rattle.std.proofs.lemmas.Slice.Eq.{bytes_eq-Decides}
use Rattle.vap_ast.specs.declared.name.Entry.{Entry}
use Rattle.vap_ast.specs.declared.name.Meaning.{Meaning}
use Rattle.vap_ast.specs.declared.name.Meaning.TheVariants.{Array, Sub, Timer, Variable}
use Rattle.vap_ast.specs.Names.{meaning_in}
use Rattle.vap_check.specs.Numbers.{numbered, entries}

same_truth : (b c : Bool) → (b ≡ true → c ≡ true) → (c ≡ true → b ≡ true) → b ≡ c
same_truth true c f g = sym (f refl)
same_truth false true f g = g refl
same_truth false false f g = refl

pub turned : (a b : List ℕ) → bytes_eq a b ≡ bytes_eq b a
turned a b = same_truth (bytes_eq a b) (bytes_eq b a) (λ e. (bytes_eq-Decides b a).1 (sym ((bytes_eq-Decides a b).0 e)))
    (λ e. (bytes_eq-Decides a b).1 (sym ((bytes_eq-Decides b a).0 e)))

later : (n m : ℕ) → cond (nat_lt (1 + n) (suc m)) (Some (1 + n)) None ≡ option_map suc (cond (nat_lt n m) (Some n) None)
later n m =
    let e : nat_lt (1 + n) (suc m) ≡ nat_lt n m = grind (arith, nat_tests) in
    let one : 1 + n ≡ suc n = omega arith in
    ap (λ b. cond b (Some (1 + n)) None) e ∙ ap (λ k. cond (nat_lt n m) (Some k) None) one
    ∙ (elim (nat_lt n m) as (λ b. cond b (Some (suc n)) None ≡ option_map suc (cond b (Some n) None)) [ true ↦ refl | false ↦ refl ])

pub position_step : (t : List ℕ → Bool) (x : List ℕ) (xs : List (List ℕ)) → position t (x ∷ xs) ≡ cond (t x) (Some 0) (option_map suc (position t xs))
position_step t x xs =
    let e : nat_lt 0 (suc (length xs)) ≡ true = grind (arith, nat_tests) in
    elim (t x) as (λ b. cond (nat_lt (cond (not b) (1 + position_or_len t xs) 0) (suc (length xs)))
    (Some (cond (not b) (1 + position_or_len t xs) 0)) None ≡ cond b (Some 0) (option_map suc (position t xs))) [
      | true ↦ ap (λ b. cond b (Some 0) None) e
      | false ↦ later (position_or_len t xs) (length xs)
    ]

number_step : (f : ℕ → Meaning) (k : ℕ) (o : Option ℕ) → option_map (λ i. f (k + 1 + i)) o ≡ option_map (λ i. f (k + i)) (option_map suc o)
number_step f k None = refl
number_step f k (Some i) = let e : k + 1 + i ≡ k + suc i = omega arith in ap (λ j. Some (f j)) e

number_first : (f : ℕ → Meaning) (k : ℕ) → Some (f k) ≡ option_map (λ i. f (k + i)) (Some 0)
number_first f k = let e : k ≡ k + 0 = omega arith in ap (λ j. Some (f j)) e

number_found : (f : ℕ → Meaning) (ns : List (List ℕ)) (k : ℕ) (n : List ℕ) →
    meaning_in (numbered f k ns) n ≡ option_map (λ i. f (k + i)) (position (bytes_eq n) ns)
number_found f [] k n = refl
number_found f (x ∷ xs) k n =
    ap (λ b. if b then Some (f k) else meaning_in (numbered f (k + 1) xs) n) (turned x n)
    ∙ (elim (bytes_eq n x) as (λ b. (if b then Some (f k) else meaning_in (numbered f (k + 1) xs) n) ≡ option_map (λ i. f (k + i))
    (cond b (Some 0) (option_map suc (position (bytes_eq n) xs)))) [
      | true ↦ number_first f k
      | false ↦ number_found f xs (k + 1) n ∙ number_step f k (position (bytes_eq n) xs)
    ])
    ∙ sym (ap (option_map (λ i. f (k + i))) (position_step (bytes_eq n) x xs))

from_zero : (f : ℕ → Meaning) (o : Option ℕ) → option_map (λ i. f (0 + i)) o ≡ option_map f o
from_zero f None = refl
from_zero f (Some i) = let e : 0 + i ≡ i = omega arith in ap (λ j. Some (f j)) e

pub numbers_found : (f : ℕ → Meaning) (ns : List (List ℕ)) (n : List ℕ) → meaning_in (numbered f 0 ns) n ≡ option_map f (position (bytes_eq n) ns)
numbers_found f ns n = number_found f ns 0 n ∙ from_zero f (position (bytes_eq n) ns)

meaning_on : (a b : List Entry) (n : List ℕ) → meaning_in (a ++ b) n ≡ option_or (meaning_in a n) (meaning_in b n)
meaning_on [] b n = refl
meaning_on (e ∷ a) b n = elim (bytes_eq e.name n) as
    (λ c. (if c then Some e.meaning else meaning_in (a ++ b) n) ≡ option_or (if c then Some e.meaning else meaning_in a n) (meaning_in b n))
    [ true ↦ refl | false ↦ meaning_on a b n ]

-- a name is the first of what it may be
pub meaning_is : (consts : List Entry) (arrays subs timers variables : List (List ℕ)) (n : List ℕ) → meaning_in (entries consts arrays subs timers variables) n
    ≡ option_or (meaning_in consts n) (option_or (option_map Array (position (bytes_eq n) arrays)) (option_or (option_map Sub (position (bytes_eq n) subs))
    (option_or (option_map Timer (position (bytes_eq n) timers)) (option_map Variable (position (bytes_eq n) variables)))))
meaning_is consts arrays subs timers variables n =
    let a = numbered Array 0 arrays in
    let s = numbered Sub 0 subs in
    let t = numbered Timer 0 timers in
    let v = numbered Variable 0 variables in
    meaning_on consts (a ++ (s ++ (t ++ v))) n
    ∙ ap (option_or (meaning_in consts n)) (meaning_on a (s ++ (t ++ v)) n ∙
    (λ i. option_or (numbers_found Array arrays n i)
    ((meaning_on s (t ++ v) n ∙ (λ j. option_or (numbers_found Sub subs n j)
    ((meaning_on t v n ∙ (λ k. option_or (numbers_found Timer timers n k) (numbers_found Variable variables n k))) j))) i)))
