-- The numbers that a table has at a place.
use Rattle.std.proofs.Common.{◌≡◌, ℕ, zero, suc, ◌+◌, ◌-◌, ◌<◌, ◌≤◌, List, [], ◌∷◌, ◌++◌, length, get_or, true, false, refl, ap, ◌∙◌, arith, length-append, ⊎_elim}
use Rattle.std.proofs.lemmas.Bool.{cases_lt}
use Rattle.std.proofs.lemmas.List.{drop-set, get_or-append-add, get_or_append_left}
use Rattle.std.specs.Prelude.{if◌then◌else◌, nat_lt}
use Rattle.std.proofs.Common.{drop, set}
use Rattle.vap_code.specs.declared.Instr.{Instr}
use Rattle.vap_code.specs.Valid.{end_above, from_last, from_first, greatest, later_at, instr_at}
use Rattle.code_verify.specs.declared.tables.Number.{Number}
use Rattle.code_verify.specs.Tables.{number_of, number_before}

-- a table that is made from its last place back: `head n later` is the number of the n-th place from the end
module _ (head : ℕ → List ℕ → ℕ) where
  pub at_from_last : (n i : ℕ) → i < n → get_or (from_last head n) i 0 ≡ head (n - i) (from_last head (n - i - 1))
  at_from_last zero i h = absurd (omega arith)
  at_from_last (suc n) zero h =
      let a : suc n ≡ suc n - 0 = omega arith in
      let b : n ≡ suc n - 0 - 1 = omega arith in
      ap (λ k. head k (from_last head n)) a ∙ ap (λ k. head (suc n - 0) (from_last head k)) b
  at_from_last (suc n) (suc i) h =
      let a : n - i ≡ suc n - suc i = omega arith in
      at_from_last n i (omega arith) ∙ ap (λ k. head k (from_last head (k - 1))) a

  pub later_from_last : (n i j : ℕ) → i ≤ n → get_or (from_last head (n - i)) j 0 ≡ get_or (from_last head n) (i + j) 0
  later_from_last n zero j h =
      let a : n - 0 ≡ n = omega arith in
      let b : j ≡ 0 + j = omega arith in
      ap (λ k. get_or (from_last head k) j 0) a ∙ ap (λ k. get_or (from_last head n) k 0) b
  later_from_last zero (suc i) j h = absurd (omega arith)
  later_from_last (suc n) (suc i) j h =
      let a : suc n - suc i ≡ n - i = omega arith in
      let b : suc (i + j) ≡ suc i + j = omega arith in
      ap (λ k. get_or (from_last head k) j 0) a ∙ later_from_last n i j (omega arith) ∙ ap (λ k. get_or (from_last head (suc n)) k 0) b

pub end_above_within : (starts : List ℕ) (all p : ℕ) → ((k : ℕ) → k < length starts → get_or starts k 0 < all) → end_above starts all p ≤ all
end_above_within [] all p h = omega arith
end_above_within (start ∷ starts) all p h =
    let here : start < all = h 0 (omega arith) in
    let rest = end_above_within starts all p (λ k lt. h (suc k) (omega arith)) in
    elim (nat_lt p start) as (λ b. (if b then start else end_above starts all p) ≤ all) [ true ↦ omega arith | false ↦ rest ]

module _ (step : List ℕ → ℕ) where
  pub length-from_first : (n : ℕ) → length (from_first step n) ≡ n
  length-from_first zero = refl
  length-from_first (suc n) = omega (arith, length-append (from_first step n) (step (from_first step n) ∷ []), length-from_first n)

  pub at_from_first : (n p : ℕ) → p < n → get_or (from_first step n) p 0 ≡ step (from_first step p)
  at_from_first zero p h = absurd (omega arith)
  at_from_first (suc n) p h =
      let xs = from_first step n in
      let len = length-from_first n in
      ⊎_elim
      (λ lt. let within : p < length xs = omega arith in get_or_append_left xs (step xs ∷ []) 0 p within ∙ at_from_first n p lt)
      (λ le. let e : p ≡ length xs + 0 = omega arith in let e' : n ≡ p = omega arith in
      ap (λ k. get_or (xs ++ step xs ∷ []) k 0) e ∙ get_or-append-add xs (step xs ∷ []) 0 0 ∙ ap (λ k. step (from_first step k)) e')
      (cases_lt p n)

-- ---- one number more

module _ (step : List ℕ → ℕ) where
  pub from_first_more : (hs : List ℕ) (p h : ℕ) → hs ≡ from_first step p → h ≡ step hs → hs ++ h ∷ [] ≡ from_first step (p + 1)
  from_first_more hs p h is e =
      let next : suc p ≡ p + 1 = omega arith in
      ap (λ n. hs ++ n ∷ []) e ∙ ap (λ xs. xs ++ step xs ∷ []) is ∙ ap (from_first step) next

pub low_push : (hs : List ℕ) (h : ℕ) → ((k : ℕ) → k < length hs → get_or hs k 0 ≤ k) → h ≤ length hs → (k : ℕ) → k < length (hs ++ h ∷ []) →
    get_or (hs ++ h ∷ []) k 0 ≤ k
low_push hs h low le k lt =
    ⊎_elim
    (λ less. omega (arith, low k less, get_or_append_left hs (h ∷ []) 0 k less))
    (λ more. let e : k ≡ length hs + 0 = omega (arith, length-append hs (h ∷ [])) in
    omega (arith, le, e, ap (λ n. get_or (hs ++ h ∷ []) n 0) e, get_or-append-add hs (h ∷ []) 0 0))
    (cases_lt k (length hs))

pub length-from_last : (head : ℕ → List ℕ → ℕ) (n : ℕ) → length (from_last head n) ≡ n
length-from_last head zero = refl
length-from_last head (suc n) = omega (arith, length-from_last head n)

module _ (number : Number) (instrs : List Instr) (starts : List ℕ) where
  pub from_last_more : (table : List ℕ) (n p v : ℕ) → p ≡ length instrs - 1 - n → n < length instrs → length table ≡ length instrs →
      drop (length instrs - n) table ≡ from_last (number_before number instrs starts) n →
      v ≡ number_of number (instr_at instrs p) (greatest instrs starts p (later_at instrs p (drop (p + 1) table))) →
      drop (length instrs - (n + 1)) (set table p v) ≡ from_last (number_before number instrs starts) (n + 1)
  from_last_more table n p v at lt long is e =
      let here : length instrs - (n + 1) ≡ p = omega arith in
      let from : p ≡ length instrs - suc n = omega arith in
      let after : p + 1 ≡ length instrs - n = omega arith in
      let next : suc n ≡ n + 1 = omega arith in
      let later : drop (p + 1) table ≡ from_last (number_before number instrs starts) n = ap (λ k. drop k table) after ∙ is in
      ap (λ k. drop k (set table p v)) here
      ∙ drop-set table p v (omega arith)
      ∙ ap (λ xs. v ∷ xs) later
      ∙ ap (λ x. x ∷ from_last (number_before number instrs starts) n) (
      e
      ∙ ap (λ xs. number_of number (instr_at instrs p) (greatest instrs starts p (later_at instrs p xs))) later
      ∙ ap (λ q. number_of number (instr_at instrs q) (greatest instrs starts q (later_at instrs q (from_last (number_before number instrs starts) n)))) from
      )
      ∙ ap (from_last (number_before number instrs starts)) next

pub low_set : (table : List ℕ) (p v n : ℕ) → ((k : ℕ) → get_or table k 0 ≤ n) → v ≤ n + 1 → (k : ℕ) → get_or (set table p v) k 0 ≤ n + 1
low_set [] p v n low le k = omega (arith, low k)
low_set (x ∷ xs) zero v n low le zero = le
low_set (x ∷ xs) zero v n low le (suc k) = omega (arith, low (suc k))
low_set (x ∷ xs) (suc p) v n low le zero = omega (arith, low 0)
low_set (x ∷ xs) (suc p) v n low le (suc k) = low_set xs p v n (λ j. low (suc j)) le k
