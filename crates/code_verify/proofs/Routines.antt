-- The routines in which places lie.
use Rattle.std.proofs.Common.{◌≡◌, ℕ, zero, suc, ◌+◌, ◌-◌, ◌<◌, ◌≤◌, List, [], ◌∷◌, length, get_or, Bool, true, false, refl, ap, arith}
use Rattle.std.specs.Prelude.{if◌then◌else◌, nat_lt, IsTrue, ◌&&◌}
use Rattle.vap_code.specs.Valid.{rise, starts_upto, routine_of, end_above, has_next}

both_true : (a b : Bool) → IsTrue (a && b) → IsTrue a × IsTrue b
both_true true true h = (refl, refl)
both_true true false h = (refl, h)
both_true false b h = (h, absurd (never h))
  where
    never : false ≡ true → ⊥
    never e = cc

rise_tail : (start : ℕ) (starts : List ℕ) → IsTrue (rise (start ∷ starts)) → IsTrue (rise starts)
rise_tail start [] h = refl
rise_tail start (s ∷ ss) h = (both_true (nat_lt start s) (rise (s ∷ ss)) h).1

rise_head : (start s : ℕ) (ss : List ℕ) → IsTrue (rise (start ∷ s ∷ ss)) → start < s
rise_head start s ss h = let lt = (both_true (nat_lt start s) (rise (s ∷ ss)) h).0 in grind (arith, lt)

-- no later start lies up to a place that isn't past this one
upto_none : (start : ℕ) (starts : List ℕ) (q : ℕ) → IsTrue (rise (start ∷ starts)) → q ≤ start → starts_upto starts q ≡ 0
upto_none start [] q h le = refl
upto_none start (s ∷ ss) q h le =
    let lt = rise_head start s ss h in
    let rest = upto_none s ss q (rise_tail start (s ∷ ss) h) (omega arith) in
    go (nat_lt q s) refl lt rest
  where
    go : (b : Bool) → nat_lt q s ≡ b → start < s → starts_upto ss q ≡ 0 → (if b then 0 else 1) + starts_upto ss q ≡ 0
    go true e lt rest = omega (arith, rest)
    go false e lt rest = absurd (let more : s ≤ q = grind (arith, e) in omega arith)

pub upto_start : (starts : List ℕ) (r : ℕ) → IsTrue (rise starts) → r < length starts → starts_upto starts (get_or starts r 0) ≤ r + 1
upto_start [] r h lt = absurd (omega arith)
upto_start (s ∷ ss) zero h lt =
    let none = upto_none s ss s h (omega arith) in
    elim (nat_lt s s) as (λ b. (if b then 0 else 1) + starts_upto ss s ≤ 0 + 1) [ true ↦ omega (arith, none) | false ↦ omega (arith, none) ]
upto_start (s ∷ ss) (suc r) h lt =
    let rest = upto_start ss r (rise_tail s ss h) (omega arith) in
    elim (nat_lt (get_or ss r 0) s) as (λ b. (if b then 0 else 1) + starts_upto ss (get_or ss r 0) ≤ suc r + 1)
    [ true ↦ omega (arith, rest) | false ↦ omega (arith, rest) ]

pub routine_start : (starts : List ℕ) (r : ℕ) → IsTrue (rise starts) → r < length starts → routine_of starts (get_or starts r 0) ≤ r
routine_start starts r h lt = omega (arith, upto_start starts r h lt)

upto_next : (starts : List ℕ) (all p : ℕ) → IsTrue (rise starts) → p + 1 < end_above starts all p → starts_upto starts (p + 1) ≡ starts_upto starts p
upto_next [] all p h lt = refl
upto_next (s ∷ ss) all p h lt =
    go (nat_lt p s) (nat_lt (p + 1) s) refl refl (λ before. omega (arith, ap (λ b. if b then s else end_above ss all p) before, lt))
    (λ before. omega (arith, ap (λ b. if b then s else end_above ss all p) before, lt)) (upto_next ss all p (rise_tail s ss h))
  where
    none : (q : ℕ) → q ≤ s → starts_upto ss q ≡ 0
    none q le = upto_none s ss q h le

    go : (a b : Bool) → nat_lt p s ≡ a → nat_lt (p + 1) s ≡ b → (nat_lt p s ≡ true → p + 1 < s) → (nat_lt p s ≡ false → p + 1 < end_above ss all p) →
        (p + 1 < end_above ss all p → starts_upto ss (p + 1) ≡ starts_upto ss p) →
        (if b then 0 else 1) + starts_upto ss (p + 1) ≡ (if a then 0 else 1) + starts_upto ss p
    go true true e f less more rest = let lt' = less e in omega (arith, none (p + 1) (omega arith), none p (omega arith))
    go true false e f less more rest = let lt' = less e in absurd (let le : s ≤ p + 1 = grind (arith, f) in omega arith)
    go false true e f less more rest = absurd (let le : s ≤ p = grind (arith, e) in let lt' : p + 1 < s = grind (arith, f) in omega arith)
    go false false e f less more rest = omega (arith, rest (more e))

pub same_routine : (starts : List ℕ) (all p : ℕ) → IsTrue (rise starts) → IsTrue (has_next starts all p) → routine_of starts (p + 1) ≡ routine_of starts p
same_routine starts all p h next = let lt : p + 1 < end_above starts all p = grind (arith, next) in ap (λ n. n - 1) (upto_next starts all p h lt)
