-- In which routine a place of compiled code lies.
use Rattle.std.proofs.Common.{◌≡◌, ℕ, zero, suc, ◌+◌, ◌<◌, ◌≤◌, List, [], ◌∷◌, length, get_or, Bool, true, false, refl, ap, ◌∙◌, subst, arith}
use Rattle.std.specs.Prelude.{if◌then◌else◌, nat_lt, eqb, IsTrue, ◌&&◌}
use Rattle.vap_ast.specs.Sizes.{items_size}
use Rattle.vap_ast.specs.Syntax.{Items}
use Rattle.vap_check.specs.Accepted.{bodies_size}
use Rattle.vap_code.specs.Valid.{starts_upto, end_above, begins, rise}
use Rattle.vap_compile.specs.Layout.{routine_starts}

differ : false ≡ true → ⊥
differ e = cc

upto_before : (bodies : List Items) (s q : ℕ) → q < s → starts_upto (routine_starts s bodies) q ≡ 0
upto_before [] s q lt = refl
upto_before (body ∷ bodies) s q lt =
    go (nat_lt q s) refl (upto_before bodies (s + items_size body + 1) q (omega arith))
  where
    go : (b : Bool) → nat_lt q s ≡ b
        → starts_upto (routine_starts (s + items_size body + 1) bodies) q ≡ 0
        → (if b then 0 else 1) + starts_upto (routine_starts (s + items_size body + 1) bodies) q ≡ 0
    go true e rest = omega (arith, rest)
    go false e rest = absurd (let le : s ≤ q = grind (arith, e) in omega arith)

none_begins : (bodies : List Items) (s q : ℕ) → q < s → begins (routine_starts s bodies) q ≡ false
none_begins [] s q lt = refl
none_begins (body ∷ bodies) s q lt =
    go (eqb s q) refl (none_begins bodies (s + items_size body + 1) q (omega arith))
  where
    go : (b : Bool) → eqb s q ≡ b → begins (routine_starts (s + items_size body + 1) bodies) q ≡ false
        → (if b then true else begins (routine_starts (s + items_size body + 1) bodies) q) ≡ false
    go true e rest = absurd (let eq : s ≡ q = grind (arith, e) in omega arith)
    go false e rest = rest

next_end : (bodies : List Items) (s all q : ℕ) → q < s → all ≡ s + bodies_size bodies
    → end_above (routine_starts s bodies) all q ≡ s
next_end [] s all q lt e = omega arith
next_end (body ∷ bodies) s all q lt e = go (nat_lt q s) refl
  where
    go : (b : Bool) → nat_lt q s ≡ b
        → (if b then s else end_above (routine_starts (s + items_size body + 1) bodies) all q) ≡ s
    go true e = refl
    go false e = absurd (let le : s ≤ q = grind (arith, e) in omega arith)

pub start_low : (bodies : List Items) (s k : ℕ) → k < length bodies → s ≤ get_or (routine_starts s bodies) k 0
start_low [] s k lt = absurd (omega arith)
start_low (body ∷ bodies) s zero lt = omega arith
start_low (body ∷ bodies) s (suc k) lt =
    omega (arith, start_low bodies (s + items_size body + 1) k (omega arith))

-- the routine k has the places from its start to its end, where its return stands
pub record LiesIn (starts : List ℕ) (all k start end q : ℕ) : Type 0 where
  pub upto : starts_upto starts q ≡ k + 1
  pub ends : end_above starts all q ≡ end + 1
  pub first : IsTrue (begins starts q) → q ≡ start

pub lies_in : (bodies : List Items) (s all k q : ℕ) → k < length bodies → all ≡ s + bodies_size bodies
    → get_or (routine_starts s bodies) k 0 ≤ q
    → q ≤ get_or (routine_starts s bodies) k 0 + items_size (get_or bodies k Items.none)
    → LiesIn (routine_starts s bodies) all k (get_or (routine_starts s bodies) k 0)
    (get_or (routine_starts s bodies) k 0 + items_size (get_or bodies k Items.none)) q
lies_in [] s all k q lt e low high = absurd (omega arith)
lies_in (body ∷ bodies) s all zero q lt e low high =
    let s' = s + items_size body + 1 in
    record {
      upto = here (nat_lt q s) refl (upto_before bodies s' q (omega arith));
      ends = end (nat_lt q s) refl (next_end bodies s' all q (omega arith) (omega arith));
      first = λ b. first (eqb s q) refl (none_begins bodies s' q (omega arith)) b;
    }
  where
    here : (b : Bool) → nat_lt q s ≡ b
        → starts_upto (routine_starts (s + items_size body + 1) bodies) q ≡ 0
        → (if b then 0 else 1) + starts_upto (routine_starts (s + items_size body + 1) bodies) q ≡ 0 + 1
    here true e rest = absurd (let l : q < s = grind (arith, e) in omega arith)
    here false e rest = omega (arith, rest)

    end : (b : Bool) → nat_lt q s ≡ b
        → end_above (routine_starts (s + items_size body + 1) bodies) all q ≡ s + items_size body + 1
        → (if b then s else end_above (routine_starts (s + items_size body + 1) bodies) all q)
        ≡ s + items_size body + 1
    end true e rest = absurd (let l : q < s = grind (arith, e) in omega arith)
    end false e rest = rest

    first : (b : Bool) → eqb s q ≡ b
        → begins (routine_starts (s + items_size body + 1) bodies) q ≡ false
        → (if b then true else begins (routine_starts (s + items_size body + 1) bodies) q) ≡ true
        → q ≡ s
    first true e none h = let eq : s ≡ q = grind (arith, e) in omega arith
    first false e none h = absurd (differ (subst (λ x. x ≡ true) none h))
lies_in (body ∷ bodies) s all (suc k) q lt e low high =
    let s' = s + items_size body + 1 in
    let l = start_low bodies s' k (omega arith) in
    let rest = lies_in bodies s' all k q (omega arith) (omega arith) low high in
    record {
      upto = here (nat_lt q s) refl (omega arith) rest.upto;
      ends = end (nat_lt q s) refl (omega arith) rest.ends;
      first = λ b. first (eqb s q) refl (omega arith) rest.first b;
    }
  where
    here : (b : Bool) → nat_lt q s ≡ b → s < q
        → starts_upto (routine_starts (s + items_size body + 1) bodies) q ≡ k + 1
        → (if b then 0 else 1) + starts_upto (routine_starts (s + items_size body + 1) bodies) q ≡ suc k + 1
    here true e more rest = absurd (let l : q < s = grind (arith, e) in omega arith)
    here false e more rest = omega (arith, rest)

    end : (b : Bool) → nat_lt q s ≡ b → s < q
        → end_above (routine_starts (s + items_size body + 1) bodies) all q ≡ get_or
        (routine_starts (s + items_size body + 1) bodies) k 0 + items_size
        (get_or bodies k Items.none) + 1
        → (if b then s else end_above (routine_starts (s + items_size body + 1) bodies) all q) ≡ get_or
        (routine_starts (s + items_size body + 1) bodies) k 0 + items_size
        (get_or bodies k Items.none) + 1
    end true e more rest = absurd (let l : q < s = grind (arith, e) in omega arith)
    end false e more rest = rest

    first : (b : Bool) → eqb s q ≡ b → s < q
        → (IsTrue (begins (routine_starts (s + items_size body + 1) bodies) q) → q ≡ get_or
        (routine_starts (s + items_size body + 1) bodies) k 0)
        → (if b then true else begins (routine_starts (s + items_size body + 1) bodies) q) ≡ true
        → q ≡ get_or (routine_starts (s + items_size body + 1) bodies) k 0
    first true e more rest h = absurd (let eq : s ≡ q = grind (arith, e) in omega arith)
    first false e more rest h = rest h

pub starts_length : (bodies : List Items) (s : ℕ) → length (routine_starts s bodies) ≡ length bodies
starts_length [] s = refl
starts_length (body ∷ bodies) s = omega (arith, starts_length bodies (s + items_size body + 1))

pub starts_rise : (bodies : List Items) (s : ℕ) → IsTrue (rise (routine_starts s bodies))
starts_rise [] s = refl
starts_rise (body ∷ []) s = refl
starts_rise (body ∷ second ∷ bodies) s =
    let rest = starts_rise (second ∷ bodies) (s + items_size body + 1) in
    let lt : nat_lt s (s + items_size body + 1) ≡ true = grind arith in
    ap (λ b. b && rise (routine_starts (s + items_size body + 1) (second ∷ bodies))) lt ∙ rest

pub starts_inside : (bodies : List Items) (s k : ℕ) → k < length bodies
    → get_or (routine_starts s bodies) k 0 < s + bodies_size bodies
starts_inside [] s k lt = absurd (omega arith)
starts_inside (body ∷ bodies) s zero lt = omega arith
starts_inside (body ∷ bodies) s (suc k) lt =
    omega (arith, starts_inside bodies (s + items_size body + 1) k (omega arith))
