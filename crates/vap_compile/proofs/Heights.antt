-- The table of heights of a code whose operands rise and fall as they should.
use Rattle.std.proofs.Common.{◌≡◌, ℕ, zero, suc, ◌+◌, ◌-◌, ◌<◌, ◌≤◌, List, [], ◌∷◌, length, get_or, Bool, true, false, refl, sym, ap, ◌∙◌, subst, arith, ⊎_elim}
use Rattle.std.specs.Prelude.{IfSome, if◌then◌else◌}
use Rattle.std.proofs.lemmas.Bool.{cases_lt}
use Rattle.vap_code.specs.declared.Instr.{Instr}
use Rattle.vap_code.specs.declared.Instr.TheVariants.{Jump, JumpZero, Ret}
use Rattle.vap_code.specs.Valid.{leaves, target, goes_on, jumps_to, jumped_height, height_after, from_first, begins, instr_at}
use Rattle.code_verify.proofs.TableFacts.{length-from_first, at_from_first}
use Rattle.vap_compile.proofs.Rises.{Okay, Rises, after_it}

-- the operands that stand at a place, along the instructions
abbrev pub standing : ℕ → List Instr → ℕ → ℕ
standing h [] p = h
standing h (i ∷ is) zero = h
standing h (i ∷ is) (suc p) = standing (after_it h i) is p

pub okay_at : (h : ℕ) (is : List Instr) (h' p : ℕ) → Rises h is h' → p < length is
    → Okay (standing h is p) (get_or is p Ret)
okay_at h [] h' p r lt = absurd (omega arith)
okay_at h (i ∷ is) h' zero r lt = r.0
okay_at h (i ∷ is) h' (suc p) r lt = okay_at (after_it h i) is h' p r.1 (omega arith)

pub standing_next : (h : ℕ) (is : List Instr) (p : ℕ) → p < length is
    → standing h is (p + 1) ≡ after_it (standing h is p) (get_or is p Ret)
standing_next h [] p lt = absurd (omega arith)
standing_next h (i ∷ is) zero lt =
    let e : 0 + 1 ≡ suc zero = refl in
    no_more (after_it h i) is
  where
    no_more : (h : ℕ) (is : List Instr) → standing h is 0 ≡ h
    no_more h [] = refl
    no_more h (i ∷ is) = refl
standing_next h (i ∷ is) (suc p) lt =
    let e : suc p + 1 ≡ suc (p + 1) = omega arith in
    ap (λ n. standing h (i ∷ is) n) e ∙ standing_next (after_it h i) is p (omega arith)

-- a place to which only jumps lead that leave nothing has nothing standing
none_jumped : (is : List Instr) (hs : List ℕ) (p : ℕ)
    → ((k : ℕ) → k < length hs → IfSome (target (get_or is k Ret))
    (λ _. leaves (get_or hs k 0) (get_or is k Ret) ≡ 0))
    → jumped_height is hs p ≡ 0
none_jumped [] hs p f = refl
none_jumped (i ∷ is) [] p f = refl
none_jumped (i ∷ is) (h ∷ hs) p f =
    go (none_jumped is hs p (λ k lt. f (suc k) (omega arith))) (jumps_to i p) refl
  where
    here : (j : Instr) → jumps_to j p ≡ true → IfSome (target j) (λ _. leaves h j ≡ 0) → leaves h j ≡ 0
    here (Jump t) e s = s
    here (JumpZero t) e s = s
    here Ret e s = cc
    here _ e s = cc

    go : jumped_height is hs p ≡ 0 → (b : Bool) → jumps_to i p ≡ b
        → (if b then leaves h i else jumped_height is hs p) ≡ 0
    go rest true e = here i e (f zero (omega arith))
    go rest false e = rest

module _ (is : List Instr) (starts : List ℕ) (h' : ℕ) (rises : Rises 0 is h')
    (first : begins starts 0 ≡ true) (fresh : (p : ℕ) → p < length is → begins starts p ≡ true
    → standing 0 is p ≡ 0) where
  height_is : (hs : List ℕ) (p : ℕ) → length hs ≡ p → p < length is
      → ((k : ℕ) → k < p → get_or hs k 0 ≡ standing 0 is k)
      → height_after is starts hs ≡ standing 0 is p
  height_is hs p len lt same =
      subst (λ q. (if begins starts q then 0 else if goes_on (instr_at is (q - 1)) then leaves
      (get_or hs (q - 1) 0) (instr_at is (q - 1)) else jumped_height is hs q) ≡ standing 0 is p)
      (sym len) (at_start (begins starts p) refl)
    where
      fallen : (b : Bool) → goes_on (instr_at is (p - 1)) ≡ b → 0 < p
          → (if b then leaves (get_or hs (p - 1) 0) (instr_at is (p - 1)) else jumped_height is hs p)
          ≡ standing 0 is p
      fallen b e more =
          let q : p - 1 + 1 ≡ p = omega arith in
          let next = ap (λ n. standing 0 is n) (sym q) ∙ standing_next 0 is (p - 1) (omega arith) in
          by_kind b e (same (p - 1) (omega arith)) next
        where
          by_kind : (b : Bool) → goes_on (instr_at is (p - 1)) ≡ b
              → get_or hs (p - 1) 0 ≡ standing 0 is (p - 1)
              → standing 0 is p ≡ after_it (standing 0 is (p - 1)) (get_or is (p - 1) Ret)
              → (if b then leaves (get_or hs (p - 1) 0) (instr_at is (p - 1)) else jumped_height is hs
              p) ≡ standing 0 is p
          by_kind true e s n =
              ap (λ h. leaves h (instr_at is (p - 1))) s ∙ sym
              (n ∙ ap (λ b. if b then leaves (standing 0 is (p - 1)) (get_or is (p - 1) Ret) else 0)
              e)
          by_kind false e s n =
              none_jumped is hs p (λ k lt'. let below : k < p = omega (arith, len, lt') in let inside :
              k < length is = omega (arith, lt) in let o = okay_at 0 is h' k rises inside in
              let s = same k below in subst (λ h. IfSome (target (get_or is k Ret))
              (λ _. leaves h (get_or is k Ret) ≡ 0)) (sym s) o.jumped)
              ∙ sym (n ∙ ap (λ b. if b then leaves (standing 0 is (p - 1)) (get_or is (p - 1) Ret) else 0) e)

      positive : begins starts p ≡ false → 0 < p
      positive e =
          ⊎_elim (λ h. h) (λ le. absurd (apart (sym first ∙ ap (begins starts) (zero_is le) ∙ e)))
          (cases_lt 0 p)
        where
          zero_is : p ≤ 0 → 0 ≡ p
          zero_is le = omega arith

          apart : true ≡ false → ⊥
          apart x = cc

      at_start : (b : Bool) → begins starts p ≡ b
          → (if b then 0 else if goes_on (instr_at is (p - 1)) then leaves (get_or hs (p - 1) 0)
          (instr_at is (p - 1)) else jumped_height is hs p) ≡ standing 0 is p
      at_start true e = sym (fresh p lt e)
      at_start false e = fallen (goes_on (instr_at is (p - 1))) refl (positive e)

  -- the table of heights says at each place how many operands stand there
  pub heights_are : (n : ℕ) → n ≤ length is → (k : ℕ) → k < n
      → get_or (from_first (height_after is starts) n) k 0 ≡ standing 0 is k
  heights_are zero le k lt = absurd (omega arith)
  heights_are (suc n) le k lt = go (heights_are n (omega arith))
    where
      go : ((j : ℕ) → j < n → get_or (from_first (height_after is starts) n) j 0 ≡ standing 0 is j)
          → get_or (from_first (height_after is starts) (suc n)) k 0 ≡ standing 0 is k
      go same =
          let hs = from_first (height_after is starts) n in
          let len = length-from_first (height_after is starts) n in
          ⊎_elim
          (λ earlier. at_from_first (height_after is starts) (suc n) k lt ∙ height_is
          (from_first (height_after is starts) k) k (length-from_first (height_after is starts) k)
          (omega arith) (λ j below. at_from_first (height_after is starts) k j below ∙ sym
          (at_from_first (height_after is starts) n j (omega arith)) ∙ same j (omega arith)))
          (λ at_end. at_from_first (height_after is starts) (suc n) k lt ∙ height_is
          (from_first (height_after is starts) k) k (length-from_first (height_after is starts) k)
          (omega arith) (λ j below. at_from_first (height_after is starts) k j below ∙ sym
          (at_from_first (height_after is starts) n j (omega arith)) ∙ same j (omega arith)))
          (cases_lt k n)
