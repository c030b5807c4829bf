-- What the least jump to a place brings there.
use Rattle.std.proofs.Common.{◌≡◌, ℕ, suc, ◌+◌, ◌-◌, ◌<◌, ◌≤◌, List, [], ◌∷◌, ◌++◌, length, get_or, true, false, Option, Some, None, refl, sym, ap, ◌∙◌, arith}
use Rattle.std.specs.Prelude.{if◌then◌else◌, unwrap_or}
use Rattle.vap_code.specs.declared.Instr.{Instr}
use Rattle.vap_code.specs.declared.Instr.TheVariants.{Push}
use Rattle.vap_code.specs.Valid.{jumped_height, jumps_to, leaves, pushes, begins, goes_on, instr_at, height_after}
use Rattle.std.specs.Option.{option_or}
use Rattle.sig_types.proofs.Options.{option_or-none}
use Rattle.code_verify.specs.Tables.{first_jump, brings}

pub none_yet : (is : List Instr) (p : ℕ) → first_jump is [] p ≡ None
none_yet [] p = refl
none_yet (i ∷ is) p = refl

or_assoc : (a b c : Option ℕ) → option_or a (option_or b c) ≡ option_or (option_or a b) c
or_assoc None b c = refl
or_assoc (Some h) b c = refl

-- one more height
pub first_jump_push : (is : List Instr) (hs : List ℕ) (h p : ℕ) (d : Instr) → length hs < length is →
    first_jump is (hs ++ h ∷ []) p ≡ option_or (first_jump is hs p) (brings (get_or is (length hs) d) h p)
first_jump_push [] hs h p d lt = absurd (omega arith)
first_jump_push (i ∷ is) [] h p d lt = ap (option_or (brings i h p)) (none_yet is p) ∙ option_or-none (brings i h p)
first_jump_push (i ∷ is) (g ∷ hs) h p d lt =
    ap (option_or (brings i g p)) (first_jump_push is hs h p d (omega arith))
    ∙ or_assoc (brings i g p) (first_jump is hs p) (brings (get_or is (length hs) d) h p)

abbrev pub or_zero : Option ℕ → ℕ
or_zero None = 0
or_zero (Some h) = h

pub jumped_is : (is : List Instr) (hs : List ℕ) (p : ℕ) → or_zero (first_jump is hs p) ≡ jumped_height is hs p
jumped_is [] hs p = refl
jumped_is (i ∷ is) [] p = refl
jumped_is (i ∷ is) (h ∷ hs) p =
    let rest = jumped_is is hs p in
    elim (jumps_to i p) as (λ b. or_zero (option_or (if b then Some (leaves h i) else None) (first_jump is hs p)) ≡
    (if b then leaves h i else jumped_height is hs p)) [ true ↦ refl | false ↦ rest ]

pushes_upto : (i : Instr) → pushes i ≤ 1
pushes_upto (Push v) = omega arith
pushes_upto _ = omega arith

pub leaves_upto : (h : ℕ) (i : Instr) → leaves h i ≤ h + 1
leaves_upto h i = omega (arith, pushes_upto i)

jumped_low_from : (is : List Instr) (hs : List ℕ) (p o : ℕ) → ((k : ℕ) → k < length hs → get_or hs k 0 ≤ k + o) → jumped_height is hs p ≤ length hs + o
jumped_low_from [] hs p o low = omega arith
jumped_low_from (i ∷ is) [] p o low = omega arith
jumped_low_from (i ∷ is) (h ∷ hs) p o low =
    let first : h ≤ o = omega (arith, low 0 (omega arith)) in
    let more : (k : ℕ) → k < length hs → get_or hs k 0 ≤ k + (o + 1) = λ k lt. omega (arith, low (suc k) (omega arith)) in
    let rest = jumped_low_from is hs p (o + 1) more in
    elim (jumps_to i p) as (λ b. (if b then leaves h i else jumped_height is hs p) ≤ length (h ∷ hs) + o) [
      | true ↦ omega (arith, leaves_upto h i, first)
      | false ↦ omega (arith, rest)
    ]

pub jumped_low : (is : List Instr) (hs : List ℕ) (p : ℕ) → ((k : ℕ) → k < length hs → get_or hs k 0 ≤ k) → jumped_height is hs p ≤ length hs
jumped_low is hs p low = omega (arith, jumped_low_from is hs p 0 (λ k lt. omega (arith, low k lt)))

pub jumped_unwrap : (is : List Instr) (hs : List ℕ) (p : ℕ) → unwrap_or (first_jump is hs p) 0 ≡ jumped_height is hs p
jumped_unwrap is hs p = same (first_jump is hs p) ∙ jumped_is is hs p
  where
    same : (o : Option ℕ) → unwrap_or o 0 ≡ or_zero o
    same None = refl
    same (Some h) = refl

pub height_jumped : (instrs : List Instr) (starts hs : List ℕ) → begins starts (length hs) ≡ false →
    goes_on (instr_at instrs (length hs - 1)) ≡ false → jumped_height instrs hs (length hs) ≡ height_after instrs starts hs
height_jumped instrs starts hs b g =
    let first = ap (λ x. if x then leaves (get_or hs (length hs - 1) 0) (instr_at instrs (length hs - 1)) else jumped_height instrs hs (length hs)) g in
    let second = ap (λ x. if x then 0 else if goes_on (instr_at instrs (length hs - 1)) then leaves (get_or hs (length hs - 1) 0)
    (instr_at instrs (length hs - 1)) else jumped_height instrs hs (length hs)) b in
    sym (second ∙ first)
