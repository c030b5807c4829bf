-- The cells of pairs.
use Rattle.std.proofs.Common.{◌≡◌, ◌≢◌, ◌∙◌, ℕ, ◌+◌, ◌*◌, ◌<◌, ◌≤◌, false, List, length, get_or, None, Option, refl, sym, arith, inl, inr, slice_set, get_or-set_other}
use Rattle.std.specs.Prelude.{nat_lt}
use Rattle.std.proofs.lemmas.Bool.{cases_lt, lt-ltb, false_from_ne_true, ltb-true, and_right}
use Rattle.std.proofs.lemmas.Grind.{get_or-set_at}
use Rattle.sig_tables.specs.Pairs.{cell_of}

pub cell_in : (cells : List (Option ℕ)) (i g : ℕ) → i < 64 → g < 64 → cell_of cells i g ≡ get_or cells (64 * i + g) None
unfolding cell_of
cell_in cells i g il gl = rw (lt-ltb i 64 il, lt-ltb g 64 gl) refl

is_out : (n : ℕ) → 64 ≤ n → nat_lt n 64 ≡ false
is_out n le = false_from_ne_true (nat_lt n 64) (λ t. let lt : n < 64 = ltb-true n 64 t in absurd (omega arith))

cell_left : (cells : List (Option ℕ)) (i g : ℕ) → 64 ≤ i → cell_of cells i g ≡ None
unfolding cell_of
cell_left cells i g out = rw (is_out i out) refl

cell_right : (cells : List (Option ℕ)) (i g : ℕ) → 64 ≤ g → cell_of cells i g ≡ None
unfolding cell_of
cell_right cells i g out = rw (is_out g out, and_right (nat_lt i 64) false refl) refl

pub cell_here : (cells : List (Option ℕ)) (f t : ℕ) (z : Option ℕ) → length cells ≡ 4096 → f < 64 → t < 64 → cell_of (slice_set cells (64 * f + t) z) f t ≡ z
cell_here cells f t z size fl tl = cell_in _ f t fl tl ∙ get_or-set_at cells (64 * f + t) (64 * f + t) z None refl (omega (arith, size))

pub cell_other : (cells : List (Option ℕ)) (f t i g : ℕ) (z : Option ℕ) → f < 64 → t < 64 → (f ≡ i → t ≡ g → ⊥) → cell_of (slice_set cells (64 * f + t) z) i g ≡ cell_of cells i g
cell_other cells f t i g z fl tl ne = elim (cases_lt i 64) [
  | inr out ↦ cell_left _ i g out ∙ sym (cell_left _ i g out)
  | inl il ↦ (elim (cases_lt g 64) [
    | inr out ↦ cell_right _ i g out ∙ sym (cell_right _ i g out)
    | inl gl ↦ (let apart : 64 * i + g ≢ 64 * f + t = λ e. (let fi : f ≡ i = omega arith in let tg : t ≡ g = omega arith in ne fi tg) in
        cell_in _ i g il gl ∙ get_or-set_other cells (64 * f + t) (64 * i + g) z None apart ∙ sym (cell_in _ i g il gl))
  ])
]

-- where all are empty
pub cell_none : (cells : List (Option ℕ)) (i g : ℕ) → ((k : ℕ) → get_or cells k None ≡ None) → cell_of cells i g ≡ None
cell_none cells i g none = elim (cases_lt i 64) [
  | inr out ↦ cell_left _ i g out
  | inl il ↦ (elim (cases_lt g 64) [ inr out ↦ cell_right _ i g out | inl gl ↦ cell_in _ i g il gl ∙ none (64 * i + g) ])
]
