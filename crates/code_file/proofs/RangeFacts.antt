-- Numbers that are those of their types.
use Rattle.std.proofs.Common.{◌≡◌, ℕ, suc, ◌+◌, ◌<◌, true, List, [], ◌∷◌, length, get_or, refl, subst, arith, ⊎_elim}
use Rattle.std.specs.Prelude.{ℤ, pos}
use Rattle.std.specs.List.{list_all}
use Rattle.std.proofs.lemmas.Bool.{and_from, cases_lt}
use Rattle.std.proofs.lemmas.List.{get_or_default}
use Rattle.sig_types.specs.Number.{fits}
use Rattle.vap_code.specs.declared.Instr.{Instr}
use Rattle.vap_code.specs.declared.Instr.TheVariants.{Ret}
use Rattle.vap_code.specs.Valid.{instr_at}
use Rattle.code_file.specs.Shape.{IsTyped}

-- all numbers fit where each does
pub all_fit : (vs : List ℤ) → ((k : ℕ) → k < length vs → fits (get_or vs k (pos 0)) ≡ true) → list_all fits vs ≡ true
all_fit [] each = refl
all_fit (v ∷ vs) each = and_from (fits v) (list_all fits vs) (each 0 (omega arith)) (all_fit vs (λ k lt. each (suc k) (omega arith)))

-- one instruction more whose numbers are those of its type
pub typed_next : (is : List Instr) (n : ℕ) (d : Instr) → n < length is → ((p : ℕ) → p < n → IsTyped (instr_at is p)) → IsTyped (get_or is n d) →
    (p : ℕ) → p < n + 1 → IsTyped (instr_at is p)
typed_next is n d inside before here p lt =
    let last : IsTyped (instr_at is n) = subst (λ i. IsTyped i) (get_or_default is n d Ret inside) here in
    ⊎_elim (λ less. before p less) (λ more. let same : n ≡ p = omega (arith, lt, more) in subst (λ q. IsTyped (instr_at is q)) same last) (cases_lt p n)
