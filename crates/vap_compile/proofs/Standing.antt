-- How many operands stand at the places of compiled code.
use Rattle.std.proofs.Common.{◌≡◌, ℕ, ◌+◌, ◌<◌, List, [], ◌∷◌, Some, length, get_or, ap, ◌∙◌, arith}
use Rattle.std.specs.Prelude.{slice_get, IsTrue}
use Rattle.std.proofs.lemmas.Option.{get_or_from_slice_get, slice_get_within}
use Rattle.vap_code.specs.declared.Instr.{Instr}
use Rattle.vap_code.specs.declared.Instr.TheVariants.{Ret}
use Rattle.vap_code.specs.Valid.{stands_clear, instr_at}
use Rattle.vap_compile.proofs.Runs.{HasAt}
use Rattle.vap_compile.proofs.Rises.{Rises, after_it}
use Rattle.vap_compile.proofs.Heights.{standing, okay_at, standing_next}

module _ (instrs : List Instr) where
  abbrev pub stands : ℕ → ℕ
  stands p = standing 0 instrs p

  pub stands_after : (p h : ℕ) (i : Instr) → slice_get instrs p ≡ Some i → stands p ≡ h
      → stands (p + 1) ≡ after_it h i
  stands_after p h i there is =
      standing_next 0 instrs p (slice_get_within instrs p i there)
      ∙ ap (λ n. after_it n (get_or instrs p Ret)) is
      ∙ ap (λ j. after_it h j) (get_or_from_slice_get instrs p i Ret there)

  -- past instructions that lead from one height to another
  pub stands_past : (is : List Instr) (p h h' : ℕ) → HasAt instrs p is → stands p ≡ h → Rises h is h'
      → stands (p + length is) ≡ h'
  stands_past [] p h h' has is r = let e : p + 0 ≡ p = omega arith in ap stands e ∙ is ∙ r
  stands_past (i ∷ is) p h h' has st r =
      let e : p + length (i ∷ is) ≡ p + 1 + length is = omega arith in
      ap stands e ∙ stands_past is (p + 1) (after_it h i) h' has.1 (stands_after p h i has.0 st) r.1

  pub clear_stands : (h' : ℕ) → Rises 0 instrs h' → (q : ℕ) → q < length instrs
      → IsTrue (stands_clear (instr_at instrs q)) → stands q ≡ 0
  clear_stands h' rises q lt clear = (okay_at 0 instrs h' q rises lt).clear clear
