-- At most one check is broken first.
use Rattle.std.proofs.Common.{◌≡◌, ℕ, ◌<◌, sym, arith, subst, ⊎_elim}
use Rattle.std.proofs.lemmas.Bool.{cases_lt}
use Rattle.vap_code.specs.Codes.{CodeOf}
use Rattle.vap_code.specs.declared.VerifyWhy.{VerifyWhy}
use Rattle.vap_code.specs.Valid.{FirstBroken, check_rank}
use Rattle.code_verify.specs.First.{OneIsFirst, ValidBreaksNone}
use Rattle.code_verify.proofs.Checked.{same_rank}

module _ (code : CodeOf) where
  -- the check that is broken first has no greater rank than another that is broken first
  not_later : (a b : VerifyWhy) (p q : ℕ) → FirstBroken code a p → FirstBroken code b q → check_rank a < check_rank b → ⊥
  not_later a b p q x y lt = x.broken (y.first a lt p x.within)

  same_check : (a b : VerifyWhy) (p q : ℕ) → FirstBroken code a p → FirstBroken code b q → a ≡ b
  same_check a b p q x y =
      ⊎_elim
      (λ less. absurd (not_later a b p q x y less))
      (λ more.
      ⊎_elim
      (λ less. absurd (not_later b a q p y x less))
      (λ more'. same_rank a b (omega arith))
      (cases_lt (check_rank b) (check_rank a)))
      (cases_lt (check_rank a) (check_rank b))

  -- no lower place breaks the check
  not_lower : (a : VerifyWhy) (p q : ℕ) → FirstBroken code a p → FirstBroken code a q → p < q → ⊥
  not_lower a p q x y lt = x.broken (y.least p lt)

  same_place : (a : VerifyWhy) (p q : ℕ) → FirstBroken code a p → FirstBroken code a q → p ≡ q
  same_place a p q x y =
      ⊎_elim
      (λ less. absurd (not_lower a p q x y less))
      (λ more.
      ⊎_elim
      (λ less. absurd (not_lower a q p y x less))
      (λ more'. omega arith)
      (cases_lt q p))
      (cases_lt p q)

pub one_is_first : OneIsFirst
one_is_first code a b p q x y =
    let same = same_check code a b p q x y in
    (same, same_place code a p q x (subst (λ w. FirstBroken code w q) (sym same) y))

pub valid_breaks_none : ValidBreaksNone
valid_breaks_none code why place valid x = x.broken (valid why place x.within)
