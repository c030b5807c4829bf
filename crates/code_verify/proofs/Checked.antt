-- From one check to the next.
use Rattle.std.proofs.Common.{◌≡◌, ℕ, zero, suc, ◌+◌, ◌<◌, ◌≤◌, List, [], ◌∷◌, length, get_or, refl, sym, ap, ◌∙◌, subst, arith, ⊎_elim}
use Rattle.std.specs.Prelude.{IsTrue, IfSome, Option, Some, None}
use Rattle.std.proofs.lemmas.Bool.{cases_lt}
use Rattle.vap_code.specs.Codes.{CodeOf}
use Rattle.vap_code.specs.declared.VerifyWhy.{VerifyWhy}
use Rattle.vap_code.specs.declared.VerifyWhy.TheVariants.{JumpOut, BackToNoTick, Height, Slot, CallOrder, EdgeToNoTick, FallsOff, Stretch, Shape, Commands}
use Rattle.vap_code.specs.Valid.{Valid, Passed, FitsCheck, HasShape, Within, check_rank, target, instr_at, is_tick, routine_of}
use Rattle.code_verify.specs.Tables.{JumpsAhead}

-- the check with this rank
pub check_at : ℕ → VerifyWhy
check_at zero = Shape
check_at (suc zero) = JumpOut
check_at (suc (suc zero)) = BackToNoTick
check_at (suc (suc (suc zero))) = Height
check_at (suc (suc (suc (suc zero)))) = Slot
check_at (suc (suc (suc (suc (suc zero))))) = CallOrder
check_at (suc (suc (suc (suc (suc (suc zero)))))) = EdgeToNoTick
check_at (suc (suc (suc (suc (suc (suc (suc zero))))))) = FallsOff
check_at (suc (suc (suc (suc (suc (suc (suc (suc zero)))))))) = Stretch
check_at _ = Commands

check_at_rank : (why : VerifyWhy) → check_at (check_rank why) ≡ why
unfolding check_at
check_at_rank JumpOut = refl
check_at_rank BackToNoTick = refl
check_at_rank Height = refl
check_at_rank Slot = refl
check_at_rank CallOrder = refl
check_at_rank EdgeToNoTick = refl
check_at_rank FallsOff = refl
check_at_rank Stretch = refl
check_at_rank Shape = refl
check_at_rank Commands = refl

pub rank_at : (n : ℕ) → n < 10 → check_rank (check_at n) ≡ n
unfolding check_at
rank_at zero lt = refl
rank_at (suc zero) lt = refl
rank_at (suc (suc zero)) lt = refl
rank_at (suc (suc (suc zero))) lt = refl
rank_at (suc (suc (suc (suc zero)))) lt = refl
rank_at (suc (suc (suc (suc (suc zero))))) lt = refl
rank_at (suc (suc (suc (suc (suc (suc zero)))))) lt = refl
rank_at (suc (suc (suc (suc (suc (suc (suc zero))))))) lt = refl
rank_at (suc (suc (suc (suc (suc (suc (suc (suc zero)))))))) lt = refl
rank_at (suc (suc (suc (suc (suc (suc (suc (suc (suc zero))))))))) lt = refl
rank_at (suc (suc (suc (suc (suc (suc (suc (suc (suc (suc n)))))))))) lt = absurd (omega (arith, lt))

ranks_upto : (why : VerifyWhy) → check_rank why < 10
ranks_upto JumpOut = omega arith
ranks_upto BackToNoTick = omega arith
ranks_upto Height = omega arith
ranks_upto Slot = omega arith
ranks_upto CallOrder = omega arith
ranks_upto EdgeToNoTick = omega arith
ranks_upto FallsOff = omega arith
ranks_upto Stretch = omega arith
ranks_upto Shape = omega arith
ranks_upto Commands = omega arith

pub same_rank : (a b : VerifyWhy) → check_rank a ≡ check_rank b → a ≡ b
same_rank a b e = sym (check_at_rank a) ∙ ap check_at e ∙ check_at_rank b

pub some_start : (starts : List ℕ) → get_or starts 0 1 ≡ 0 → 0 < length starts
some_start [] e = absurd (omega (arith, e))
some_start (p ∷ ps) e = omega arith

module _ (code : CodeOf) where
  pub shape_of : (n : ℕ) → 1 ≤ n → Passed n code → HasShape code
  shape_of n h passed = passed Shape (omega arith) 0 (omega arith) refl

  pub inside_of : HasShape code → (p : ℕ) → Within code p → p < length code.instrs
  inside_of shape p h =
      let some = shape.inside 0 (some_start code.starts shape.first) in
      omega arith

  pub passed_more : (why : VerifyWhy) (n : ℕ) → check_rank why ≡ n → Passed n code → ((p : ℕ) → Within code p → FitsCheck code why p) → Passed (n + 1) code
  passed_more why n e passed fit earlier lt p h =
      ⊎_elim
      (λ less. passed earlier less p h)
      (λ more. let same : check_rank earlier ≡ check_rank why = omega arith in subst (λ w. FitsCheck code w p) (sym (same_rank earlier why same)) (fit p h))
      (cases_lt (check_rank earlier) n)

  pub passed_all : Passed 10 code → Valid code
  passed_all passed why p h = passed why (ranks_upto why) p h

  pub jumps_ahead : HasShape code → Passed 3 code → JumpsAhead code.instrs
  jumps_ahead shape passed p h =
      let within : Within code p = omega arith in
      both (target (instr_at code.instrs p)) (passed JumpOut (omega arith) p within) (passed BackToNoTick (omega arith) p within)
    where
      both : (o : Option ℕ) → IfSome o (λ t. (t < length code.instrs) × (routine_of code.starts t ≡ routine_of code.starts p)) →
          IfSome o (λ t. t ≤ p → IsTrue (is_tick (instr_at code.instrs t))) →
          IfSome o (λ t. (t < length code.instrs) × (t ≤ p → IsTrue (is_tick (instr_at code.instrs t))))
      both None a b = tt
      both (Some t) a b = (a.0, b)
