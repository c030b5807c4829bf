-- What validity says of a place and its instruction.
use Rattle.std.proofs.Common.{◌≡◌, ℕ, ◌+◌, ◌-◌, ◌<◌, ◌≤◌, List, length, get_or, Bool, true, false, Option, Some, None, refl, sym, ap, ◌∙◌, subst, arith, ⊎_elim}
use Rattle.std.specs.Prelude.{if◌then◌else◌, IsTrue, IfSome, ◌&&◌}
use Rattle.std.proofs.lemmas.Bool.{cases_lt}
use Rattle.vap_code.specs.declared.Instr.{Instr}
use Rattle.vap_code.specs.declared.Instr.TheVariants.{Jump, Call, Ret}
use Rattle.vap_code.specs.Codes.{CodeOf}
use Rattle.vap_code.specs.declared.VerifyWhy.TheVariants.{JumpOut, BackToNoTick, Height, Slot, CallOrder, EdgeToNoTick, FallsOff, Shape}
use Rattle.vap_code.specs.Valid.{Valid, Within, HasShape, SlotFits, CallFits, instr_at, heights, stretches, command_counts, leaves, pops, target, goes_on, has_next, end_above, begins, is_tick, is_call, stands_clear, stretch_of, commands_of, greatest, of_target, later_at, height_after, from_first, from_last, routine_of}
use Rattle.code_verify.proofs.TableFacts.{at_from_last, later_from_last, at_from_first, length-from_first, end_above_within}
use Rattle.code_verify.proofs.Routines.{same_routine}

abbrev pub all : CodeOf → ℕ
all code = length code.instrs

abbrev pub here : CodeOf → ℕ → Instr
here code p = instr_at code.instrs p

abbrev pub height : CodeOf → ℕ → ℕ
height code p = get_or (heights code) p 0

abbrev pub stretch : CodeOf → ℕ → ℕ
stretch code p = get_or (stretches code) p 0

abbrev pub commands : CodeOf → ℕ → ℕ
commands code p = get_or (command_counts code) p 0

-- the number of a place, or 0 at a tick
abbrev pub unless_tick : CodeOf → (ℕ → ℕ) → ℕ → ℕ
unless_tick code f q = if is_tick (here code q) then 0 else f q

-- an upper bound of the number at each successor
pub record Bounds (code : CodeOf) (p : ℕ) (i : Instr) (f : ℕ → ℕ) (g : ℕ) : Type 0 where
  pub jumped : IfSome (target i) (λ t. unless_tick code f t ≤ g)
  pub fallen : IsTrue (goes_on i) → unless_tick code f (p + 1) ≤ g

-- what holds of the instruction i that stands at p
pub record At (code : CodeOf) (p : ℕ) (i : Instr) : Type 0 where
  pub enough : pops i ≤ height code p
  pub room : leaves (height code p) i ≤ 256
  pub clear : IsTrue (stands_clear i) → height code p ≡ 0
  pub jumped : IfSome (target i) (λ t. (t < all code) × (height code t ≡ leaves (height code p) i) × (routine_of code.starts t ≡ routine_of code.starts p))
  pub fallen : IsTrue (goes_on i) → (p + 1 < all code) × (height code (p + 1) ≡ leaves (height code p) i)
      × (routine_of code.starts (p + 1) ≡ routine_of code.starts p)
  pub slot : SlotFits code i
  pub called : CallFits code.starts p i
  pub after_call : IsTrue (is_call i) → IsTrue (is_tick (here code (p + 1)))
  pub stretch_top : ℕ
  pub stretch_is : stretch code p ≡ stretch_of i stretch_top
  pub stretch_bounds : Bounds code p i (stretch code) stretch_top
  pub commands_top : ℕ
  pub commands_is : commands code p ≡ commands_of i commands_top
  pub commands_bounds : Bounds code p i (commands code) commands_top

and_true : (a b : Bool) → IsTrue a → IsTrue b → IsTrue (a && b)
and_true true true h k = refl
and_true true false h k = k
and_true false b h k = h

if_true : {A : Type 0} (b : Bool) (x y : A) → IsTrue b → (if b then x else y) ≡ x
if_true true x y h = refl
if_true false x y h = absurd (true_false h)
  where
    true_false : false ≡ true → ⊥
    true_false e = cc

module _ (code : CodeOf) (valid : Valid code) where
  within : (p : ℕ) → p < all code → Within code p
  within p h = omega arith

  shape : (p : ℕ) → p < all code → HasShape code
  shape p h = valid Shape 0 (omega arith) refl

  next_within : (p : ℕ) → p < all code → IsTrue (has_next code.starts (all code) p) → p + 1 < all code
  next_within p h next =
      let e = end_above_within code.starts (all code) p (shape p h).inside in
      let lt : p + 1 < end_above code.starts (all code) p = grind (arith, next) in
      omega arith

  next_there : (p : ℕ) → p < all code → IsTrue (goes_on (here code p)) → IsTrue (has_next code.starts (all code) p)
  next_there p h goes = valid FallsOff p (within p h) goes

  module _ (kind : Instr → ℕ → ℕ) where
    head : ℕ → List ℕ → ℕ
    head n later = kind (here code (all code - n)) (greatest code.instrs code.starts (all code - n) (later_at code.instrs (all code - n) later))

    table : List ℕ
    table = from_last head (all code)

    later : ℕ → List ℕ
    later p = from_last head (all code - p - 1)

    top : ℕ → ℕ
    top p = greatest code.instrs code.starts p (later_at code.instrs p (later p))

    at_table : (p : ℕ) → p < all code → get_or table p 0 ≡ kind (here code p) (top p)
    unfolding table top later head
    at_table p h =
        let e : all code - (all code - p) ≡ p = omega arith in
        at_from_last head (all code) p h
        ∙ ap (λ q. kind (here code q) (greatest code.instrs code.starts q (later_at code.instrs q (from_last head (all code - p - 1))))) e

    same_later : (p q : ℕ) → p < q → q < all code → get_or (later p) (q - (p + 1)) 0 ≡ get_or table q 0
    unfolding table later
    same_later p q h k =
        let a : all code - p - 1 ≡ all code - (p + 1) = omega arith in
        let b : p + 1 + (q - (p + 1)) ≡ q = omega arith in
        ap (λ n. get_or (from_last head n) (q - (p + 1)) 0) a
        ∙ later_from_last head (all code) (p + 1) (q - (p + 1)) (omega arith)
        ∙ ap (λ n. get_or (from_last head (all code)) n 0) b

    no_more : (p q : ℕ) → q < all code → (is_tick (here code q) ≡ false → p < q) →
        unless_tick code (λ k. get_or table k 0) q ≤ later_at code.instrs p (later p) q
    no_more p q k ahead = go (is_tick (here code q)) refl
      where
        go : (b : Bool) → is_tick (here code q) ≡ b → (if b then 0 else get_or table q 0) ≤ (if b then 0 else get_or (later p) (q - (p + 1)) 0)
        go true e = omega arith
        go false e = omega (arith, same_later p q (ahead e) k)

    jump_ahead : (p t : ℕ) → (t ≤ p → IsTrue (is_tick (here code t))) → is_tick (here code t) ≡ false → p < t
    jump_ahead p t back e = ⊎_elim (λ lt. lt) (λ le. absurd (true_is_false (sym (back le) ∙ e))) (cases_lt p t)
      where
        true_is_false : true ≡ false → ⊥
        true_is_false x = cc

    of_some : (i : Instr) (f : ℕ → ℕ) (o : Option ℕ) → target i ≡ o → IfSome o (λ t. f t ≤ of_target (target i) f)
    of_some i f None e = tt
    of_some i f (Some t) e = omega (arith, ap (λ o. of_target o f) e)

    bounds : (p : ℕ) → p < all code → Bounds code p (here code p) (λ k. get_or table k 0) (top p)
    unfolding top
    bounds p h = record { jumped = by_jump (target (here code p)) refl; fallen = by_fall }
      where
        by_jump : (o : Option ℕ) → target (here code p) ≡ o →
            IfSome o (λ t. unless_tick code (λ k. get_or table k 0) t ≤ greatest code.instrs code.starts p (later_at code.instrs p (later p)))
        by_jump None e = tt
        by_jump (Some t) e =
            let inside = subst (λ o. IfSome o (λ t. (t < all code) × (routine_of code.starts t ≡ routine_of code.starts p))) e (valid JumpOut p (within p h)) in
            let back = subst (λ o. IfSome o (λ t. t ≤ p → IsTrue (is_tick (here code t)))) e (valid BackToNoTick p (within p h)) in
            omega (arith, no_more p t inside.0 (jump_ahead p t back), ap (λ o. of_target o (later_at code.instrs p (later p))) e)

        by_fall : IsTrue (goes_on (here code p)) →
            unless_tick code (λ k. get_or table k 0) (p + 1) ≤ greatest code.instrs code.starts p (later_at code.instrs p (later p))
        by_fall goes =
            let there = next_there p h goes in
            let both = and_true _ _ goes there in
            omega (
              arith,
              no_more p (p + 1) (next_within p h there) (λ e. omega arith),
              if_true (goes_on (here code p) && has_next code.starts (all code) p) (later_at code.instrs p (later p) (p + 1)) 0 both,
            )

  height_next : (p : ℕ) → p < all code → (q : ℕ) → height code p ≡ height_after code.instrs code.starts (from_first (height_after code.instrs code.starts) p)
  height_next p h q = at_from_first (height_after code.instrs code.starts) (all code) p h

  pub height_at_start : (p : ℕ) → p < all code → IsTrue (begins code.starts p) → height code p ≡ 0
  height_at_start p h b =
      let len = length-from_first (height_after code.instrs code.starts) p in
      height_next p h p ∙ if_true (begins code.starts _) 0 _ (ap (begins code.starts) len ∙ b)

  pub at_place : (p : ℕ) → p < all code → At code p (here code p)
  unfolding table head
  at_place p h =
      let fits = valid Height p (within p h) in
      record {
        enough = fits.enough;
        room = fits.room;
        clear = fits.clear;
        jumped = jumps (target (here code p)) (valid JumpOut p (within p h)) fits.jumped;
        fallen = λ goes. let there = next_there p h goes in
            (next_within p h there, fits.fallen goes there, same_routine code.starts (all code) p (shape p h).rising there);
        slot = valid Slot p (within p h);
        called = valid CallOrder p (within p h);
        after_call = λ c. (valid EdgeToNoTick p (within p h)).after_call c (next_there p h (call_goes (here code p) c));
        stretch_top = top stretch_of p;
        stretch_is = at_table stretch_of p h;
        stretch_bounds = bounds stretch_of p h;
        commands_top = top commands_of p;
        commands_is = at_table commands_of p h;
        commands_bounds = bounds commands_of p h;
      }
    where
      jumps : (o : Option ℕ) → IfSome o (λ t. (t < all code) × (routine_of code.starts t ≡ routine_of code.starts p)) →
          IfSome o (λ t. height code t ≡ leaves (height code p) (here code p)) →
          IfSome o (λ t. (t < all code) × (height code t ≡ leaves (height code p) (here code p)) × (routine_of code.starts t ≡ routine_of code.starts p))
      jumps None a b = tt
      jumps (Some t) a b = (a.0, b, a.1)

      call_goes : (i : Instr) → IsTrue (is_call i) → IsTrue (goes_on i)
      call_goes (Call r) c = refl
      call_goes Ret c = c
      call_goes (Jump t) c = c
      call_goes _ c = refl
