-- Each code is valid or has a first broken check.
use Rattle.std.proofs.Common.{◌≡◌, ℕ, zero, suc, ◌+◌, ◌<◌, ◌≤◌, List, [], ◌∷◌, length, map, get_or, Bool, true, false, Option, Some, None, ◌⊎◌, inl, inr, ⊎_elim, refl, sym, subst, arith}
use Rattle.std.specs.Prelude.{ℤ, IsTrue, IfSome, max, sum}
use Rattle.std.specs.List.{All}
use Rattle.std.proofs.lemmas.Bool.{cases_lt}
use Rattle.std.proofs.lemmas.List.Elements.{All-nil, All-cons, All-head, All-tail}
use Rattle.vap_code.specs.declared.operands.Operand.{Operand}
use Rattle.vap_code.specs.declared.operands.Operand.TheVariants as operand
use Rattle.vap_code.specs.Operands.{operand_of}
use Rattle.sig_types.specs.Limits.{most_instrs, most_routines, most_variables, most_timers, most_arrays, most_array_cells, most_cells}
use Rattle.vap_code.specs.Codes.{CodeOf}
use Rattle.vap_code.specs.declared.VerifyWhy.{VerifyWhy}
use Rattle.vap_code.specs.declared.VerifyWhy.TheVariants.{JumpOut, BackToNoTick, Height, Slot, CallOrder, EdgeToNoTick, FallsOff, Stretch, Shape, Commands}
use Rattle.vap_code.specs.Valid.{FitsCheck, HasShape, HeightFits, OperandFits, StandsAbove, EdgeFits, Passed, FirstBroken, check_rank, heights, stretches, command_counts, instr_at, pops, leaves, target, goes_on, stands_clear, has_next, begins, routine_of, is_tick, is_call, is_ret, rise, line_fits}
use Rattle.code_verify.specs.First.{SomeIsFirst}
use Rattle.code_verify.proofs.Checked.{check_at, rank_at, passed_more, passed_all}

-- it holds, or it doesn't
abbrev Known : Type 0 → Type 0
Known P = P ⊎ (P → ⊥)

as_known : {P Q : Type 0} → Known P → (P → Q) → (Q → P) → Known Q
as_known (inl p) to from = inl (to p)
as_known (inr never) to from = inr (λ q. never (from q))

-- a part that has to hold, before the others
need : {P R : Type 0} → Known P → (R → P) → (P → Known R) → Known R
need (inl p) part others = others p
need (inr never) part others = inr (λ r. never (part r))

both_known : {P Q : Type 0} → Known P → Known Q → Known (P × Q)
both_known (inl p) (inl q) = inl (p, q)
both_known (inl p) (inr never) = inr (λ b. never b.1)
both_known (inr never) (inl q) = inr (λ b. never b.0)
both_known (inr never) (inr never') = inr (λ b. never b.0)

asked_known : {P Q : Type 0} → Known P → Known Q → Known (P → Q)
asked_known (inl p) (inl q) = inl (λ _. q)
asked_known (inl p) (inr never) = inr (λ f. never (f p))
asked_known (inr never) (inl q) = inl (λ _. q)
asked_known (inr never) (inr never') = inl (λ p. absurd (never p))

lt_known : (a b : ℕ) → Known (a < b)
lt_known a b = ⊎_elim (λ less. inl less) (λ more. inr (λ less. omega (arith, less, more))) (cases_lt a b)

le_known : (a b : ℕ) → Known (a ≤ b)
le_known a b = ⊎_elim (λ less. inr (λ most. omega (arith, less, most))) (λ more. inl (omega (arith, more))) (cases_lt b a)

eq_known : (a b : ℕ) → Known (a ≡ b)
eq_known a b = as_known (both_known (le_known a b) (le_known b a)) (λ h. omega (arith, h.0, h.1)) (λ e. (omega (arith, e), omega (arith, e)))

true_known : (b : Bool) → Known (IsTrue b)
true_known true = inl refl
true_known false = inr (λ h. cc)

false_known : (b : Bool) → Known (b ≡ false)
false_known true = inr (λ h. cc)
false_known false = inl refl

some_known : (P : ℕ → Type 0) → ((t : ℕ) → Known (P t)) → (o : Option ℕ) → Known (IfSome o P)
some_known P known None = inl tt
some_known P known (Some t) = known t

all_known : {A : Type 0} (P : A → Type 0) → ((a : A) → Known (P a)) → (xs : List A) → Known (All P xs)
all_known P known [] = inl (All-nil P)
all_known P known (x ∷ xs) = as_known (both_known (known x) (all_known P known xs)) (λ h. All-cons P x xs h.0 h.1) (λ h. (All-head P x xs h, All-tail P x xs h))

-- the lowest number below n of which it doesn't hold
record Lowest (P : ℕ → Type 0) (n : ℕ) : Type 0 where
  place : ℕ
  below : place < n
  broken : P place → ⊥
  least : (k : ℕ) → k < place → P k

module _ (P : ℕ → Type 0) (known : (k : ℕ) → Known (P k)) where
  one_more : (n : ℕ) → ((k : ℕ) → k < n → P k) → P n → (k : ℕ) → k < suc n → P k
  one_more n all here k lt = ⊎_elim (λ less. all k less) (λ more. subst P (omega (arith, lt, more)) here) (cases_lt k n)

  lowest : (n : ℕ) → ((k : ℕ) → k < n → P k) ⊎ Lowest P n
  lowest zero = inl (λ k lt. absurd (omega (arith, lt)))
  lowest (suc n) =
      ⊎_elim
      (λ all. ⊎_elim (λ here. inl (one_more n all here)) (λ never. inr (record { place = n; below = omega arith; broken = never; least = all })) (known n))
      (λ low. inr (record { place = low.place; below = omega (arith, low.below); broken = low.broken; least = low.least }))
      (lowest n)

  below_known : (n : ℕ) → Known ((k : ℕ) → k < n → P k)
  below_known n = ⊎_elim (λ all. inl all) (λ low. inr (λ all. low.broken (all low.place low.below))) (lowest n)

module _ (code : CodeOf) where
  height_known : (p : ℕ) → Known (HeightFits code p)
  height_known p =
      let i = instr_at code.instrs p in
      let h = get_or (heights code) p 0 in
      need (le_known (pops i) h) (λ (f : HeightFits code p). f.enough) (λ enough.
      need (le_known (leaves h i) 256) (λ (f : HeightFits code p). f.room) (λ room.
      need (asked_known (true_known (stands_clear i)) (eq_known h 0)) (λ (f : HeightFits code p). f.clear) (λ clear.
      need (some_known (λ t. get_or (heights code) t 0 ≡ leaves h i) (λ t. eq_known (get_or (heights code) t 0) (leaves h i)) (target i))
      (λ (f : HeightFits code p). f.jumped) (λ jumped.
      need (asked_known (true_known (goes_on i))
      (asked_known (true_known (has_next code.starts (length code.instrs) p)) (eq_known (get_or (heights code) (p + 1) 0) (leaves h i))))
      (λ (f : HeightFits code p). f.fallen) (λ fallen.
      inl (record { enough = enough; room = room; clear = clear; jumped = jumped; fallen = fallen }))))))

  edge_known : (p : ℕ) → Known (EdgeFits code p)
  edge_known p =
      let i = instr_at code.instrs p in
      as_known
      (both_known (asked_known (true_known (is_call i))
      (asked_known (true_known (has_next code.starts (length code.instrs) p)) (true_known (is_tick (instr_at code.instrs (p + 1))))))
      (asked_known (true_known (begins code.starts p)) (asked_known (false_known (is_ret i)) (true_known (is_tick i)))))
      (λ h. record { after_call = h.0; at_start = h.1 })
      (λ f. (f.after_call, f.at_start))

  slot_known : (o : Operand) → Known (OperandFits code o)
  slot_known (operand.Variable x) = lt_known x code.vars
  slot_known (operand.Array a) = lt_known a (length code.arrays)
  slot_known (operand.Timer t) = lt_known t code.timers
  slot_known _ = inl tt

  call_known : (p : ℕ) (o : Operand) → Known (StandsAbove code.starts p o)
  call_known p (operand.Routine r) = lt_known r (routine_of code.starts p)
  call_known p _ = inl tt

  shape_known : Known (HasShape code)
  shape_known =
      need (le_known (length code.instrs) most_instrs) (λ (f : HasShape code). f.instrs) (λ instrs.
      need (le_known (length code.starts) most_routines) (λ (f : HasShape code). f.routines) (λ routines.
      need (le_known code.vars most_variables) (λ (f : HasShape code). f.variables) (λ variables.
      need (le_known code.timers most_timers) (λ (f : HasShape code). f.timers) (λ timers.
      need (le_known (length code.arrays) most_arrays) (λ (f : HasShape code). f.arrays) (λ arrays.
      need (all_known (λ (a : List ℤ). (1 ≤ length a) × (length a ≤ most_array_cells))
      (λ a. both_known (le_known 1 (length a)) (le_known (length a) most_array_cells)) code.arrays) (λ (f : HasShape code). f.cells) (λ cells.
      need (le_known (sum (map length code.arrays)) most_cells) (λ (f : HasShape code). f.all_cells) (λ all_cells.
      need (eq_known (get_or code.starts 0 1) 0) (λ (f : HasShape code). f.first) (λ first.
      need (true_known (rise code.starts)) (λ (f : HasShape code). f.rising) (λ rising.
      need (below_known (λ k. get_or code.starts k 0 < length code.instrs) (λ k. lt_known (get_or code.starts k 0) (length code.instrs))
      (length code.starts)) (λ (f : HasShape code). f.inside) (λ inside.
      need (below_known (λ p. IsTrue (line_fits (instr_at code.instrs p))) (λ p. true_known (line_fits (instr_at code.instrs p)))
      (length code.instrs)) (λ (f : HasShape code). f.lines) (λ lines.
      inl (record {
        instrs = instrs;
        routines = routines;
        variables = variables;
        timers = timers;
        arrays = arrays;
        cells = cells;
        all_cells = all_cells;
        first = first;
        rising = rising;
        inside = inside;
        lines = lines;
      }))))))))))))

  fits_known : (why : VerifyWhy) (p : ℕ) → Known (FitsCheck code why p)
  fits_known JumpOut p = some_known (λ t. (t < length code.instrs) × (routine_of code.starts t ≡ routine_of code.starts p))
      (λ t. both_known (lt_known t (length code.instrs)) (eq_known (routine_of code.starts t) (routine_of code.starts p))) (target (instr_at code.instrs p))
  fits_known BackToNoTick p = some_known (λ t. t ≤ p → IsTrue (is_tick (instr_at code.instrs t)))
      (λ t. asked_known (le_known t p) (true_known (is_tick (instr_at code.instrs t)))) (target (instr_at code.instrs p))
  fits_known Height p = height_known p
  fits_known Slot p = slot_known (operand_of (instr_at code.instrs p))
  fits_known CallOrder p = call_known p (operand_of (instr_at code.instrs p))
  fits_known EdgeToNoTick p = edge_known p
  fits_known FallsOff p = asked_known (true_known (goes_on (instr_at code.instrs p))) (true_known (has_next code.starts (length code.instrs) p))
  fits_known Stretch p = le_known (get_or (stretches code) p 0) 1022
  fits_known Shape p = asked_known (eq_known p 0) shape_known
  fits_known Commands p = le_known (get_or (command_counts code) p 0) 1

  abbrev First : Type 0
  First = (why : VerifyWhy) × (place : ℕ) × FirstBroken code why place

  -- the first n checks are passed, or one of them is broken first
  passed_or : (n : ℕ) → n ≤ 10 → Passed n code ⊎ First
  passed_or zero few = inl (λ w lt. absurd (omega (arith, lt)))
  passed_or (suc n) few =
      let why = check_at n in
      let rank : check_rank why ≡ n = rank_at n (omega (arith, few)) in
      ⊎_elim
      (λ passed.
      ⊎_elim
      (λ all. inl (subst (λ m. Passed m code) (omega arith) (passed_more code why n rank passed all)))
      (λ low. inr (why, low.place, record { within = low.below; broken = low.broken; least = low.least; first = subst (λ m. Passed m code) (sym rank) passed }))
      (lowest (FitsCheck code why) (fits_known why) (max 1 (length code.instrs))))
      (λ first. inr first)
      (passed_or n (omega (arith, few)))

pub some_is_first : SomeIsFirst
some_is_first code = ⊎_elim (λ passed. inl (passed_all code passed)) (λ first. inr first) (passed_or code 10 (omega arith))
