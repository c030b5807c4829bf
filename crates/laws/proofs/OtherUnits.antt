-- A step that is no tick does the same with other units, and doesn't end for want of them; one that only computes goes on to the next
-- place.
use Rattle.std.proofs.Common.{◌≡◌, ℕ, zero, suc, ◌+◌, List, [], ◌∷◌, Bool, true, false, cond, Option, Some, None, Result, Ok, Err, refl}
use Rattle.std.specs.Prelude.{length, int_div, if◌then◌else◌, ℤ, pos, slice_get, neg_ℤ, ◌+ℤ◌, ◌-ℤ◌, ◌*ℤ◌, not, ◌&&◌, ◌||◌, int_lt, int_le}
use Rattle.sig_types.specs.declared.kinds.FaultKind.{FaultKind}
use Rattle.sig_types.specs.declared.kinds.FaultKind.TheVariants.{Budget, Overflow, ZeroDivisor}
use Rattle.sig_types.specs.declared.numbers.Command.{Command}
use Rattle.sig_types.specs.Arity.{reading_arity, command_arity}
use Rattle.sig_types.specs.Number.{Answer, bounded, fits, truth, holds, quotient, equal}
use Rattle.sig_types.specs.Pass.{Store as StoreOf, World, set_variable, cell, cell_at, cell_place, set_cell, set_cell_at, read, answer_of, command, given, at}
use Rattle.vap_code.specs.declared.Instr.{Instr}
use Rattle.vap_code.specs.declared.Instr.TheVariants.{Tick, Push, Load, Store, Cell, SetCell, Timer, Neg, Not, Add, Sub, Mul, Div, Eq, Ne, Lt, Le, Gt, Ge, And, Or, Read, Do, Start, Stop, Reset, Jump, JumpZero, Call, Ret}
use Rattle.vap_code.specs.Machine.{State, Done, Stuck, Unfinished, Step, Goes, Ends, End, Faulted, on_one, on_two, on_arguments, with_slot, push_answer, keep_store, next_store, binary, back, act, next, at_place}
use Rattle.vap_code.specs.Valid.{is_tick}
use Rattle.laws.specs.UnitsSpent.{with_units}

-- ---- the same with other units

module _ (k : ℕ) where
  -- a step with so many units
  abbrev pub lift : Step → Step
  lift (Goes s) = Goes (with_units k s)
  lift (Ends how) = Ends how

  lift_slot : {A : Type 0} (o : Option A) (f g : A → Step) → ((a : A) → g a ≡ lift (f a)) → with_slot o g ≡ lift (with_slot o f)
  lift_slot None f g e = refl
  lift_slot (Some a) f g e = e a

  lift_one : (xs : List ℤ) (f g : ℤ → List ℤ → Step) → ((x : ℤ) (below : List ℤ) → g x below ≡ lift (f x below))
      → on_one xs g ≡ lift (on_one xs f)
  lift_one [] f g e = refl
  lift_one (x ∷ below) f g e = e x below

  lift_two : (xs : List ℤ) (f g : ℤ → ℤ → List ℤ → Step) → ((x y : ℤ) (below : List ℤ) → g x y below ≡ lift (f x y below))
      → on_two xs g ≡ lift (on_two xs f)
  lift_two [] f g e = refl
  lift_two (y ∷ []) f g e = refl
  lift_two (y ∷ x ∷ below) f g e = e x y below

  lift_arguments : (n : ℕ) (xs : List ℤ) (f g : ℤ → ℤ → List ℤ → Step)
      → ((x y : ℤ) (below : List ℤ) → g x y below ≡ lift (f x y below)) → on_arguments n xs g ≡ lift (on_arguments n xs f)
  lift_arguments zero xs f g e = e (pos 0) (pos 0) xs
  lift_arguments (suc zero) xs f g e =
      lift_one xs (λ x below. f x (pos 0) below) (λ x below. g x (pos 0) below) (λ x below. e x (pos 0) below)
  lift_arguments (suc (suc n)) xs f g e = lift_two xs f g e

  lift_push : (s : State) (below : List ℤ) (r : Answer) → push_answer (with_units k s) below r ≡ lift (push_answer s below r)
  lift_push s below (Ok v) = refl
  lift_push s below (Err kind) = refl

  lift_keep : (s : State) (below : List ℤ) (r : Result StoreOf FaultKind)
      → keep_store (with_units k s) below r ≡ lift (keep_store s below r)
  lift_keep s below (Ok store) = refl
  lift_keep s below (Err kind) = refl

  lift_unary : (s : State) (f : ℤ → Answer) → on_one s.operands (λ x below. push_answer (with_units k s) below (f x))
      ≡ lift (on_one s.operands (λ x below. push_answer s below (f x)))
  lift_unary s f =
      lift_one s.operands (λ x below. push_answer s below (f x)) (λ x below. push_answer (with_units k s) below (f x))
      (λ x below. lift_push s below (f x))

  lift_binary : (s : State) (f : ℤ → ℤ → Answer) → binary f (with_units k s) ≡ lift (binary f s)
  lift_binary s f =
      lift_two s.operands (λ x y below. push_answer s below (f x y)) (λ x y below. push_answer (with_units k s) below (f x y))
      (λ x y below. lift_push s below (f x y))

  lift_back : (s : State) (noted : List ℕ) → back (with_units k s) noted ≡ lift (back s noted)
  lift_back s [] = refl
  lift_back s (place ∷ noted) = refl

  lift_cond : (b : Bool) (s t : Step) → cond b (lift s) (lift t) ≡ lift (cond b s t)
  lift_cond true s t = refl
  lift_cond false s t = refl

-- all but a tick
abbrev pub Plain : Instr → Type 0
Plain i = is_tick i ≡ false

module _ (starts : List ℕ) (world : World) where
  pub lifted : (k : ℕ) (i : Instr) → Plain i → (s : State) → act starts world i (with_units k s) ≡ lift k (act starts world i s)
  lifted k (Tick line) plain s = cc
  lifted k (Push v) plain s = refl
  lifted k (Load x) plain s =
      lift_slot k (slice_get s.store.variables x) (λ v. next s (v ∷ s.operands)) (λ v. next (with_units k s) (v ∷ s.operands))
      (λ v. refl)
  lifted k (Store x) plain s =
      lift_one k s.operands _ _ (λ v below. lift_slot k (slice_get s.store.variables x)
      (λ _. next_store s below (set_variable s.store x v)) (λ _. next_store (with_units k s) below (set_variable s.store x v))
      (λ w. refl))
  lifted k (Cell a) plain s =
      lift_one k s.operands _ _ (λ i below. lift_slot k (slice_get s.store.arrays a) (λ _. push_answer s below (cell s.store a i))
      (λ _. push_answer (with_units k s) below (cell s.store a i)) (λ w. lift_push k s below (cell s.store a i)))
  lifted k (SetCell a) plain s =
      lift_two k s.operands _ _ (λ i v below. lift_slot k (slice_get s.store.arrays a)
      (λ _. keep_store s below (set_cell s.store a i v)) (λ _. keep_store (with_units k s) below (set_cell s.store a i v))
      (λ w. lift_keep k s below (set_cell s.store a i v)))
  lifted k (Timer t) plain s = lift_slot k (slice_get s.store.timers t) _ _ (λ c. refl)
  lifted k Neg plain s = lift_unary k s (λ x. bounded (neg_ℤ x))
  lifted k Not plain s = lift_unary k s (λ x. Ok (truth (not (holds x))))
  lifted k Add plain s = lift_binary k s (λ x y. bounded (x +ℤ y))
  lifted k Sub plain s = lift_binary k s (λ x y. bounded (x -ℤ y))
  lifted k Mul plain s = lift_binary k s (λ x y. bounded (x *ℤ y))
  lifted k Div plain s = lift_binary k s (λ x y. quotient x y)
  lifted k Eq plain s = lift_binary k s (λ x y. Ok (truth (equal x y)))
  lifted k Ne plain s = lift_binary k s (λ x y. Ok (truth (not (equal x y))))
  lifted k Lt plain s = lift_binary k s (λ x y. Ok (truth (int_lt x y)))
  lifted k Le plain s = lift_binary k s (λ x y. Ok (truth (int_le x y)))
  lifted k Gt plain s = lift_binary k s (λ x y. Ok (truth (int_lt y x)))
  lifted k Ge plain s = lift_binary k s (λ x y. Ok (truth (int_le y x)))
  lifted k And plain s = lift_binary k s (λ x y. Ok (truth (holds x && holds y)))
  lifted k Or plain s = lift_binary k s (λ x y. Ok (truth (holds x || holds y)))
  lifted k (Read kind) plain s =
      lift_arguments k (reading_arity kind) s.operands _ _ (λ a b below. lift_push k s below (read world kind a b))
  lifted k (Do kind) plain s =
      lift_arguments k (command_arity kind) s.operands _ _ (λ a b below. lift_keep k s below (command world kind a b s.store))
  lifted k (Start t) plain s = lift_slot k (slice_get s.store.timers t) _ _ (λ c. refl)
  lifted k (Stop t) plain s = lift_slot k (slice_get s.store.timers t) _ _ (λ c. refl)
  lifted k (Reset t) plain s = lift_slot k (slice_get s.store.timers t) _ _ (λ c. refl)
  lifted k (Jump place) plain s = refl
  lifted k (JumpZero place) plain s =
      lift_one k s.operands _ _ (λ v below. lift_cond k (holds v) (next s below) (at_place s below place))
  lifted k (Call r) plain s = lift_slot k (slice_get starts r) _ _ (λ place. refl)
  lifted k Ret plain s = lift_back k s s.noted

-- ---- on to the next place, or no end for want of units

-- an end that is none for want of units
abbrev FairEnd : End → Type 0
FairEnd (Faulted kind line) = kind ≡ Budget → ⊥
FairEnd (Done s) = Unit {0}
FairEnd Stuck = Unit {0}
FairEnd Unfinished = Unit {0}

-- a step that doesn't end for want of units
abbrev pub Fair : Step → Type 0
Fair (Goes s) = Unit {0}
Fair (Ends how) = FairEnd how

-- an answer, or a fault other than want of units
abbrev FairAnswer : {A : Type 0} → Result A FaultKind → Type 0
FairAnswer (Ok v) = Unit {0}
FairAnswer (Err kind) = kind ≡ Budget → ⊥

fair_bound : (b : Bool) (z : ℤ) → FairAnswer (if b then Ok z else Err Overflow)
fair_bound true z = tt
fair_bound false z = λ e. cc

fair_bounded : (z : ℤ) → FairAnswer (bounded z)
fair_bounded z = fair_bound (fits z) z

fair_divided : (b : Bool) (z : ℤ) → FairAnswer (if b then bounded z else Err ZeroDivisor)
fair_divided true z = fair_bounded z
fair_divided false z = λ e. cc

fair_cell : (cells : List ℤ) (o : Option ℕ) → FairAnswer (cell_at cells o)
fair_cell cells None = λ e. cc
fair_cell cells (Some k) = tt

fair_set : (s : StoreOf) (a : ℕ) (cells : List ℤ) (o : Option ℕ) (v : ℤ) → FairAnswer (set_cell_at s a cells o v)
fair_set s a cells None v = λ e. cc
fair_set s a cells (Some k) v = tt

fair_read : (o : Option ℤ) → FairAnswer (answer_of o)
fair_read None = λ e. cc
fair_read (Some v) = tt

fair_given : (o : Option Command) (s : StoreOf) → FairAnswer (given o s)
fair_given None s = λ e. cc
fair_given (Some c) s = tt

module _ (s : State) where
  -- a step that goes on to the next place, or doesn't end for want of units
  abbrev pub Onward : Step → Type 0
  Onward (Goes t) = (t.place ≡ s.place + 1) × (t.noted ≡ s.noted)
  Onward (Ends how) = FairEnd how

  on_slot : {A : Type 0} (o : Option A) (f : A → Step) → ((a : A) → Onward (f a)) → Onward (with_slot o f)
  on_slot None f h = tt
  on_slot (Some a) f h = h a

  on_first : (xs : List ℤ) (f : ℤ → List ℤ → Step) → ((x : ℤ) (below : List ℤ) → Onward (f x below)) → Onward (on_one xs f)
  on_first [] f h = tt
  on_first (x ∷ below) f h = h x below

  on_pair : (xs : List ℤ) (f : ℤ → ℤ → List ℤ → Step) → ((x y : ℤ) (below : List ℤ) → Onward (f x y below)) → Onward (on_two xs f)
  on_pair [] f h = tt
  on_pair (y ∷ []) f h = tt
  on_pair (y ∷ x ∷ below) f h = h x y below

  on_all : (n : ℕ) (xs : List ℤ) (f : ℤ → ℤ → List ℤ → Step) → ((x y : ℤ) (below : List ℤ) → Onward (f x y below))
      → Onward (on_arguments n xs f)
  on_all zero xs f h = h (pos 0) (pos 0) xs
  on_all (suc zero) xs f h = on_first xs (λ x below. f x (pos 0) below) (λ x below. h x (pos 0) below)
  on_all (suc (suc n)) xs f h = on_pair xs f h

  on_push : (below : List ℤ) (r : Answer) → FairAnswer r → Onward (push_answer s below r)
  on_push below (Ok v) h = (refl, refl)
  on_push below (Err kind) h = h

  on_keep : (below : List ℤ) (r : Result StoreOf FaultKind) → FairAnswer r → Onward (keep_store s below r)
  on_keep below (Ok v) h = (refl, refl)
  on_keep below (Err kind) h = h

  on_binary : (f : ℤ → ℤ → Answer) → ((x y : ℤ) → FairAnswer (f x y)) → Onward (binary f s)
  on_binary f h = on_pair s.operands (λ x y below. push_answer s below (f x y)) (λ x y below. on_push below (f x y) (h x y))

  on_unary : (f : ℤ → Answer) → ((x : ℤ) → FairAnswer (f x)) → Onward (on_one s.operands (λ x below. push_answer s below (f x)))
  on_unary f h = on_first s.operands (λ x below. push_answer s below (f x)) (λ x below. on_push below (f x) (h x))

  fair_of : (t : Step) → Onward t → Fair t
  fair_of (Goes t) h = tt
  fair_of (Ends how) h = h

-- whether it only computes: it goes on to the next place, and spends nothing
abbrev pub computes : Instr → Bool
computes (Tick line) = false
computes (Jump place) = false
computes (JumpZero place) = false
computes (Call r) = false
computes Ret = false
computes _ = true

fair_cond : (b : Bool) (s t : State) → Fair (cond b (Goes s) (Goes t))
fair_cond true s t = tt
fair_cond false s t = tt

module _ (starts : List ℕ) (world : World) where
  pub onward : (i : Instr) → computes i ≡ true → (s : State) → Onward s (act starts world i s)
  onward (Tick line) c s = cc
  onward (Push v) c s = (refl, refl)
  onward (Load x) c s = on_slot s (slice_get s.store.variables x) (λ v. next s (v ∷ s.operands)) (λ v. (refl, refl))
  onward (Store x) c s =
      on_first s s.operands (λ v below. with_slot (slice_get s.store.variables x)
      (λ _. next_store s below (set_variable s.store x v))) (λ v below. on_slot s (slice_get s.store.variables x)
      (λ _. next_store s below (set_variable s.store x v)) (λ w. (refl, refl)))
  onward (Cell a) c s =
      on_first s s.operands (λ i below. with_slot (slice_get s.store.arrays a) (λ _. push_answer s below (cell s.store a i)))
      (λ i below. on_slot s (slice_get s.store.arrays a) (λ _. push_answer s below (cell s.store a i))
      (λ w. on_push s below (cell s.store a i)
      (fair_cell (at s.store.arrays a []) (cell_place i (length (at s.store.arrays a []))))))
  onward (SetCell a) c s =
      on_pair s s.operands (λ i v below. with_slot (slice_get s.store.arrays a)
      (λ _. keep_store s below (set_cell s.store a i v))) (λ i v below. on_slot s (slice_get s.store.arrays a)
      (λ _. keep_store s below (set_cell s.store a i v)) (λ w. on_keep s below (set_cell s.store a i v)
      (fair_set s.store a (at s.store.arrays a []) (cell_place i (length (at s.store.arrays a []))) v)))
  onward (Timer t) c s = on_slot s (slice_get s.store.timers t) (λ c. next s (pos c.count ∷ s.operands)) (λ c. (refl, refl))
  onward Neg c s = on_unary s (λ x. bounded (neg_ℤ x)) (λ x. fair_bounded (neg_ℤ x))
  onward Not c s = on_unary s (λ x. Ok (truth (not (holds x)))) (λ x. tt)
  onward Add c s = on_binary s (λ x y. bounded (x +ℤ y)) (λ x y. fair_bounded (x +ℤ y))
  onward Sub c s = on_binary s (λ x y. bounded (x -ℤ y)) (λ x y. fair_bounded (x -ℤ y))
  onward Mul c s = on_binary s (λ x y. bounded (x *ℤ y)) (λ x y. fair_bounded (x *ℤ y))
  onward Div c s = on_binary s (λ x y. quotient x y) (λ x y. fair_divided (holds y) (int_div x y))
  onward Eq c s = on_binary s (λ x y. Ok (truth (equal x y))) (λ x y. tt)
  onward Ne c s = on_binary s (λ x y. Ok (truth (not (equal x y)))) (λ x y. tt)
  onward Lt c s = on_binary s (λ x y. Ok (truth (int_lt x y))) (λ x y. tt)
  onward Le c s = on_binary s (λ x y. Ok (truth (int_le x y))) (λ x y. tt)
  onward Gt c s = on_binary s (λ x y. Ok (truth (int_lt y x))) (λ x y. tt)
  onward Ge c s = on_binary s (λ x y. Ok (truth (int_le y x))) (λ x y. tt)
  onward And c s = on_binary s (λ x y. Ok (truth (holds x && holds y))) (λ x y. tt)
  onward Or c s = on_binary s (λ x y. Ok (truth (holds x || holds y))) (λ x y. tt)
  onward (Read kind) c s =
      on_all s (reading_arity kind) s.operands (λ a b below. push_answer s below (read world kind a b))
      (λ a b below. on_push s below (read world kind a b) (fair_read (world.reading kind a b)))
  onward (Do kind) c s =
      on_all s (command_arity kind) s.operands (λ a b below. keep_store s below (command world kind a b s.store))
      (λ a b below. on_keep s below (command world kind a b s.store) (fair_given (world.command kind a b) s.store))
  onward (Start t) c s = on_slot s (slice_get s.store.timers t) _ (λ c. (refl, refl))
  onward (Stop t) c s = on_slot s (slice_get s.store.timers t) _ (λ c. (refl, refl))
  onward (Reset t) c s = on_slot s (slice_get s.store.timers t) _ (λ c. (refl, refl))
  onward (Jump place) c s = cc
  onward (JumpZero place) c s = cc
  onward (Call r) c s = cc
  onward Ret c s = cc

  fair_slot : (o : Option ℕ) (f : ℕ → State) → Fair (with_slot o (λ place. Goes (f place)))
  fair_slot None f = tt
  fair_slot (Some place) f = tt

  fair_zero : (s : State) (xs : List ℤ) (place : ℕ)
      → Fair (on_one xs (λ v below. cond (holds v) (next s below) (at_place s below place)))
  fair_zero s [] place = tt
  fair_zero s (v ∷ below) place =
      fair_cond (holds v) (record s { place = s.place + 1; operands = below }) (record s { place = place; operands = below })

  fair_back : (s : State) (noted : List ℕ) → Fair (back s noted)
  fair_back s [] = tt
  fair_back s (place ∷ noted) = tt

  pub fair_act : (i : Instr) → Plain i → (s : State) → Fair (act starts world i s)
  fair_act (Tick line) plain s = cc
  fair_act (Jump place) plain s = tt
  fair_act (JumpZero place) plain s = fair_zero s s.operands place
  fair_act (Call r) plain s =
      fair_slot (slice_get starts r) (λ place. record s { place = place; noted = (s.place + 1) ∷ s.noted })
  fair_act Ret plain s = fair_back s s.noted
  fair_act i plain s = fair_of s (act starts world i s) (onward i refl s)

pub fair_end : (how : End) (line : ℕ) → FairEnd how → how ≡ Faulted Budget line → ⊥
fair_end (Done s) line fair e = cc
fair_end Stuck line fair e = cc
fair_end Unfinished line fair e = cc
fair_end (Faulted kind l) line fair e = fair (kind_is kind l line e)
  where
    kind_is : (kind : FaultKind) (l line : ℕ) → Faulted kind l ≡ Faulted Budget line → kind ≡ Budget
    kind_is kind l line e = cc
