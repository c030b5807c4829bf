-- A pass gives few commands, and none but those of its world.
use Rattle.std.proofs.Common.{◌≡◌, ℕ, zero, suc, ◌≤◌, Bool, true, false, List, [], ◌∷◌, length, Option, Some, None, Result, Ok, Err, IfOk, ℤ, All, refl, sym, subst, arith, cond, not, ◌&&◌, ◌||◌}
use Rattle.std.specs.Prelude.{pos, slice_get, int_lt, int_le}
use Rattle.std.proofs.lemmas.List.Elements.{All-append, All-cons, All-nil}
use Rattle.sig_types.specs.declared.kinds.FaultKind.{FaultKind}
use Rattle.sig_types.specs.declared.numbers.Command.{Command}
use Rattle.sig_types.specs.Arity.{reading_arity, command_arity}
use Rattle.sig_types.specs.Number.{Answer, equal, holds, truth}
use Rattle.sig_types.specs.Pass.{Store as StoreOf, World, command, commands_after, given, set_cell_at, unit_limit, End, Done, Faulted, Stuck, Unfinished}
use Rattle.vap_code.specs.declared.Instr.{Instr}
use Rattle.vap_code.specs.declared.Instr.TheVariants.{Tick, Push, Load, Store, Cell, SetCell, Timer, Neg, Not, Add, Sub, Mul, Div, Eq, Ne, Lt, Le, Gt, Ge, And, Or, Read, Do, Start, Stop, Reset, Jump, JumpZero, Call, Ret}
use Rattle.vap_code.specs.Machine.{State, Step, Goes, Ends, act, after, at_place, back, exec, first_state, keep_store, machine, next, on_arguments, on_one, on_two, push_answer, step, step_at, step_limit, tick, with_slot}
use Rattle.code_verify.specs.Ends.{IsOver}
use Rattle.code_verify.specs.Given.{CodesGiveTheWorlds, HasCommand, ValidCodesGiveFew}
use Rattle.code_verify.proofs.Bound.{valid_code_ends}

few_over : (e : End) → IsOver e → length (commands_after e) ≤ unit_limit
few_over (Done s) over = over
few_over (Faulted kind line) over = omega arith
few_over Stuck over = absurd over
few_over Unfinished over = absurd over

pub valid_codes_give_few : ValidCodesGiveFew
valid_codes_give_few code world s valid fits = few_over (machine code world s) (valid_code_ends code world s valid fits).0

module _ (world : World) where
  abbrev P : Command → Type 0
  P = HasCommand world

  -- each command that is given after the step is of the world
  abbrev Keeps : Step → Type 0
  Keeps (Goes s) = All P s.store.commands
  Keeps (Ends how) = All P (commands_after how)

  one : (operands : List ℤ) (go : ℤ → List ℤ → Step) → ((x : ℤ) (below : List ℤ) → Keeps (go x below)) → Keeps (on_one operands go)
  one [] go all = All-nil P
  one (x ∷ below) go all = all x below

  two : (operands : List ℤ) (go : ℤ → ℤ → List ℤ → Step) → ((x y : ℤ) (below : List ℤ) → Keeps (go x y below)) → Keeps (on_two operands go)
  two [] go all = All-nil P
  two (y ∷ []) go all = All-nil P
  two (y ∷ x ∷ below) go all = all x y below

  arguments : (n : ℕ) (operands : List ℤ) (go : ℤ → ℤ → List ℤ → Step) → ((x y : ℤ) (below : List ℤ) → Keeps (go x y below)) →
      Keeps (on_arguments n operands go)
  arguments zero operands go all = all (pos 0) (pos 0) operands
  arguments (suc zero) operands go all = one operands _ (λ x below. all x (pos 0) below)
  arguments (suc (suc n)) operands go all = two operands go all

  slot : {A : Type 0} (o : Option A) (go : A → Step) → ((a : A) → Keeps (go a)) → Keeps (with_slot o go)
  slot None go all = All-nil P
  slot (Some a) go all = all a

  answer : (s : State) (operands : List ℤ) (r : Answer) → All P s.store.commands → Keeps (push_answer s operands r)
  answer s operands (Ok v) all = all
  answer s operands (Err kind) all = All-nil P

  kept : (s : State) (operands : List ℤ) (r : Result StoreOf FaultKind) → IfOk r (λ t. All P t.commands) → Keeps (keep_store s operands r)
  kept s operands (Ok t) all = all
  kept s operands (Err kind) all = All-nil P

  cell_set : (s : StoreOf) (a : ℕ) (cells : List ℤ) (place : Option ℕ) (v : ℤ) → All P s.commands → IfOk (set_cell_at s a cells place v) (λ t. All P t.commands)
  cell_set s a cells None v all = tt
  cell_set s a cells (Some k) v all = all

  one_given : (s : StoreOf) (o : Option Command) → ((c : Command) → o ≡ Some c → P c) → All P s.commands → IfOk (given o s) (λ t. All P t.commands)
  one_given s None is all = tt
  one_given s (Some c) is all = All-append P s.commands (c ∷ []) all (All-cons P c [] (is c refl) (All-nil P))

  ticked : (s : State) (line units : ℕ) → All P s.store.commands → Keeps (tick s line units)
  ticked s line zero all = All-nil P
  ticked s line (suc units) all = all

  gone_back : (s : State) (noted : List ℕ) → All P s.store.commands → Keeps (back s noted)
  gone_back s [] all = all
  gone_back s (place ∷ noted) all = all

  either : (b : Bool) (x y : Step) → Keeps x → Keeps y → Keeps (cond b x y)
  either true x y a b = a
  either false x y a b = b

  acts : (starts : List ℕ) (i : Instr) (s : State) → All P s.store.commands → Keeps (act starts world i s)
  acts starts (Tick line) s all = ticked s line s.units all
  acts starts (Push v) s all = all
  acts starts (Load x) s all = slot (slice_get s.store.variables x) _ (λ v. all)
  acts starts (Store x) s all = one s.operands _ (λ v below. slot (slice_get s.store.variables x) _ (λ o. all))
  acts starts (Cell a) s all = one s.operands _ (λ i below. slot (slice_get s.store.arrays a) _ (λ o. answer s below _ all))
  acts starts (SetCell a) s all = two s.operands _ (λ i v below. slot (slice_get s.store.arrays a) _ (λ o. kept s below _ (cell_set s.store a _ _ v all)))
  acts starts (Timer t) s all = slot (slice_get s.store.timers t) _ (λ c. all)
  acts starts Neg s all = one s.operands _ (λ x below. answer s below _ all)
  acts starts Not s all = one s.operands _ (λ x below. answer s below (Ok (truth (not (holds x)))) all)
  acts starts Add s all = two s.operands _ (λ x y below. answer s below _ all)
  acts starts Sub s all = two s.operands _ (λ x y below. answer s below _ all)
  acts starts Mul s all = two s.operands _ (λ x y below. answer s below _ all)
  acts starts Div s all = two s.operands _ (λ x y below. answer s below _ all)
  acts starts Eq s all = two s.operands _ (λ x y below. answer s below (Ok (truth (equal x y))) all)
  acts starts Ne s all = two s.operands _ (λ x y below. answer s below (Ok (truth (not (equal x y)))) all)
  acts starts Lt s all = two s.operands _ (λ x y below. answer s below (Ok (truth (int_lt x y))) all)
  acts starts Le s all = two s.operands _ (λ x y below. answer s below (Ok (truth (int_le x y))) all)
  acts starts Gt s all = two s.operands _ (λ x y below. answer s below (Ok (truth (int_lt y x))) all)
  acts starts Ge s all = two s.operands _ (λ x y below. answer s below (Ok (truth (int_le y x))) all)
  acts starts And s all = two s.operands _ (λ x y below. answer s below (Ok (truth (holds x && holds y))) all)
  acts starts Or s all = two s.operands _ (λ x y below. answer s below (Ok (truth (holds x || holds y))) all)
  acts starts (Read kind) s all = arguments (reading_arity kind) s.operands _ (λ a b below. answer s below _ all)
  acts starts (Do kind) s all =
      arguments (command_arity kind) s.operands _ (λ a b below. kept s below _ (one_given s.store (world.command kind a b) (λ c is. (kind, (a, (b, is)))) all))
  acts starts (Start t) s all = slot (slice_get s.store.timers t) _ (λ c. all)
  acts starts (Stop t) s all = slot (slice_get s.store.timers t) _ (λ c. all)
  acts starts (Reset t) s all = slot (slice_get s.store.timers t) _ (λ c. all)
  acts starts (Jump place) s all = all
  acts starts (JumpZero place) s all = one s.operands _ (λ v below. either (holds v) (next s below) (at_place s below place) all all)
  acts starts (Call r) s all = slot (slice_get starts r) _ (λ place. all)
  acts starts Ret s all = gone_back s s.noted all

  steps : (starts : List ℕ) (o : Option Instr) (s : State) → All P s.store.commands → Keeps (step_at starts world o s)
  steps starts None s all = All-nil P
  steps starts (Some i) s all = acts starts i s all

  runs : (instrs : List Instr) (starts : List ℕ) (n : ℕ) (s : State) → All P s.store.commands → All P (commands_after (exec instrs starts world n s))
  runs instrs starts zero s all = All-nil P
  runs instrs starts (suc n) s all = go (step instrs starts world s) (steps starts (slice_get instrs s.place) s all) (λ t h. runs instrs starts n t h)
    where
      go : (t : Step) → Keeps t → ((s' : State) → All P s'.store.commands → All P (commands_after (exec instrs starts world n s'))) →
          All P (commands_after (after t (exec instrs starts world n)))
      go (Ends how) h rest = h
      go (Goes s') h rest = rest s' h

pub codes_give_the_worlds : CodesGiveTheWorlds
codes_give_the_worlds code world s none =
    runs world code.instrs code.starts step_limit (first_state code.starts unit_limit s)
    (subst (All (HasCommand world)) (sym none) (All-nil (HasCommand world)))
