-- A pass of a valid code has its fault at a line that a program can have.
use Rattle.std.proofs.Common.{ℕ, zero, suc, ◌<◌, ◌≤◌, Bool, true, false, List, [], ◌∷◌, length, Option, Some, None, Result, Ok, Err, ℤ, refl, arith, cond, not, ◌&&◌, ◌||◌}
use Rattle.std.specs.Prelude.{pos, slice_get, int_lt, int_le, IsTrue, IfSome}
use Rattle.std.proofs.lemmas.Bool.{and_parts, leb-true}
use Rattle.sig_types.specs.declared.kinds.FaultKind.{FaultKind}
use Rattle.sig_types.specs.Arity.{reading_arity, command_arity}
use Rattle.sig_types.specs.Limits.{last_line}
use Rattle.sig_types.specs.Number.{Answer, equal, holds, truth}
use Rattle.sig_types.specs.Pass.{Store as StoreOf, World, unit_limit}
use Rattle.vap_code.specs.declared.Instr.{Instr}
use Rattle.vap_code.specs.declared.Instr.TheVariants.{Tick, Push, Load, Store, Cell, SetCell, Timer, Neg, Not, Add, Sub, Mul, Div, Eq, Ne, Lt, Le, Gt, Ge, And, Or, Read, Do, Start, Stop, Reset, Jump, JumpZero, Call, Ret}
use Rattle.vap_code.specs.declared.VerifyWhy.TheVariants.{Shape}
use Rattle.vap_code.specs.Codes.{CodeOf}
use Rattle.vap_code.specs.Machine.{State, Step, Goes, Ends, act, after, at_place, back, exec, first_state, keep_store, machine, next, on_arguments, on_one, on_two, push_answer, step, step_at, step_limit, tick, with_slot}
use Rattle.vap_code.specs.Valid.{Valid, instr_at, line_fits}
use Rattle.laws.proofs.FaultLines.{HasLine, HasLines}

-- the line that an instruction notes, or after which it ends the run, is one that a program can have
abbrev Lined : Step → Type 0
Lined (Goes s) = s.line ≤ last_line
Lined (Ends how) = HasLine how

one : (operands : List ℤ) (go : ℤ → List ℤ → Step) → ((x : ℤ) (below : List ℤ) → Lined (go x below)) → Lined (on_one operands go)
one [] go all = tt
one (x ∷ below) go all = all x below

two : (operands : List ℤ) (go : ℤ → ℤ → List ℤ → Step) → ((x y : ℤ) (below : List ℤ) → Lined (go x y below)) → Lined (on_two operands go)
two [] go all = tt
two (y ∷ []) go all = tt
two (y ∷ x ∷ below) go all = all x y below

arguments : (n : ℕ) (operands : List ℤ) (go : ℤ → ℤ → List ℤ → Step) → ((x y : ℤ) (below : List ℤ) → Lined (go x y below)) →
    Lined (on_arguments n operands go)
arguments zero operands go all = all (pos 0) (pos 0) operands
arguments (suc zero) operands go all = one operands _ (λ x below. all x (pos 0) below)
arguments (suc (suc n)) operands go all = two operands go all

slot : {A : Type 0} (o : Option A) (go : A → Step) → ((a : A) → Lined (go a)) → Lined (with_slot o go)
slot None go all = tt
slot (Some a) go all = all a

answer : (s : State) (operands : List ℤ) (r : Answer) → s.line ≤ last_line → Lined (push_answer s operands r)
answer s operands (Ok v) low = low
answer s operands (Err kind) low = low

kept : (s : State) (operands : List ℤ) (r : Result StoreOf FaultKind) → s.line ≤ last_line → Lined (keep_store s operands r)
kept s operands (Ok t) low = low
kept s operands (Err kind) low = low

ticked : (s : State) (line units : ℕ) → line ≤ last_line → Lined (tick s line units)
ticked s line zero low = low
ticked s line (suc units) low = low

gone_back : (s : State) (noted : List ℕ) → s.line ≤ last_line → Lined (back s noted)
gone_back s [] low = tt
gone_back s (place ∷ noted) low = low

either : (b : Bool) (x y : Step) → Lined x → Lined y → Lined (cond b x y)
either true x y a b = a
either false x y a b = b

module _ (world : World) (starts : List ℕ) where
  acts : (i : Instr) (s : State) → IsTrue (line_fits i) → s.line ≤ last_line → Lined (act starts world i s)
  acts (Tick line) s fits low = ticked s line s.units (leb-true line last_line (and_parts _ _ fits).1)
  acts (Push v) s fits low = low
  acts (Load x) s fits low = slot (slice_get s.store.variables x) _ (λ v. low)
  acts (Store x) s fits low = one s.operands _ (λ v below. slot (slice_get s.store.variables x) _ (λ o. low))
  acts (Cell a) s fits low = one s.operands _ (λ i below. slot (slice_get s.store.arrays a) _ (λ o. answer s below _ low))
  acts (SetCell a) s fits low = two s.operands _ (λ i v below. slot (slice_get s.store.arrays a) _ (λ o. kept s below _ low))
  acts (Timer t) s fits low = slot (slice_get s.store.timers t) _ (λ c. low)
  acts Neg s fits low = one s.operands _ (λ x below. answer s below _ low)
  acts Not s fits low = one s.operands _ (λ x below. answer s below (Ok (truth (not (holds x)))) low)
  acts Add s fits low = two s.operands _ (λ x y below. answer s below _ low)
  acts Sub s fits low = two s.operands _ (λ x y below. answer s below _ low)
  acts Mul s fits low = two s.operands _ (λ x y below. answer s below _ low)
  acts Div s fits low = two s.operands _ (λ x y below. answer s below _ low)
  acts Eq s fits low = two s.operands _ (λ x y below. answer s below (Ok (truth (equal x y))) low)
  acts Ne s fits low = two s.operands _ (λ x y below. answer s below (Ok (truth (not (equal x y)))) low)
  acts Lt s fits low = two s.operands _ (λ x y below. answer s below (Ok (truth (int_lt x y))) low)
  acts Le s fits low = two s.operands _ (λ x y below. answer s below (Ok (truth (int_le x y))) low)
  acts Gt s fits low = two s.operands _ (λ x y below. answer s below (Ok (truth (int_lt y x))) low)
  acts Ge s fits low = two s.operands _ (λ x y below. answer s below (Ok (truth (int_le y x))) low)
  acts And s fits low = two s.operands _ (λ x y below. answer s below (Ok (truth (holds x && holds y))) low)
  acts Or s fits low = two s.operands _ (λ x y below. answer s below (Ok (truth (holds x || holds y))) low)
  acts (Read kind) s fits low = arguments (reading_arity kind) s.operands _ (λ a b below. answer s below _ low)
  acts (Do kind) s fits low = arguments (command_arity kind) s.operands _ (λ a b below. kept s below _ low)
  acts (Start t) s fits low = slot (slice_get s.store.timers t) _ (λ c. low)
  acts (Stop t) s fits low = slot (slice_get s.store.timers t) _ (λ c. low)
  acts (Reset t) s fits low = slot (slice_get s.store.timers t) _ (λ c. low)
  acts (Jump place) s fits low = low
  acts (JumpZero place) s fits low = one s.operands _ (λ v below. either (holds v) (next s below) (at_place s below place) low low)
  acts (Call r) s fits low = slot (slice_get starts r) _ (λ place. low)
  acts Ret s fits low = gone_back s s.noted low

  steps : (o : Option Instr) (s : State) → IfSome o (λ i. IsTrue (line_fits i)) → s.line ≤ last_line → Lined (step_at starts world o s)
  steps None s fits low = tt
  steps (Some i) s fits low = acts i s fits low

  -- each instruction that is there has such a line
  there : (instrs : List Instr) (p : ℕ) → ((q : ℕ) → q < length instrs → IsTrue (line_fits (instr_at instrs q))) →
      IfSome (slice_get instrs p) (λ i. IsTrue (line_fits i))
  there [] p all = tt
  there (i ∷ instrs) zero all = all 0 (omega arith)
  there (i ∷ instrs) (suc p) all = there instrs p (λ q lt. all (suc q) (omega (arith, lt)))

  module _ (instrs : List Instr) (all : (q : ℕ) → q < length instrs → IsTrue (line_fits (instr_at instrs q))) where
    runs : (n : ℕ) (s : State) → s.line ≤ last_line → HasLine (exec instrs starts world n s)
    runs zero s low = tt
    runs (suc n) s low = go (step instrs starts world s) (steps (slice_get instrs s.place) s (there instrs s.place all) low) (λ t h. runs n t h)
      where
        go : (t : Step) → Lined t → ((s' : State) → s'.line ≤ last_line → HasLine (exec instrs starts world n s')) →
            HasLine (after t (exec instrs starts world n))
        go (Ends how) h rest = h
        go (Goes s') h rest = rest s' h

pub codes_have_lines : (code : CodeOf) → Valid code → HasLines (machine code)
codes_have_lines code valid world s =
    runs world code.starts code.instrs (valid Shape 0 (omega arith) refl).lines step_limit (first_state code.starts unit_limit s) (omega arith)
