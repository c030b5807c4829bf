-- The commands of a pass are those that its sights give.
use Rattle.std.proofs.Common.{◌≡◌, ◌∙◌, ℕ, zero, suc, Bool, true, false, List, [], ◌∷◌, ◌++◌, Option, Some, None, Result, Ok, Err, IfOk, ℤ, refl, sym, ap, append_assoc, cond, map, not, ◌&&◌, ◌||◌}
use Rattle.std.specs.Prelude.{pos, slice_get, int_lt, int_le}
use Rattle.std.proofs.lemmas.List.{append-nil, map-append}
use Rattle.sig_types.specs.declared.kinds.FaultKind.{FaultKind}
use Rattle.sig_types.specs.declared.numbers.Command.{Command}
use Rattle.sig_types.specs.Arity.{reading_arity, command_arity}
use Rattle.sig_types.specs.Number.{Answer, equal, holds, truth}
use Rattle.sig_types.specs.Pass.{Store as StoreOf, World, given, set_cell_at, unit_limit, End, Done, Faulted, Stuck, Unfinished}
use Rattle.vap_code.specs.declared.Instr.{Instr}
use Rattle.vap_code.specs.declared.Instr.TheVariants.{Tick, Push, Load, Store, Cell, SetCell, Timer, Neg, Not, Add, Sub, Mul, Div, Eq, Ne, Lt, Le, Gt, Ge, And, Or, Read, Do, Start, Stop, Reset, Jump, JumpZero, Call, Ret}
use Rattle.vap_code.specs.Machine.{State, Step, Goes, Ends, act, after, at_place, back, exec, first_state, keep_store, machine, next, on_arguments, on_one, on_two, push_answer, step_at, step_limit, tick, with_slot}
use Rattle.vap_code.specs.Sights.{Sight, seen, sights_after, sights_of}
use Rattle.trace_told.specs.Ended.{Given, given_by, given_in, with_line, with_numbers}
use Rattle.trace_told.specs.EndLaws.{CommandsAreSeen, HasGiven, command_of}

-- a step leads to a state with these commands, or a pass that it ends has given them
abbrev Adds : List Command → Step → Type 0
Adds cs (Goes s) = s.store.commands ≡ cs
Adds cs (Ends how) = HasGiven how cs

module _ (cs : List Command) where
  one : (operands : List ℤ) (go : ℤ → List ℤ → Step) → ((x : ℤ) (below : List ℤ) → Adds cs (go x below)) → Adds cs (on_one operands go)
  one [] go all = tt
  one (x ∷ below) go all = all x below

  two : (operands : List ℤ) (go : ℤ → ℤ → List ℤ → Step) → ((x y : ℤ) (below : List ℤ) → Adds cs (go x y below)) → Adds cs (on_two operands go)
  two [] go all = tt
  two (y ∷ []) go all = tt
  two (y ∷ x ∷ below) go all = all x y below

  arguments : (n : ℕ) (operands : List ℤ) (go : ℤ → ℤ → List ℤ → Step) → ((x y : ℤ) (below : List ℤ) → Adds cs (go x y below)) →
      Adds cs (on_arguments n operands go)
  arguments zero operands go all = all (pos 0) (pos 0) operands
  arguments (suc zero) operands go all = one operands _ (λ x below. all x (pos 0) below)
  arguments (suc (suc n)) operands go all = two operands go all

  slot : {A : Type 0} (o : Option A) (go : A → Step) → ((a : A) → Adds cs (go a)) → Adds cs (with_slot o go)
  slot None go all = tt
  slot (Some a) go all = all a

  answer : (s : State) (operands : List ℤ) (r : Answer) → s.store.commands ≡ cs → Adds cs (push_answer s operands r)
  answer s operands (Ok v) all = all
  answer s operands (Err kind) all = tt

  kept : (s : State) (operands : List ℤ) (r : Result StoreOf FaultKind) → IfOk r (λ t. t.commands ≡ cs) → Adds cs (keep_store s operands r)
  kept s operands (Ok t) all = all
  kept s operands (Err kind) all = tt

  cell_set : (s : StoreOf) (a : ℕ) (cells : List ℤ) (place : Option ℕ) (v : ℤ) → s.commands ≡ cs → IfOk (set_cell_at s a cells place v) (λ t. t.commands ≡ cs)
  cell_set s a cells None v all = tt
  cell_set s a cells (Some k) v all = all

  ticked : (s : State) (line units : ℕ) → s.store.commands ≡ cs → Adds cs (tick s line units)
  ticked s line zero all = tt
  ticked s line (suc units) all = all

  gone_back : (s : State) (noted : List ℕ) → s.store.commands ≡ cs → Adds cs (back s noted)
  gone_back s [] all = all
  gone_back s (place ∷ noted) all = all

  either : (b : Bool) (x y : Step) → Adds cs x → Adds cs y → Adds cs (cond b x y)
  either true x y a b = a
  either false x y a b = b

-- the commands of these, behind others
abbrev behind : List Command → List Given → List Command
behind before gs = before ++ map command_of gs

module _ (s : State) (give : ℤ → ℤ → List Given) (go : ℤ → ℤ → List ℤ → Step) where
  -- what as many numbers give
  numbers : (n : ℕ) (operands : List ℤ) → ((x y : ℤ) (below : List ℤ) → Adds (behind s.store.commands (give x y)) (go x y below)) →
      Adds (behind s.store.commands (with_numbers n operands give)) (on_arguments n operands go)
  numbers zero operands all = all (pos 0) (pos 0) operands
  numbers (suc zero) [] all = tt
  numbers (suc zero) (x ∷ below) all = all x (pos 0) below
  numbers (suc (suc n)) [] all = tt
  numbers (suc (suc n)) (y ∷ []) all = tt
  numbers (suc (suc n)) (y ∷ x ∷ below) all = all x y below

-- one command is given
one_given : (s : State) (below : List ℤ) (line : ℕ) (o : Option Command) →
    Adds (behind s.store.commands (with_line line o)) (keep_store s below (given o s.store))
one_given s below line None = tt
one_given s below line (Some c) = refl

-- no command is given
none : (s : State) → s.store.commands ≡ s.store.commands ++ []
none s = sym (append-nil s.store.commands)

module _ (world : World) where
  acts : (starts : List ℕ) (i : Instr) (s : State) → Adds (behind s.store.commands (given_by world s.line s.operands i)) (act starts world i s)
  acts starts (Tick line) s = ticked _ s line s.units (none s)
  acts starts (Push v) s = none s
  acts starts (Load x) s = slot _ (slice_get s.store.variables x) _ (λ v. none s)
  acts starts (Store x) s = one _ s.operands _ (λ v below. slot _ (slice_get s.store.variables x) _ (λ o. none s))
  acts starts (Cell a) s = one _ s.operands _ (λ i below. slot _ (slice_get s.store.arrays a) _ (λ o. answer _ s below _ (none s)))
  acts starts (SetCell a) s = two _ s.operands _ (λ i v below. slot _ (slice_get s.store.arrays a) _ (λ o. kept _ s below _ (cell_set _ s.store a _ _ v (none s))))
  acts starts (Timer t) s = slot _ (slice_get s.store.timers t) _ (λ c. none s)
  acts starts Neg s = one _ s.operands _ (λ x below. answer _ s below _ (none s))
  acts starts Not s = one _ s.operands _ (λ x below. answer _ s below (Ok (truth (not (holds x)))) (none s))
  acts starts Add s = two _ s.operands _ (λ x y below. answer _ s below _ (none s))
  acts starts Sub s = two _ s.operands _ (λ x y below. answer _ s below _ (none s))
  acts starts Mul s = two _ s.operands _ (λ x y below. answer _ s below _ (none s))
  acts starts Div s = two _ s.operands _ (λ x y below. answer _ s below _ (none s))
  acts starts Eq s = two _ s.operands _ (λ x y below. answer _ s below (Ok (truth (equal x y))) (none s))
  acts starts Ne s = two _ s.operands _ (λ x y below. answer _ s below (Ok (truth (not (equal x y)))) (none s))
  acts starts Lt s = two _ s.operands _ (λ x y below. answer _ s below (Ok (truth (int_lt x y))) (none s))
  acts starts Le s = two _ s.operands _ (λ x y below. answer _ s below (Ok (truth (int_le x y))) (none s))
  acts starts Gt s = two _ s.operands _ (λ x y below. answer _ s below (Ok (truth (int_lt y x))) (none s))
  acts starts Ge s = two _ s.operands _ (λ x y below. answer _ s below (Ok (truth (int_le y x))) (none s))
  acts starts And s = two _ s.operands _ (λ x y below. answer _ s below (Ok (truth (holds x && holds y))) (none s))
  acts starts Or s = two _ s.operands _ (λ x y below. answer _ s below (Ok (truth (holds x || holds y))) (none s))
  acts starts (Read kind) s = arguments _ (reading_arity kind) s.operands _ (λ a b below. answer _ s below _ (none s))
  acts starts (Do kind) s =
      numbers s (λ a b. with_line s.line (world.command kind a b)) _ (command_arity kind) s.operands
      (λ a b below. one_given s below s.line (world.command kind a b))
  acts starts (Start t) s = slot _ (slice_get s.store.timers t) _ (λ c. none s)
  acts starts (Stop t) s = slot _ (slice_get s.store.timers t) _ (λ c. none s)
  acts starts (Reset t) s = slot _ (slice_get s.store.timers t) _ (λ c. none s)
  acts starts (Jump place) s = none s
  acts starts (JumpZero place) s = one _ s.operands _ (λ v below. either _ (holds v) (next s below) (at_place s below place) (none s) (none s))
  acts starts (Call r) s = slot _ (slice_get starts r) _ (λ place. none s)
  acts starts Ret s = gone_back _ s s.noted (none s)

  -- what a run gives behind a step
  abbrev Gives : List Command → End → List Sight → Type 0
  Gives before how sights = HasGiven how (behind before (given_in world sights))

  -- commands on commands
  joined : (before : List Command) (gs hs : List Given) → behind (behind before gs) hs ≡ behind before (gs ++ hs)
  joined before gs hs = append_assoc before (map command_of gs) (map command_of hs) ∙ ap (λ cs. before ++ cs) (sym (map-append command_of gs hs))

  given_so : (how : End) (cs ds : List Command) → cs ≡ ds → HasGiven how cs → HasGiven how ds
  given_so (Done s) cs ds same given = given ∙ same
  given_so (Faulted kind line) cs ds same given = tt
  given_so Stuck cs ds same given = tt
  given_so Unfinished cs ds same given = tt

  runs : (instrs : List Instr) (starts : List ℕ) (n : ℕ) (s : State) →
      Gives s.store.commands (exec instrs starts world n s) (sights_of instrs starts world n s)
  runs instrs starts zero s = tt
  runs instrs starts (suc n) s = at (λ t. runs instrs starts n t) (slice_get instrs s.place)
    where
      rest : ((t : State) → Gives t.store.commands (exec instrs starts world n t) (sights_of instrs starts world n t)) →
          (gs : List Given) (t : Step) → Adds (behind s.store.commands gs) t →
          HasGiven (after t (exec instrs starts world n))
          (behind s.store.commands (gs ++ given_in world (sights_after t (sights_of instrs starts world n))))
      rest go gs (Ends how) adds = given_so how _ _ (ap (behind s.store.commands) (sym (append-nil gs))) adds
      rest go gs (Goes s') adds =
          given_so (exec instrs starts world n s') _ _
          (ap (λ cs. behind cs (given_in world (sights_of instrs starts world n s'))) adds
          ∙ joined s.store.commands gs (given_in world (sights_of instrs starts world n s')))
          (go s')

      at : ((t : State) → Gives t.store.commands (exec instrs starts world n t) (sights_of instrs starts world n t)) →
          (o : Option Instr) → HasGiven (after (step_at starts world o s) (exec instrs starts world n))
          (behind s.store.commands (given_in world (seen o s ++ sights_after (step_at starts world o s) (sights_of instrs starts world n))))
      at go None = tt
      at go (Some i) = rest go (given_by world s.line s.operands i) (act starts world i s) (acts starts i s)

pub commands_are_seen : CommandsAreSeen
commands_are_seen code w s none =
    given_so w (machine code w s) _ _ (ap (λ cs. behind cs (given_in w (sights_of code.instrs code.starts w step_limit (first_state code.starts unit_limit s)))) none)
    (runs w code.instrs code.starts step_limit (first_state code.starts unit_limit s))
