-- A pass gives at most one command for each unit that it spends, and none but those of its world.
use Rattle.std.proofs.Common.{◌≡◌, ℕ, zero, suc, ◌+◌, ◌≤◌, List, [], ◌∷◌, length, Option, Some, None, Result, Ok, Err, IfOk, ℤ, All, refl, sym, ap, subst, arith, length-append}
use Rattle.std.proofs.lemmas.List.Elements.{All-append, All-cons, All-nil}
use Rattle.sig_types.specs.declared.kinds.CommandKind.{CommandKind}
use Rattle.sig_types.specs.declared.kinds.FaultKind.{FaultKind}
use Rattle.sig_types.specs.declared.numbers.Command.{Command}
use Rattle.sig_types.specs.Pass.{Store, World, at, cell_place, command, commands_after, given, set_cell, set_cell_at, unit_limit}
use Rattle.vap_ast.specs.Given.{HasCommand, ProgramsGiveFew, ProgramsGiveTheWorlds}
use Rattle.vap_ast.specs.Names.{Source, meaning_in}
use Rattle.vap_ast.specs.Mean.{Outcome, Done, Faulted, after_done, mean_within, or_fault, spend, step, sub_body}
use Rattle.vap_ast.specs.Passes.{ending}
use Rattle.vap_ast.specs.Syntax.{Items, Stmt}
use Rattle.vap_ast.specs.Value.{and_then, array_number, first_of, second_of, value, values}
use Rattle.vap_ast.proofs.Depth.{Next, at_step_all, or_fault_all}

or_fault_by : {A : Type 0} (F : A → Type 0) (P : Outcome → Type 0) (line : ℕ) (r : Result A FaultKind) (go : A → Outcome) →
    IfOk r F → ((kind : FaultKind) → P (Faulted kind line)) → ((v : A) → F v → P (go v)) → P (or_fault line r go)
or_fault_by F P line (Ok v) go is bad f = f v is
or_fault_by F P line (Err kind) go is bad f = bad kind

and_then_by : {A B : Type 0} (F : B → Type 0) (r : Result A FaultKind) (go : A → Result B FaultKind) → ((v : A) → IfOk (go v) F) → IfOk (and_then r go) F
and_then_by F (Ok v) go each = each v
and_then_by F (Err kind) go each = tt

-- a cell is set, and no command given
cell_set : (s : Store) (a : ℕ) (cells : List ℤ) (place : Option ℕ) (v : ℤ) → IfOk (set_cell_at s a cells place v) (λ (t : Store). t.commands ≡ s.commands)
cell_set s a cells None v = tt
cell_set s a cells (Some k) v = refl

module _ (source : Source) (world : World) where
  abbrev P : Command → Type 0
  P = HasCommand world

  -- no more commands and units than these, and each command is of the world
  abbrev Bounded : ℕ → Outcome → Type 0
  Bounded most (Done s left) = (length s.commands + left ≤ most) × All P s.commands
  Bounded most (Faulted kind line) = Unit {0}

  widen : (m n : ℕ) (o : Outcome) → m ≤ n → Bounded m o → Bounded n o
  widen m n (Done s left) le h = (omega (arith, le, h.0), h.1)
  widen m n (Faulted kind line) le h = tt

  -- one command more
  abbrev OneMore : Store → Store → Type 0
  OneMore s t = (length t.commands ≡ suc (length s.commands)) × All P t.commands

  one_given : (s : Store) (o : Option Command) → ((c : Command) → o ≡ Some c → P c) → All P s.commands → IfOk (given o s) (OneMore s)
  one_given s None is all = tt
  one_given s (Some c) is all =
      (omega (arith, length-append s.commands (c ∷ [])), All-append P s.commands (c ∷ []) all (All-cons P c [] (is c refl) (All-nil P)))

  command_given : (s : Store) (kind : CommandKind) (a b : ℤ) → All P s.commands → IfOk (command world kind a b s) (OneMore s)
  command_given s kind a b all = one_given s (world.command kind a b) (λ c is. (kind, (a, (b, is)))) all

  -- what holds of the next items
  abbrev NextIs : Next → Type 0
  NextIs next = (r t : Items) (s : Store) (l : ℕ) → All P s.commands → Bounded (length s.commands + l) (next r t s l)

  -- on with a store that has the same commands
  go_on : (next : Next) (u : ℕ) → NextIs next → (r t : Items) (s s' : Store) → s'.commands ≡ s.commands → All P s.commands → Bounded (length s.commands + suc u) (next r t s' u)
  go_on next u f r t s s' same all =
      widen (length s'.commands + u) (length s.commands + suc u) (next r t s' u) (omega (arith, ap length same)) (f r t s' u (subst (All P) (sym same) all))

  step_bounded : (next : Next) (u : ℕ) → NextIs next → (routine : Items) (line : ℕ) (what : Stmt) (rest : Items) (s : Store) → All P s.commands →
      Bounded (length s.commands + suc u) (step source world next routine line what rest s u)
  step_bounded next u f routine line (Stmt.Assign name e) rest s all =
      or_fault_all (Bounded (length s.commands + suc u)) line _ _ (λ k. tt) (λ v. go_on next u f _ _ s _ refl all)
  step_bounded next u f routine line (Stmt.Cell name i e) rest s all =
      or_fault_by Same (Bounded (length s.commands + suc u)) line (and_then (value source.names world s i) set_at) (λ t. next routine rest t u)
      (and_then_by {A = ℤ} {B = Store} Same (value source.names world s i) set_at (λ k. and_then_by {A = ℤ} {B = Store} Same (value source.names world s e) (λ v. set_cell s a k v)
      (λ v. cell_set s a (at s.arrays a []) (cell_place k (length (at s.arrays a []))) v)))
      (λ k. tt) (λ t same. go_on next u f routine rest s t same all)
    where
      Same : Store → Type 0
      Same t = t.commands ≡ s.commands

      a : ℕ
      a = array_number (meaning_in source.names name)

      set_at : ℤ → Result Store FaultKind
      set_at k = and_then (value source.names world s e) (λ v. set_cell s a k v)
  step_bounded next u f routine line (Stmt.If test first second) rest s all =
      or_fault_all (Bounded (length s.commands + suc u)) line _ _ (λ k. tt) (λ v. go_on next u f _ _ s _ refl all)
  step_bounded next u f routine line (Stmt.Goto label) rest s all = go_on next u f _ _ s s refl all
  step_bounded next u f routine line (Stmt.Gosub name) rest s all =
      let body = sub_body source.subs (meaning_in source.names name) in
      called (next body body s u) (f body body s u all)
    where
      unit : (s' : Store) (left : ℕ) → length s'.commands + left ≤ length s.commands + u → All P s'.commands →
          Bounded (length s.commands + suc u) (spend line left (λ left'. next routine rest s' left'))
      unit s' zero few all' = tt
      unit s' (suc left) few all' = widen (length s'.commands + left) (length s.commands + suc u) (next routine rest s' left) (omega (arith, few)) (f routine rest s' left all')

      called : (o : Outcome) → Bounded (length s.commands + u) o → Bounded (length s.commands + suc u) (after_done o (λ s' left. spend line left (λ left'. next routine rest s' left')))
      called (Done s' left) h = unit s' left h.0 h.1
      called (Faulted kind n) h = tt
  step_bounded next u f routine line (Stmt.Do kind args) rest s all =
      or_fault_by (OneMore s) (Bounded (length s.commands + suc u)) line
      (and_then (values source.names world s args) (λ vs. command world kind (first_of vs) (second_of vs) s)) (λ t. next routine rest t u)
      (and_then_by {A = List ℤ} {B = Store} (OneMore s) (values source.names world s args) (λ vs. command world kind (first_of vs) (second_of vs) s)
      (λ vs. command_given s kind (first_of vs) (second_of vs) all))
      (λ k. tt)
      (λ t more. widen (length t.commands + u) (length s.commands + suc u) (next routine rest t u) (omega (arith, more.0)) (f routine rest t u more.1))
  step_bounded next u f routine line (Stmt.Timer kind name) rest s all = go_on next u f _ _ s _ refl all
  step_bounded next u f routine line Stmt.Trace rest s all = go_on next u f _ _ s s refl all

  mean_bounded : (depth : ℕ) (routine todo : Items) (s : Store) (units : ℕ) → All P s.commands → Bounded (length s.commands + units) (mean_within source world depth routine todo s units)
  mean_bounded zero routine todo s units all = at_step_all (Bounded (length s.commands + units)) todo _ _ (omega arith, all) (λ n what rest. tt)
  mean_bounded (suc depth) routine todo s units all =
      at_step_all (Bounded (length s.commands + units)) todo _ _ (omega arith, all) (λ n what rest. spent n what rest units (λ r t s l a. mean_bounded depth r t s l a))
    where
      spent : (n : ℕ) (what : Stmt) (rest : Items) (u : ℕ) → NextIs (mean_within source world depth) →
          Bounded (length s.commands + u) (spend n u (λ left. step source world (mean_within source world depth) routine n what rest s left))
      spent n what rest zero f = tt
      spent n what rest (suc u) f = step_bounded (mean_within source world depth) u f routine n what rest s all

  -- so many commands and no others, at the end of a pass
  pass_bounded : (o : Outcome) → Bounded unit_limit o → (length (commands_after (ending o)) ≤ unit_limit) × All P (commands_after (ending o))
  pass_bounded (Done s left) h = (omega (arith, h.0), h.1)
  pass_bounded (Faulted kind line) h = (omega arith, All-nil P)

  pass_given : (s : Store) → s.commands ≡ [] →
      (length (commands_after (ending (mean_within source world unit_limit source.main source.main s unit_limit))) ≤ unit_limit)
      × All P (commands_after (ending (mean_within source world unit_limit source.main source.main s unit_limit)))
  pass_given s none =
      let all : All P s.commands = subst (All P) (sym none) (All-nil P) in
      let most : length s.commands + unit_limit ≡ unit_limit = omega (arith, ap length none) in
      pass_bounded _ (subst (λ n. Bounded n (mean_within source world unit_limit source.main source.main s unit_limit)) most
      (mean_bounded unit_limit source.main source.main s unit_limit all))

pub programs_give_few : ProgramsGiveFew
programs_give_few source world s none = (pass_given source world s none).0

pub programs_give_the_worlds : ProgramsGiveTheWorlds
programs_give_the_worlds source world s none = (pass_given source world s none).1
