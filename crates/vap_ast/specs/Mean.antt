-- What a program does.
use Rattle.std.specs.Prelude.{◌≡◌, ◌≤◌, ℕ, zero, suc, List, Option, Some, Result, Ok, Err, if◌then◌else◌}
use Rattle.sig_types.specs.declared.kinds.FaultKind.{FaultKind}
use Rattle.sig_types.specs.declared.kinds.FaultKind.TheVariants.{Budget}
use Rattle.sig_types.specs.Number.{holds}
use Rattle.sig_types.specs.Pass.{Store, World, at, set_variable, set_cell, set_timer, command}
use Rattle.vap_ast.specs.declared.name.Meaning.{Meaning}
use Rattle.vap_ast.specs.declared.name.Meaning.TheVariants.{Sub, Timer as Timer_of, Variable}
use Rattle.vap_ast.specs.Syntax.{Item, Items, Stmt, ◌before◌}
use Rattle.vap_ast.specs.Names.{Source, meaning_in}
use Rattle.vap_ast.specs.Value.{and_then, value, values, first_of, second_of, array_number}
use Rattle.vap_ast.specs.Rest.{rest_from}

-- how a pass ends: with a store and the units left, or by a fault at a line
pub data Outcome : Type 0 where
  Done : (store : Store) (units : ℕ) → Outcome
  Faulted : (kind : FaultKind) (line : ℕ) → Outcome

-- the first step of a list, past its labels; or what comes where there is none
abbrev pub at_step : Items → Outcome → (ℕ → Stmt → Items → Outcome) → Outcome
at_step Items.none done go = done
at_step (Items.next (Item.Label name line) rest) done go = at_step rest done go
at_step (Items.next (Item.Step line what) rest) done go = go line what rest

-- one unit is spent, or none is left
abbrev pub spend : ℕ → ℕ → (ℕ → Outcome) → Outcome
spend line zero go = Faulted Budget line
spend line (suc units) go = go units

-- goes on with a value, or with a fault at this line
abbrev pub or_fault : {A : Type 0} → ℕ → Result A FaultKind → (A → Outcome) → Outcome
or_fault line (Err kind) go = Faulted kind line
or_fault line (Ok v) go = go v

-- goes on where a routine is done
abbrev pub after_done : Outcome → (Store → ℕ → Outcome) → Outcome
after_done (Done s units) go = go s units
after_done (Faulted kind line) go = Faulted kind line

-- the number of a variable, which a checked program always has
abbrev pub variable_number : Option Meaning → ℕ
variable_number (Some (Variable x)) = x
variable_number _ = 0

-- the number of a timer, which a checked program always has
abbrev pub timer_number : Option Meaning → ℕ
timer_number (Some (Timer_of t)) = t
timer_number _ = 0

-- the body of a subroutine, which a checked program always has
abbrev pub sub_body : List Items → Option Meaning → Items
sub_body subs (Some (Sub k)) = at subs k Items.none
sub_body subs _ = Items.none

module _ (source : Source) (world : World) where
  -- one statement of a routine, and then the rest of its list: `next` goes on with items, and a jump looks for its label in
  -- the whole routine
  abbrev pub step :
      (Items → Items → Store → ℕ → Outcome) → Items → ℕ → Stmt → Items → Store → ℕ → Outcome
  step next routine line (Stmt.Assign name e) rest s units =
      or_fault line (value source.names world s e)
      (λ v. next routine rest (set_variable s (variable_number (meaning_in source.names name)) v) units)
  step next routine line (Stmt.Cell name index e) rest s units =
      or_fault line
      (and_then (value source.names world s index) (λ i.
      and_then (value source.names world s e) (λ v.
      set_cell s (array_number (meaning_in source.names name)) i v)))
      (λ s'. next routine rest s' units)
  step next routine line (Stmt.If test first second) rest s units =
      or_fault line (value source.names world s test)
      (λ v. next routine ((if holds v then first else second) before rest) s units)
  step next routine line (Stmt.Goto label) rest s units = next routine (rest_from label routine) s units
  step next routine line (Stmt.Gosub name) rest s units =
      let body = sub_body source.subs (meaning_in source.names name) in
      after_done (next body body s units) (λ s' left. spend line left (λ left'. next routine rest s' left'))
  step next routine line (Stmt.Do kind args) rest s units =
      or_fault line (and_then (values source.names world s args) (λ vs. command world kind (first_of vs) (second_of vs) s))
      (λ s'. next routine rest s' units)
  step next routine line (Stmt.Timer kind name) rest s units =
      next routine rest (set_timer s kind (timer_number (meaning_in source.names name))) units
  step next routine line Stmt.Trace rest s units = next routine rest s units

  -- the meaning of the items still to do, in a routine, with a store and units. Each step spends a unit, so as many
  -- steps deep as there are units is deep enough
  abbrev pub mean_within : ℕ → Items → Items → Store → ℕ → Outcome
  mean_within zero routine todo s units = at_step todo (Done s units) (λ line what rest. Faulted Budget line)
  mean_within (suc depth) routine todo s units =
      at_step todo (Done s units)
      (λ line what rest. spend line units (λ left. step (mean_within depth) routine line what rest s left))

  -- the meaning of the items still to do
  abbrev pub mean : Items → Items → Store → ℕ → Outcome
  mean todo routine s units = mean_within units routine todo s units

-- the meaning is the same at all depths that are at least the units
abbrev pub OneMeaning : Type 0
OneMeaning =
    (source : Source) (world : World) (depth : ℕ) (routine todo : Items) (s : Store) (units : ℕ) → units ≤ depth
    → mean_within source world depth routine todo s units ≡ mean source world todo routine s units
