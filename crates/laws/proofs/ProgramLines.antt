-- A pass of a program has its fault at a line of the program.
use Rattle.std.proofs.Common.{ℕ, zero, suc, ◌-◌, ◌≤◌, Bool, true, false, List, [], ◌∷◌, map, Option, Some, None, Result, Ok, Err, IfSome, All, arith, if◌then◌else◌}
use Rattle.std.specs.Option.{option_or}
use Rattle.std.specs.Prelude.{codes}
use Rattle.std.specs.Str.{bytes_eq}
use Rattle.sig_types.specs.declared.kinds.FaultKind.{FaultKind}
use Rattle.sig_types.specs.Limits.{last_line}
use Rattle.sig_types.specs.Number.{holds}
use Rattle.sig_types.specs.Pass.{Store, World, at, unit_limit}
use Rattle.vap_ast.specs.declared.name.Entry.{Entry}
use Rattle.vap_ast.specs.declared.name.Meaning.{Meaning}
use Rattle.vap_ast.specs.declared.name.Meaning.TheVariants.{Sub}
use Rattle.vap_ast.specs.Mean.{Outcome, Done, Faulted, after_done, at_step, mean_within, or_fault, spend, step, sub_body}
use Rattle.vap_ast.specs.Names.{Source, meaning_in}
use Rattle.vap_ast.specs.Parsed.{Parsed, ParsedItem, ParsedItems, ParsedRoutine, ParsedStmt}
use Rattle.vap_ast.specs.Passes.{ending, program_logic}
use Rattle.vap_ast.specs.Rest.{in_item, in_items, in_stmt, or_none, rest_from}
use Rattle.vap_ast.specs.Sound.{source_of}
use Rattle.vap_ast.specs.Syntax.{Item, Items, Program, Routine, Stmt, ◌before◌}
use Rattle.laws.proofs.FaultLines.{HasLine, HasLines}

-- ---- lines of items

abbrev mutual
  -- each line of this statement's branches is one that a program can have
  LinedStmt : Stmt → Type 0
  LinedStmt (Stmt.Assign target value) = Unit {0}
  LinedStmt (Stmt.Cell array index value) = Unit {0}
  LinedStmt (Stmt.If test first second) = LinedItems first × LinedItems second
  LinedStmt (Stmt.Goto label) = Unit {0}
  LinedStmt (Stmt.Gosub sub) = Unit {0}
  LinedStmt (Stmt.Do kind args) = Unit {0}
  LinedStmt (Stmt.Timer kind timer) = Unit {0}
  LinedStmt Stmt.Trace = Unit {0}

  -- the line of a statement, and those of its branches
  LinedItem : Item → Type 0
  LinedItem (Item.Label name line) = Unit {0}
  LinedItem (Item.Step line what) = (line ≤ last_line) × LinedStmt what

  -- each line of these items
  LinedItems : Items → Type 0
  LinedItems Items.none = Unit {0}
  LinedItems (Items.next item items) = LinedItem item × LinedItems items

mutual
  lined_stmt : (ifs : ℕ) (what : Stmt) → ParsedStmt last_line ifs what → LinedStmt what
  lined_stmt ifs (Stmt.Assign target value) is = tt
  lined_stmt ifs (Stmt.Cell array index value) is = tt
  lined_stmt ifs (Stmt.If test first second) is = (lined_items (ifs - 1) first is.2, lined_items (ifs - 1) second is.3)
  lined_stmt ifs (Stmt.Goto label) is = tt
  lined_stmt ifs (Stmt.Gosub sub) is = tt
  lined_stmt ifs (Stmt.Do kind args) is = tt
  lined_stmt ifs (Stmt.Timer kind timer) is = tt
  lined_stmt ifs Stmt.Trace is = tt

  lined_item : (ifs : ℕ) (item : Item) → ParsedItem last_line ifs item → LinedItem item
  lined_item ifs (Item.Label name line) is = tt
  lined_item ifs (Item.Step line what) is = (is.0.1, lined_stmt ifs what is.1)

  lined_items : (ifs : ℕ) (items : Items) → ParsedItems last_line ifs items → LinedItems items
  lined_items ifs Items.none is = tt
  lined_items ifs (Items.next item items) is = (lined_item ifs item is.0, lined_items ifs items is.1)

before_lined : (a b : Items) → LinedItems a → LinedItems b → LinedItems (a before b)
before_lined Items.none b first second = second
before_lined (Items.next item items) b first second = (first.0, before_lined items b first.1 second)

either_lined : (first second : Option Items) → IfSome first LinedItems → IfSome second LinedItems → IfSome (option_or first second) LinedItems
either_lined None second a b = b
either_lined (Some items) second a b = a

mutual
  in_stmt_lined : (label : List ℕ) (what : Stmt) (after : Items) → LinedStmt what → LinedItems after → IfSome (in_stmt label what after) LinedItems
  in_stmt_lined label (Stmt.Assign target value) after is rest = tt
  in_stmt_lined label (Stmt.Cell array index value) after is rest = tt
  in_stmt_lined label (Stmt.If test first second) after is rest =
      either_lined (in_items label first after) (in_items label second after)
      (in_items_lined label first after is.0 rest) (in_items_lined label second after is.1 rest)
  in_stmt_lined label (Stmt.Goto to) after is rest = tt
  in_stmt_lined label (Stmt.Gosub sub) after is rest = tt
  in_stmt_lined label (Stmt.Do kind args) after is rest = tt
  in_stmt_lined label (Stmt.Timer kind timer) after is rest = tt
  in_stmt_lined label Stmt.Trace after is rest = tt

  in_item_lined : (label : List ℕ) (item : Item) (after : Items) → LinedItem item → LinedItems after → IfSome (in_item label item after) LinedItems
  in_item_lined label (Item.Label name line) after is rest = found (bytes_eq name label)
    where
      found : (b : Bool) → IfSome (if b then Some after else None) LinedItems
      found true = rest
      found false = tt
  in_item_lined label (Item.Step line what) after is rest = in_stmt_lined label what after is.1 rest

  in_items_lined : (label : List ℕ) (items after : Items) → LinedItems items → LinedItems after → IfSome (in_items label items after) LinedItems
  in_items_lined label Items.none after is rest = tt
  in_items_lined label (Items.next item items) after is rest =
      either_lined (in_item label item (items before after)) (in_items label items after)
      (in_item_lined label item (items before after) is.0 (before_lined items after is.1 rest))
      (in_items_lined label items after is.1 rest)

or_none_lined : (o : Option Items) → IfSome o LinedItems → LinedItems (or_none o)
or_none_lined None is = tt
or_none_lined (Some items) is = is

rest_lined : (label : List ℕ) (items : Items) → LinedItems items → LinedItems (rest_from label items)
rest_lined label items is = go (bytes_eq label (codes "prog_ende"))
  where
    go : (b : Bool) → LinedItems (if b then Items.none else or_none (in_items label items Items.none))
    go true = tt
    go false = or_none_lined (in_items label items Items.none) (in_items_lined label items Items.none is tt)

-- ---- the fault of a pass

-- a fault at a line that a program can have
abbrev Lined : Outcome → Type 0
Lined (Done s units) = Unit {0}
Lined (Faulted kind line) = line ≤ last_line

-- one meaning of the items, for units up to a number
abbrev Next : Type 0
Next = Items → Items → Store → ℕ → Outcome

-- what holds of the next items
abbrev NextIs : Next → Type 0
NextIs next = (routine todo : Items) (s : Store) (units : ℕ) → LinedItems routine → LinedItems todo → Lined (next routine todo s units)

or_fault_lined : {A : Type 0} (line : ℕ) (r : Result A FaultKind) (go : A → Outcome) → line ≤ last_line → ((v : A) → Lined (go v)) →
    Lined (or_fault line r go)
or_fault_lined line (Ok v) go low each = each v
or_fault_lined line (Err kind) go low each = low

spend_lined : (line units : ℕ) (go : ℕ → Outcome) → line ≤ last_line → ((left : ℕ) → Lined (go left)) → Lined (spend line units go)
spend_lined line zero go low each = low
spend_lined line (suc units) go low each = each units

after_lined : (o : Outcome) (go : Store → ℕ → Outcome) → Lined o → ((s : Store) (left : ℕ) → Lined (go s left)) → Lined (after_done o go)
after_lined (Done s left) go is each = each s left
after_lined (Faulted kind line) go is each = is

branch_lined : (b : Bool) (first second : Items) → LinedItems first × LinedItems second → LinedItems (if b then first else second)
branch_lined true first second is = is.0
branch_lined false first second is = is.1

-- the first step's line, and what comes then
at_step_lined : (todo : Items) (done : Outcome) (go : ℕ → Stmt → Items → Outcome) → LinedItems todo → Lined done →
    ((line : ℕ) (what : Stmt) (rest : Items) → line ≤ last_line → LinedStmt what → LinedItems rest → Lined (go line what rest)) →
    Lined (at_step todo done go)
at_step_lined Items.none done go is ends each = ends
at_step_lined (Items.next (Item.Label name line) rest) done go is ends each = at_step_lined rest done go is.1 ends each
at_step_lined (Items.next (Item.Step line what) rest) done go is ends each = each line what rest is.0.0 is.0.1 is.1

module _ (source : Source) (world : World) (subs : (k : ℕ) → LinedItems (at source.subs k Items.none)) where
  body_lined : (o : Option Meaning) → LinedItems (sub_body source.subs o)
  body_lined (Some (Sub k)) = subs k
  body_lined _ = tt

  step_lined : (next : Next) → NextIs next → (routine : Items) (line : ℕ) (what : Stmt) (rest : Items) (s : Store) (units : ℕ) →
      LinedItems routine → line ≤ last_line → LinedStmt what → LinedItems rest → Lined (step source world next routine line what rest s units)
  step_lined next is routine line (Stmt.Assign name e) rest s units whole low branches after =
      or_fault_lined line _ _ low (λ v. is routine rest _ units whole after)
  step_lined next is routine line (Stmt.Cell name i e) rest s units whole low branches after =
      or_fault_lined line _ _ low (λ t. is routine rest t units whole after)
  step_lined next is routine line (Stmt.If test first second) rest s units whole low branches after =
      or_fault_lined line _ _ low
      (λ v. is routine _ s units whole (before_lined _ rest (branch_lined (holds v) first second branches) after))
  step_lined next is routine line (Stmt.Goto label) rest s units whole low branches after =
      is routine (rest_from label routine) s units whole (rest_lined label routine whole)
  step_lined next is routine line (Stmt.Gosub name) rest s units whole low branches after =
      let body = sub_body source.subs (meaning_in source.names name) in
      let lined = body_lined (meaning_in source.names name) in
      after_lined (next body body s units) _ (is body body s units lined lined)
      (λ s' left. spend_lined line left _ low (λ left'. is routine rest s' left' whole after))
  step_lined next is routine line (Stmt.Do kind args) rest s units whole low branches after =
      or_fault_lined line _ _ low (λ t. is routine rest t units whole after)
  step_lined next is routine line (Stmt.Timer kind name) rest s units whole low branches after = is routine rest _ units whole after
  step_lined next is routine line Stmt.Trace rest s units whole low branches after = is routine rest s units whole after

  mean_lined : (depth : ℕ) (routine todo : Items) (s : Store) (units : ℕ) → LinedItems routine → LinedItems todo →
      Lined (mean_within source world depth routine todo s units)
  mean_lined zero routine todo s units whole rest = at_step_lined todo _ _ rest tt (λ line what more low branches after. low)
  mean_lined (suc depth) routine todo s units whole rest =
      at_step_lined todo _ _ rest tt
      (λ line what more low branches after. spend_lined line units _ low
      (λ left. step_lined (mean_within source world depth) (λ r t s' l a b. mean_lined depth r t s' l a b)
      routine line what more s left whole low branches after))

ending_lined : (o : Outcome) → Lined o → HasLine (ending o)
ending_lined (Done s units) is = tt
ending_lined (Faulted kind line) is = is

bodies_lined : (rs : List Routine) → All (λ r. ParsedRoutine last_line r) rs → (k : ℕ) → LinedItems (at (map (λ r. r.body) rs) k Items.none)
bodies_lined [] all k = tt
bodies_lined (r ∷ rs) all zero = lined_items 100 r.body (all 0 r (omega arith)).body
bodies_lined (r ∷ rs) all (suc k) = bodies_lined rs (λ n d lt. all (suc n) d (omega (arith, lt))) k

pub programs_have_lines : (p : Program) (names : List Entry) → Parsed last_line p → HasLines (program_logic (source_of p names))
programs_have_lines p names parsed world s =
    let main = lined_items 100 p.main.body parsed.main.body in
    ending_lined _ (mean_lined (source_of p names) world (bodies_lined p.subs parsed.subs) unit_limit p.main.body p.main.body s unit_limit main main)
