-- Commands for interstages that are given in another stage than the one from which they lead.
use Rattle.std.specs.Prelude.{ℕ, ℤ, Bool, true, false, ◌||◌, if◌then◌else◌, List, [], ◌∷◌, ◌++◌, Option, Some, None, flat_map}
use Rattle.std.specs.Ordering.{int_eq}
use Rattle.sig_types.specs.declared.kinds.CommandKind.{CommandKind}
use Rattle.sig_types.specs.declared.kinds.CommandKind.TheVariants as command
use Rattle.sig_types.specs.declared.kinds.ReadingKind.TheVariants as reading
use Rattle.vap_ast.specs.declared.name.Entry.{Entry}
use Rattle.vap_ast.specs.Syntax.{Expr, Exprs, Item, Items, Stmt}
use Rattle.vap_ast.specs.Tree.{program_of}
use Rattle.vap_check.specs.Names.{bodies}
use Rattle.vap_check.specs.Numbers.{Meant}
use Rattle.program_check.specs.declared.calls.CallKind.TheVariants.{Command}
use Rattle.program_check.specs.declared.warnings.Meant.TheVariants.{First}
use Rattle.program_check.specs.declared.warnings.ProgramWarning.TheVariants.{WrongStage}
use Rattle.program_check.specs.declared.warnings.Warned.{Warned}
use Rattle.program_check.specs.Calls.{first_known}
use Rattle.program_check.specs.Conditions.{is_and}
use Rattle.program_check.specs.Counted.{is_kind_of_command, is_kind_of_reading}

-- the one, or else the other
abbrev pub or_else : Option ℤ → Option ℤ → Option ℤ
or_else (Some stage) other = Some stage
or_else None other = other

abbrev mutual
  -- a label stands in one of a statement's branches
  pub stmt_labelled : Stmt → Bool
  stmt_labelled (Stmt.Assign target value) = false
  stmt_labelled (Stmt.Cell array index value) = false
  stmt_labelled (Stmt.If test first second) = items_labelled first || items_labelled second
  stmt_labelled (Stmt.Goto label) = false
  stmt_labelled (Stmt.Gosub sub) = false
  stmt_labelled (Stmt.Do kind args) = false
  stmt_labelled (Stmt.Timer kind timer) = false
  stmt_labelled Stmt.Trace = false

  -- an item is a label, or has one in it
  pub item_labelled : Item → Bool
  item_labelled (Item.Label name line) = true
  item_labelled (Item.Step line what) = stmt_labelled what

  -- one of these items is a label, or has one in it
  pub items_labelled : Items → Bool
  items_labelled Items.none = false
  items_labelled (Items.next item items) = item_labelled item || items_labelled items

-- the stage that is known to be active in a branch: none where a label stands in it, since a jump may come there from elsewhere
abbrev pub known_in : Option ℤ → Items → Option ℤ
known_in active items = if items_labelled items then None else active

-- a command in a statement of this line that leads from the second of these stages, where it is given in the first one
abbrev pub led_from : ℕ → Option ℤ → Option ℤ → List Warned
led_from line (Some active) (Some from) =
    if int_eq active from then []
    else record { line = line; meant = First (Command command.Interstage) from; warning = WrongStage from active } ∷ []
led_from line (Some active) None = []
led_from line None from = []

-- where names have these meanings
module _ (names : List Entry) where
  -- the known stage that is active where a condition holds: the first one that it asks for, itself or of several under AND
  abbrev pub stage_in : Expr → Option ℤ
  stage_in (Expr.Literal value) = None
  stage_in (Expr.Name name) = None
  stage_in (Expr.Cell array index) = None
  stage_in (Expr.Unary op arg) = None
  stage_in (Expr.Binary op left right) = if is_and op then or_else (stage_in left) (stage_in right) else None
  stage_in (Expr.Read kind args) = if is_kind_of_reading kind reading.StageActive then first_known names args else None

  -- a command that is given in this stage and leads from another one
  abbrev pub command_told : ℕ → Option ℤ → CommandKind → Exprs → List Warned
  command_told line active kind args =
      if is_kind_of_command kind command.Interstage then led_from line active (first_known names args) else []

  abbrev mutual
    -- the commands in a statement of this line that lead from another stage than the one that the conditions around them ask for,
    -- of which this is the one around the statement, and behind no label within these conditions
    pub stmt_led : Option ℤ → ℕ → Stmt → List Warned
    stmt_led active line (Stmt.Assign target value) = []
    stmt_led active line (Stmt.Cell array index value) = []
    stmt_led active line (Stmt.If test first second) =
        items_led (known_in (or_else (stage_in test) active) first) first ++ items_led (known_in active second) second
    stmt_led active line (Stmt.Goto label) = []
    stmt_led active line (Stmt.Gosub sub) = []
    stmt_led active line (Stmt.Do kind args) = command_told line active kind args
    stmt_led active line (Stmt.Timer kind timer) = []
    stmt_led active line Stmt.Trace = []

    -- those in an item
    pub item_led : Option ℤ → Item → List Warned
    item_led active (Item.Label name line) = []
    item_led active (Item.Step line what) = stmt_led active line what

    -- those in a body, in the order of the text
    pub items_led : Option ℤ → Items → List Warned
    items_led active Items.none = []
    items_led active (Items.next item items) = item_led active item ++ items_led active items

-- the commands for interstages that lead from another stage than the one in which they are given
abbrev pub wrong_stages : Meant → List Warned
wrong_stages m = flat_map (items_led m.names None) (bodies (program_of m.tree))
