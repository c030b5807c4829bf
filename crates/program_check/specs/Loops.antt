-- Jumps back that lead round for ever.
use Rattle.std.specs.Prelude.{ℕ, Bool, true, false, ◌||◌, if◌then◌else◌, List, [], ◌∷◌, ◌++◌, flat_map}
use Rattle.vap_ast.specs.Syntax.{Item, Items, Stmt}
use Rattle.vap_ast.specs.Tree.{program_of}
use Rattle.vap_check.specs.Names.{among, bodies, with_name}
use Rattle.vap_check.specs.Numbers.{Meant}
use Rattle.program_check.specs.declared.warnings.Meant.TheVariants.{Name}
use Rattle.program_check.specs.declared.warnings.ProgramWarning.TheVariants.{EndlessLoop}
use Rattle.program_check.specs.declared.warnings.Warned.{Warned}

abbrev mutual
  -- a statement jumps, or one in its branches does
  pub stmt_jumps : Stmt → Bool
  stmt_jumps (Stmt.Assign target value) = false
  stmt_jumps (Stmt.Cell array index value) = false
  stmt_jumps (Stmt.If test first second) = items_jump first || items_jump second
  stmt_jumps (Stmt.Goto label) = true
  stmt_jumps (Stmt.Gosub sub) = false
  stmt_jumps (Stmt.Do kind args) = false
  stmt_jumps (Stmt.Timer kind timer) = false
  stmt_jumps Stmt.Trace = false

  -- an item jumps
  pub item_jumps : Item → Bool
  item_jumps (Item.Label name line) = false
  item_jumps (Item.Step line what) = stmt_jumps what

  -- one of these items jumps
  pub items_jump : Items → Bool
  items_jump Items.none = false
  items_jump (Items.next item items) = item_jumps item || items_jump items

-- the labels behind an item, where these are those before it: none stay behind a jump
abbrev pub labels_after : List (List ℕ) → Item → List (List ℕ)
labels_after labels (Item.Label name line) = with_name labels name
labels_after labels (Item.Step line what) = if stmt_jumps what then [] else labels

-- the warning of a jump to one of these labels
abbrev pub jump_told : List (List ℕ) → ℕ → List ℕ → List Warned
jump_told labels line label =
    if among labels label then record { line = line; meant = Name; warning = EndlessLoop label } ∷ [] else []

abbrev mutual
  -- the jumps to one of these labels, and those in the branches
  pub stmt_loops : List (List ℕ) → ℕ → Stmt → List Warned
  stmt_loops labels line (Stmt.Assign target value) = []
  stmt_loops labels line (Stmt.Cell array index value) = []
  stmt_loops labels line (Stmt.If test first second) = items_loops [] first ++ items_loops [] second
  stmt_loops labels line (Stmt.Goto label) = jump_told labels line label
  stmt_loops labels line (Stmt.Gosub sub) = []
  stmt_loops labels line (Stmt.Do kind args) = []
  stmt_loops labels line (Stmt.Timer kind timer) = []
  stmt_loops labels line Stmt.Trace = []

  -- those of an item
  pub item_loops : List (List ℕ) → Item → List Warned
  item_loops labels (Item.Label name line) = []
  item_loops labels (Item.Step line what) = stmt_loops labels line what

  -- The jumps of these items that lead back to a label with nothing between that jumps, so that they are reached again and again;
  -- these labels stand right before the items, with nothing between that jumps.
  pub items_loops : List (List ℕ) → Items → List Warned
  items_loops labels Items.none = []
  items_loops labels (Items.next item items) = item_loops labels item ++ items_loops (labels_after labels item) items

-- the jumps of a program that lead round for ever, in the order of the text
abbrev pub endless_loops : Meant → List Warned
endless_loops m = flat_map (items_loops []) (bodies (program_of m.tree))
