-- Where the TRACE statements of a program stand in its code.
use Rattle.std.specs.Prelude.{◌≡◌, ℕ, ◌+◌, List, [], ◌∷◌, ◌++◌}
use Rattle.vap_ast.specs.declared.name.Entry.{Entry}
use Rattle.vap_ast.specs.Sizes.{expr_size, item_size, items_size}
use Rattle.vap_ast.specs.Sound.{source_of}
use Rattle.vap_ast.specs.Syntax.{Item, Items, Program, Stmt}
use Rattle.vap_compile.specs.Layout.{routines_code}
use Rattle.trace_watch.specs.declared.places.Mark.{Mark}
use Rattle.trace_watch.specs.Places.{statements_in}
use Rattle.trace_told.specs.Statements.{program_traces}
use Rattle.trace_told.specs.Traces.{taken_from}

abbrev mutual
  -- the TRACE statements of a statement of this line that is laid out at a place, and of its branches: each is its tick alone
  pub stmt_marks : (place line : ℕ) → Stmt → List Mark
  stmt_marks place line (Stmt.If test first second) =
      let at_first = place + expr_size test + 2 in
      items_marks at_first first ++ items_marks (at_first + items_size first + 1) second
  stmt_marks place line (Stmt.Assign target value) = []
  stmt_marks place line (Stmt.Cell array index value) = []
  stmt_marks place line (Stmt.Goto label) = []
  stmt_marks place line (Stmt.Gosub sub) = []
  stmt_marks place line (Stmt.Do kind args) = []
  stmt_marks place line (Stmt.Timer kind timer) = []
  stmt_marks place line Stmt.Trace = record { place = place; line = line } ∷ []

  -- those of an item
  pub item_marks : ℕ → Item → List Mark
  item_marks place (Item.Label name line) = []
  item_marks place (Item.Step line what) = stmt_marks place line what

  -- those of items that are laid out from a place on
  pub items_marks : ℕ → Items → List Mark
  items_marks place Items.none = []
  items_marks place (Items.next item items) = item_marks place item ++ items_marks (place + item_size item) items

-- those of routines that are laid out from a place on
abbrev pub routines_marks : ℕ → List Items → List Mark
routines_marks place [] = []
routines_marks place (body ∷ bodies) = items_marks place body ++ routines_marks (place + items_size body + 1) bodies

-- the bodies of a program's routines, in the order of its code
abbrev pub bodies_of : List Entry → Program → List Items
bodies_of names p = let source = source_of p names in source.subs ++ source.main ∷ []

-- The statements of a program's code that are counted as TRACE statements are those that stand where its TRACE statements are
-- laid out.
abbrev pub TracesStandThere : Type 0
TracesStandThere = (names : List Entry) (p : Program) →
    taken_from 0 (program_traces p) (statements_in (routines_code names 0 (bodies_of names p))) ≡ routines_marks 0 (bodies_of names p)
