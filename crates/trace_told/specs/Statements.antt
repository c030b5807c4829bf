-- Which statements of a program are TRACE statements.
use Rattle.std.specs.Prelude.{Bool, false, true, List, [], ◌∷◌, ◌++◌}
use Rattle.std.specs.List.{flat_map}
use Rattle.vap_ast.specs.Syntax.{Item, Items, Stmt, Program, Routine}

abbrev mutual
  -- for a statement and each of its branches, in the order of the text, whether it is a TRACE
  pub stmt_traces : Stmt → List Bool
  stmt_traces (Stmt.If test first second) = false ∷ (items_traces first ++ items_traces second)
  stmt_traces (Stmt.Assign target value) = false ∷ []
  stmt_traces (Stmt.Cell array index value) = false ∷ []
  stmt_traces (Stmt.Goto label) = false ∷ []
  stmt_traces (Stmt.Gosub sub) = false ∷ []
  stmt_traces (Stmt.Do kind args) = false ∷ []
  stmt_traces (Stmt.Timer kind timer) = false ∷ []
  stmt_traces Stmt.Trace = true ∷ []

  -- for the statement of an item, if it is none of a label
  pub item_traces : Item → List Bool
  item_traces (Item.Label name line) = []
  item_traces (Item.Step line what) = stmt_traces what

  -- for those of items
  pub items_traces : Items → List Bool
  items_traces Items.none = []
  items_traces (Items.next item items) = item_traces item ++ items_traces items

-- for those of a routine
abbrev pub routine_traces : Routine → List Bool
routine_traces routine = items_traces routine.body

-- For each statement of a program, in the order of its text, which is that of its code, whether it is a TRACE.
abbrev pub program_traces : Program → List Bool
program_traces p = flat_map routine_traces p.subs ++ routine_traces p.main
