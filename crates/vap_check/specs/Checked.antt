-- What is known of a checked program.
use Rattle.std.specs.Prelude.{◌≡◌}
use Rattle.sig_types.specs.Limits.{last_line}
use Rattle.vap_ast.specs.Parsed.{Parsed}
use Rattle.vap_ast.specs.Tree.{program_of}
use Rattle.vap_check.specs.declared.checked.Checked.TheInside.{Inside}
use Rattle.vap_check.specs.Accepted.{Accepted}
use Rattle.vap_check.specs.KeptNames.{KnowsAll}
use Rattle.vap_check.specs.Numbers.{Meant, checked_of}
use Rattle.vap_check.specs.Usable.{Usable, Runs}

-- a program that is accepted and keeps what a tree from a text of at most 1,048,577 lines keeps, with the numbers of its
-- names, which can be used as they are, and with room for the operands of its expressions
pub record IsChecked (c : Meant) : Type 0 where
  pub value : c ≡ checked_of c.tree
  pub accepted : Accepted (program_of c.tree)
  pub parsed : Parsed last_line (program_of c.tree)
  pub usable : Usable (program_of c.tree)
  pub runs : Runs (program_of c.tree)

-- the value of a checked program
abbrev pub view_of : Inside → Meant
view_of c = checked_of c.program

-- what a checked program keeps of what it holds: the facts of its tree that `IsChecked` tells; and its names are those of
-- the program, each list in the order of its numbers
pub record Keeps (c : Inside) : Type 0 where
  pub accepted : Accepted (program_of c.program)
  pub parsed : Parsed last_line (program_of c.program)
  pub usable : Usable (program_of c.program)
  pub runs : Runs (program_of c.program)
  pub names : KnowsAll c.names (program_of c.program)
