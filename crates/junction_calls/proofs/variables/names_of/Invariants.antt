use Rattle.std.proofs.Common.{◌≡◌, take}
use Rattle.std.specs.List.{flat_map}
use Rattle.vap_ast.specs.Tree.{program_of}
use Rattle.junction_calls.specs.Variables.{names_in}
use Rattle.junction_calls.proofs.Names.{line}
use Rattle.junction_calls.proofs.variables.names_of.Given as goal

abbrev pub invariant-loop-number : goal.invariant-loop-number
invariant-loop-number l = l.text.items ≡ flat_map line (take l.number (names_in l.of (program_of l.checked.tree)))
