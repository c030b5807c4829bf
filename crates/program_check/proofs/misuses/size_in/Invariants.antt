use Rattle.std.proofs.Common.{◌≡◌, drop, map}
use Rattle.vap_ast.specs.Tree.{array_of}
use Rattle.program_check.specs.Misuses.{size_in}
use Rattle.program_check.proofs.misuses.size_in.Given as goal

abbrev pub invariant-loop-decl : goal.invariant-loop-decl
invariant-loop-decl l = size_in (map array_of (drop l.decl-index l.arrays)) l.name ≡ size_in (map array_of l.arrays) l.name
