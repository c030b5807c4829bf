use Rattle.std.proofs.Common.{All}
use Rattle.controller.specs.Commanded.{IsCommand}
use Rattle.test_told.proofs.list.add_line.Given as goal

abbrev pub invariant-loop-word : goal.invariant-loop-word
invariant-loop-word l = All (IsCommand l.plan) l.commands.items
