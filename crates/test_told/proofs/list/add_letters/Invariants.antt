use Rattle.std.proofs.Common.{All}
use Rattle.controller.specs.Commanded.{IsCommand}
use Rattle.test_told.proofs.list.add_letters.Given as goal

abbrev pub invariant-loop-letter : goal.invariant-loop-letter
invariant-loop-letter l = All (IsCommand l.plan) l.commands.items
