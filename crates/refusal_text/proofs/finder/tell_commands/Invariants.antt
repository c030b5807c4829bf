use Rattle.std.proofs.Common.{◌≡◌, ◌++◌, map, take}
use Rattle.refusal_text.specs.Order.{AreUpTo}
use Rattle.refusal_text.specs.Refusals.{command_of}
use Rattle.refusal_text.proofs.finder.tell_commands.Given as goal

abbrev pub invariant-loop-i : goal.invariant-loop-i
invariant-loop-i l = record {
  told : l.found.items ≡ l.fn.found.items ++ map (command_of l.second l.place) (take l.i l.stages);
  order : AreUpTo l.second l.fn.found.items → AreUpTo l.second l.found.items;
}
