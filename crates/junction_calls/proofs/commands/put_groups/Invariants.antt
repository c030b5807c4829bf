use Rattle.std.proofs.Common.{◌≡◌, ◌+◌, ◌*◌, ◌≤◌, ◌++◌, All, true, length}
use Rattle.controller.specs.Commanded.{IsCommand}
use Rattle.junction_calls.specs.Given.{are_wishes, groups_given, sum_below}
use Rattle.junction_calls.proofs.commands.put_groups.Given as goal

abbrev pub invariant-loop-place : goal.invariant-loop-place
invariant-loop-place l = record {
  wishes : l.are_wishes ≡ are_wishes l.plan l.groups l.place;
  given : l.are_wishes ≡ true → l.commands ≡ l.fn.commands ++ groups_given l.groups l.place;
  named : All (IsCommand l.plan) l.commands;
  few : length l.commands ≤ 2 + l.place;
  sum : l.sum ≡ sum_below l.groups l.place;
  small : l.sum ≤ 255 * l.place;
}
