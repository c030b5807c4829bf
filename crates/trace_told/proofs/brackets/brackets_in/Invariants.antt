use Rattle.std.proofs.Common.{◌≡◌, ◌++◌, drop}
use Rattle.trace_told.specs.Brackets.{brackets_from, brackets_in}
use Rattle.trace_told.specs.Level.{IsLevel}
use Rattle.trace_told.proofs.brackets.brackets_in.Given as goal

abbrev pub invariant-loop-place : goal.invariant-loop-place
invariant-loop-place l = record {
  found : l.found.items ++ brackets_from l.place l.at (drop l.place l.tokens) ≡ brackets_in l.tokens;
  level : IsLevel l.place l.at;
}
