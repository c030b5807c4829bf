use Rattle.std.proofs.Common.{◌≡◌, ◌≤◌, take}
use Rattle.log_svg.specs.Layout.{longest_of}
use Rattle.log_svg.proofs.layout.longest_of.Given as goal

abbrev pub invariant-loop-name : goal.invariant-loop-name
invariant-loop-name l = record {
  longest : l.longest ≡ longest_of (take l.name-index l.names);
  fits : l.longest ≤ 32;
}
