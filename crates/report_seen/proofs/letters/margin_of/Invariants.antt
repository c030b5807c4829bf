use Rattle.std.proofs.Common.{◌≡◌, ◌≤◌, take}
use Rattle.report_seen.specs.Letters.{margin_of}
use Rattle.report_seen.proofs.letters.margin_of.Given as goal

abbrev pub invariant-loop-name : goal.invariant-loop-name
invariant-loop-name l = record {
  margin : l.margin ≡ margin_of (take l.name-index l.names);
  fits : l.margin ≤ 33;
}
