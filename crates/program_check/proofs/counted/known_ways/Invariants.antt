use Rattle.std.proofs.Common.{◌≡◌, ◌++◌, drop}
use Rattle.std.specs.Prelude.{flat_map}
use Rattle.program_check.specs.Counted.{way_in}
use Rattle.program_check.proofs.counted.known_ways.Given as goal

abbrev pub invariant-loop-call : goal.invariant-loop-call
invariant-loop-call l = l.ways.items ++ flat_map way_in (drop l.call-index l.calls) ≡ flat_map way_in l.calls
