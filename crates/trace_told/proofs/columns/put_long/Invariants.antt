use Rattle.std.proofs.Common.{◌≤◌, ◌-◌, length, take}
use Rattle.sig_io.specs.Draft.{Puts}
use Rattle.trace_told.proofs.columns.put_long.Given as goal

abbrev pub invariant-loop-at : goal.invariant-loop-at
invariant-loop-at g l = record {
  puts : Puts g.O.Sink.taken g.O.Sink.faults l.fn.draft l.draft l.fn.out l.out (take l.at l.bytes);
  within : l.at ≤ length l.bytes;
}

abbrev pub decreases-loop-at : goal.decreases-loop-at
decreases-loop-at g l = length l.bytes - l.at
