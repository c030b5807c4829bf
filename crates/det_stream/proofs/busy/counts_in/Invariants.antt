use Rattle.std.proofs.Common.{◌≡◌, drop}
use Rattle.det_stream.specs.Busy.{counts_in_line}
use Rattle.det_stream.proofs.busy.counts_in.Given as goal

abbrev pub invariant-loop-busy : goal.invariant-loop-busy
invariant-loop-busy l = counts_in_line l.line l.lines ≡ counts_in_line l.line (drop l.busy-index l.lines)
