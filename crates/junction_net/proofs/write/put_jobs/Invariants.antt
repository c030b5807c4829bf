use Rattle.std.proofs.Common.{◌≡◌, ◌≤◌, map, take}
use Rattle.std.specs.Io.KnownBytes.{append_known}
use Rattle.junction_net.specs.Jobs.{result_of}
use Rattle.junction_net.specs.Results.{text_from}
use Rattle.junction_net.proofs.write.put_jobs.Given as goal

abbrev pub invariant-loop-job : goal.invariant-loop-job
invariant-loop-job g l =
    (g.O.Sink.taken l.out ≡ append_known (g.O.Sink.taken l.fn.out) (text_from 1 (map result_of (take l.job-index l.jobs))))
    × (g.O.Sink.faults l.fn.out ≤ g.O.Sink.faults l.out) × (l.number ≡ l.job-index)
