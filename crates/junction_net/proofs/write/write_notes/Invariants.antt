use Rattle.std.proofs.Common.{◌≡◌, ◌≤◌, take}
use Rattle.std.specs.List.{flat_map}
use Rattle.std.specs.Io.KnownBytes.{append_known}
use Rattle.junction_net.proofs.write.write_notes.Given as goal

abbrev pub invariant-loop-job : goal.invariant-loop-job
invariant-loop-job g l =
    (g.N.Sink.taken l.notes ≡ append_known (g.N.Sink.taken l.fn.notes) (flat_map (λ job. job.note.bytes.items) (take l.job-index l.jobs)))
    × (g.N.Sink.faults l.fn.notes ≤ g.N.Sink.faults l.notes)
