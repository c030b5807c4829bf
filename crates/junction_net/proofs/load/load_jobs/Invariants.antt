use Rattle.std.proofs.Common.{map, take, Some}
use Rattle.sig_io.specs.Memory.{contents_of}
use Rattle.junction_net.specs.Jobs.{AreReady}
use Rattle.junction_net.specs.Rows.{words_in}
use Rattle.junction_net.proofs.Holding.{Holds}
use Rattle.junction_net.proofs.load.load_jobs.Given as goal

abbrev pub invariant-loop-names : goal.invariant-loop-names
invariant-loop-names g l =
    Holds (g.F.Files.told l.fn.files) (g.F.Files.told l.files) (g.F.Files.faults l.fn.files) (g.F.Files.faults l.files)
    (map words_in (take l.names-index l.rows))
    (map (λ job. Some (contents_of job.files.files.items)) l.jobs.items)
    × AreReady (map words_in (take l.names-index l.rows)) l.jobs.items
