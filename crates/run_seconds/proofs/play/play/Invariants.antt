use Rattle.std.proofs.Common.{◌≡◌, ◌≤◌, ◌-◌, true}
use Rattle.sig_io.specs.Draft.{FailsOnly, Puts}
use Rattle.det_stream.specs.Answers.{is_live, name_of, second_of}
use Rattle.run_seconds.proofs.Underway.{Underway}
use Rattle.run_seconds.proofs.play.play.Given as goal

abbrev pub invariant-loop-lines : goal.invariant-loop-lines
invariant-loop-lines g l =
    Underway l.fn.controller l.controller (g.T.Teller.telling l.fn.teller) (g.T.Teller.telling l.teller) (g.T.Teller.knows l.fn.teller) (g.T.Teller.knows l.teller)
    l.lines (g.F.Files.told l.fn.files) (name_of l.fn.lines) (Puts g.O.Sink.taken g.O.Sink.faults l.fn.draft l.draft l.fn.out l.out)
    × (g.F.Files.told l.files ≡ g.F.Files.told l.fn.files)
    × (name_of l.lines ≡ name_of l.fn.lines)
    × (is_live l.lines ≡ true)
    × (second_of l.lines ≤ 604800)
    × (g.F.Files.faults l.fn.files ≤ g.F.Files.faults l.files)
    × FailsOnly (g.O.Sink.faults l.fn.out) (g.O.Sink.faults l.out) l.fn.draft.failed l.draft.failed

abbrev pub decreases-loop-lines : goal.decreases-loop-lines
decreases-loop-lines g l = 604801 - second_of l.lines
