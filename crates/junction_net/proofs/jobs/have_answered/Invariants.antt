use Rattle.std.proofs.Common.{take}
use Rattle.std.specs.Prelude.{All}
use Rattle.junction_net.specs.Jobs.{HasAnswered}
use Rattle.junction_net.proofs.jobs.have_answered.Given as goal

abbrev pub invariant-loop-job : goal.invariant-loop-job
invariant-loop-job l = All HasAnswered (take l.job-index l.jobs)
