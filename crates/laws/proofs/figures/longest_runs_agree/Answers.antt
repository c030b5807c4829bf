use Rattle.laws.proofs.LongestRuns.{longest_runs_agree}
use Rattle.laws.proofs.figures.longest_runs_agree.Goals as goal

pub returns : goal.returns
returns c = longest_runs_agree
