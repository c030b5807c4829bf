use Rattle.log_sums.proofs.Never.{never_figures}
use Rattle.log_sums.proofs.figures.Figures.none.Goals as goal

pub returns-clause-never : goal.returns-clause-never
returns-clause-never c = λ f n never. never_figures f n never
