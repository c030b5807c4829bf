use Rattle.log_sums.proofs.Never.{never_long_figures}
use Rattle.log_sums.proofs.long_figures.LongFigures.none.Goals as goal

pub returns-clause-never : goal.returns-clause-never
returns-clause-never c = λ f n never. never_long_figures f n never
