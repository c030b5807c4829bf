use Rattle.laws.proofs.LinesCounted.{counts_tell_lines}
use Rattle.laws.proofs.lines.counts_tell_lines.Goals as goal

pub returns : goal.returns
returns c = counts_tell_lines
