use Rattle.log_sums.proofs.Over.{all_parts}
use Rattle.log_sums.proofs.parts.PartSums.finish.Goals as goal

pub returns : goal.returns
returns c = λ groups from each to serves records some is.
    all_parts groups from each to serves records c.args.self _ some is c.sums_are_of_records.ensures c.in_ok-put_over.ensures
