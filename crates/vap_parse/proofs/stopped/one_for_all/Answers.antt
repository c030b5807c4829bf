use Rattle.vap_parse.proofs.Swaps.{swapped_begins}
use Rattle.vap_parse.proofs.stopped.one_for_all.Goals as goal

pub returns : goal.returns
returns c = swapped_begins
