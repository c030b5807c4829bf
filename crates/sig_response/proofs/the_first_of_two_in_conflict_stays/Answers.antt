use Rattle.sig_response.proofs.First.{first_stays}
use Rattle.sig_response.proofs.the_first_of_two_in_conflict_stays.Goals as goal

pub returns : goal.returns
returns c = first_stays
