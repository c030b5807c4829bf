use Rattle.laws.proofs.CleanInterstages.{clean_ends}
use Rattle.laws.proofs.interstages.clean_interstages_end_in_their_stage.Goals as goal

pub returns : goal.returns
returns c = clean_ends
