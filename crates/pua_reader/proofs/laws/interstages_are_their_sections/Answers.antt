use Rattle.pua_reader.proofs.InterstagesSaid.{interstages_are_their_sections}
use Rattle.pua_reader.proofs.laws.interstages_are_their_sections.Goals as goal

pub returns : goal.returns
returns c = interstages_are_their_sections
