use Rattle.log_protocol.proofs.Shortest.{shortest_is_first}
use Rattle.log_protocol.proofs.laws.shortest_is_first.Goals as goal

pub returns : goal.returns
returns c = shortest_is_first
