use Rattle.log_protocol.specs.Texts.{shortest_text}
use Rattle.log_protocol.proofs.text.put_shortest.Goals as goal

pub returns : goal.returns
unfolding shortest_text
returns g c = c.put_until.ensures
