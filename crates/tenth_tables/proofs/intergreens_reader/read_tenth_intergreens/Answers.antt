use Rattle.tenth_tables.specs.Intergreens.{intergreen_of}
use Rattle.tenth_tables.proofs.intergreens_reader.read_tenth_intergreens.Goals as goal

pub returns-clause-tenths : goal.returns-clause-tenths
unfolding intergreen_of
returns-clause-tenths c = λ i g. rw c.of.ensures (c.in_ok-cells.ensures.cells.seconds i g)
