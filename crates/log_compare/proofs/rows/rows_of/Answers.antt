use Rattle.std.proofs.Common.{sym}
use Rattle.log_compare.proofs.Cuts.{nothing_fed}
use Rattle.log_compare.proofs.rows.rows_of.Goals as goal

pub returns : goal.returns
returns c = sym (rw (nothing_fed c.loop-rest.rest.now c.loop-rest-test.ensures) at c.loop-rest.invariant)
