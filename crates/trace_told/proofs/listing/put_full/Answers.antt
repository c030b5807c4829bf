use Rattle.sig_io.proofs.Drafts.{same_put}
use Rattle.trace_told.proofs.Listed.{full_is}
use Rattle.trace_told.proofs.listing.put_full.Goals as goal

pub returns-then-count-eq1000000 : goal.returns-then-count-eq1000000
returns-then-count-eq1000000 g c = same_put (full_is c.args.count c.if-count-eq1000000.true) c.put.ensures
