use Rattle.sig_io.proofs.Drafts.{nothing}
use Rattle.sums_text.proofs.Last.{named_last, none_left}
use Rattle.sums_text.proofs.parts.put_parts_rows.Goals as goal

pub returns-in-Some : goal.returns-in-Some
returns-in-Some g c =
    rw (named_last c.args.parts.now c.in-Some.last.now c.in-Some.ensures.item.3.0 c.in-Some.ensures.item.1) c.put_each_rows.ensures

pub returns-in-None : goal.returns-in-None
returns-in-None g c = rw (none_left c.args.parts.now c.in-None.ensures.item.3) nothing
