use Rattle.sig_io.proofs.Drafts.{same_put, then}
use Rattle.trace_told.specs.Listing.{listing_text}
use Rattle.trace_told.proofs.listing.put_listing.Goals as goal

pub returns : goal.returns
unfolding listing_text
returns g c =
    then c.put.ensures (then c.put_number.ensures (then c.put_events.ensures (then c.put_full.ensures (then c.put_fault.ensures
    (then c.put_changes.ensures (then c.put-2.ensures c.put_second.ensures))))))
