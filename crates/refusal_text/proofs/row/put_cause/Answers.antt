use Rattle.sig_io.proofs.Drafts.{then}
use Rattle.refusal_text.proofs.row.put_cause.Goals as goal

pub returns-in-Uncleared : goal.returns-in-Uncleared
returns-in-Uncleared g c =
    rw c.in-Uncleared.is (then (rw c.from-in-Uncleared.ensures at c.put_numbers-in-Uncleared.ensures) c.put_name.ensures)
