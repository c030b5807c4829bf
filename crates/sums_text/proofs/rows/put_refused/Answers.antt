use Rattle.sig_io.proofs.Drafts.{then}
use Rattle.sums_text.specs.Words.{refused_text}
use Rattle.sums_text.proofs.rows.put_refused.Goals as goal

pub returns : goal.returns
unfolding refused_text
returns g c =
    then (then (then (rw c.deref.ensures.value at c.put_commands.ensures)
    (rw c.deref-2.ensures.value at c.put_turns.ensures))
    (rw c.deref-3.ensures.value at c.put_turns-2.ensures))
    (rw c.deref-4.ensures.value at c.put_turns-3.ensures)
