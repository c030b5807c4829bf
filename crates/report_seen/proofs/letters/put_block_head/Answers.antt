use Rattle.report_seen.specs.Letters.{block_head}
use Rattle.sig_io.proofs.Drafts.{then}
use Rattle.report_seen.proofs.letters.put_block_head.Goals as goal

pub returns : goal.returns
unfolding block_head
returns g c =
    then (then (then
    (then c.put.ensures c.put_numbers.ensures) c.put_ticks.ensures)
    (rw c.deref.ensures.value at c.put_band.ensures))
    (rw c.deref-2.ensures.value at c.put_refusals.ensures)
