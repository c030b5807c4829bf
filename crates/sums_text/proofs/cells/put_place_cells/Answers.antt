use Rattle.sig_io.proofs.Drafts.{then}
use Rattle.sums_text.proofs.cells.put_place_cells.Goals as goal

pub returns-in-Inter : goal.returns-in-Inter
returns-in-Inter g c =
    rw (c.in-Inter.is, ← c.from-in-Inter.ensures, ← c.from-in-Inter-2.ensures) (then c.put_pair-in-Inter.ensures c.put_pair-in-Inter-2.ensures)
