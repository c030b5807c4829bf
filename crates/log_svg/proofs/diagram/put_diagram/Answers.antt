use Rattle.log_svg.specs.Diagram.{whole_text}
use Rattle.sig_io.proofs.Drafts.{then}
use Rattle.log_svg.proofs.diagram.put_diagram.Goals as goal

pub returns : goal.returns
unfolding whole_text
returns g c =
    let sheet = c.sheet_in-sheet.ensures.sheet in
    then (then (then (then (rw (sheet, c.as_bytes.ensures.value) at c.put_head.ensures) c.put_legend.ensures) (rw sheet at c.put_least_key.ensures))
    (rw sheet at c.put_strips.ensures)) c.put.ensures
