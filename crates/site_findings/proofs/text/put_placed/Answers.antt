use Rattle.site_findings.specs.Text.{placed_text}
use Rattle.site_findings.proofs.Putting.{both_ok}
use Rattle.site_findings.proofs.text.put_placed.Goals as goal

pub returns : goal.returns
unfolding placed_text
returns c =
    rw (
      ← c.file_name.ensures,
      ← c.column_of.ensures,
    )
    (both_ok c.put_told.result c.args.text.now c.put_place.new.text c.put_told.new.text _ _
    c.in_ok-put_place.ensures c.put_told.ensures)
