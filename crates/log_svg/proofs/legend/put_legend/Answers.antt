use Rattle.log_svg.specs.Diagram.{legend_text}
use Rattle.sig_io.proofs.Drafts.{then}
use Rattle.log_svg.proofs.legend.put_legend.Goals as goal

pub returns : goal.returns
unfolding legend_text
returns g c =
    then (then (then (then (then c.put_aspects_key.ensures c.put_key.ensures)
    c.put_fault_key.ensures) c.put_fronts_key.ensures) c.put_cover_key.ensures) c.put_rules_key.ensures
