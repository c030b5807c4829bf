use Rattle.log_svg.specs.Groups.{marked_group}
use Rattle.sig_io.proofs.Drafts.{then}
use Rattle.log_svg.proofs.groups.put_marked.Goals as goal

pub returns : goal.returns
unfolding marked_group
returns g c = then c.put_group.ensures c.put_marks.ensures
