use Rattle.log_svg.specs.Diagram.{rule_key}
use Rattle.sig_io.proofs.Drafts.{then}
use Rattle.log_svg.proofs.legend.put_rule_key.Goals as goal

pub returns : goal.returns
unfolding rule_key
returns g c =
    then (then (then c.begin_label.ensures (rw c.rule_letter.ensures at c.put.ensures)) c.put-2.ensures) c.put_label.ensures
