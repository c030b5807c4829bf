use Rattle.log_svg.specs.Diagram.{turns_key}
use Rattle.sig_io.proofs.Drafts.{then}
use Rattle.log_svg.proofs.legend.put_turns_key.Goals as goal

pub returns : goal.returns
unfolding turns_key
returns g c =
    then (then (then (then c.put_rule_key.ensures c.put_rule_key-2.ensures) c.put_rule_key-3.ensures) c.put_rule_key-4.ensures)
    c.put_rule_key-5.ensures
