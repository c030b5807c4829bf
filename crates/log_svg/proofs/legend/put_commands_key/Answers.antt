use Rattle.log_svg.specs.Diagram.{commands_key}
use Rattle.sig_io.proofs.Drafts.{then}
use Rattle.log_svg.proofs.legend.put_commands_key.Goals as goal

pub returns : goal.returns
unfolding commands_key
returns g c =
    then (then c.put_rule_key.ensures c.put_rule_key-2.ensures) c.put_rule_key-3.ensures
