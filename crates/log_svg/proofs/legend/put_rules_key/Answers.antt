use Rattle.log_svg.specs.Diagram.{rules_key}
use Rattle.sig_io.proofs.Drafts.{then}
use Rattle.log_svg.proofs.legend.put_rules_key.Goals as goal

pub returns : goal.returns
unfolding rules_key
returns g c =
    then (then c.put_label.ensures c.put_turns_key.ensures) c.put_commands_key.ensures
