use Rattle.junction_run.proofs.Guards.{two_way}
use Rattle.junction_run.proofs.run.make_controller.Goals as goal

pub returns-clause-two_way : goal.returns-clause-two_way
returns-clause-two_way c = two_way c.args.site.times c.args.site.intergreens c.groups.ensures.pairs
