use Rattle.std.proofs.Common.{◌++◌}
use Rattle.junction_calls.specs.Given.{order_given, wish_given}
use Rattle.junction_calls.proofs.NamedStages.{silent_named}
use Rattle.junction_calls.proofs.Sums.{silent_adds, silent_wishes}
use Rattle.junction_calls.proofs.commands.put_silent.Goals as goal

pub returns-clause-named : goal.returns-clause-named
returns-clause-named c =
    silent_named c.args.plan.now c.args.given.now c.put_stages.result c.put_stages.ensures.named
    (silent_wishes c.args.plan.now c.args.given.now.groups c.requires.silent)

-- src/commands.rt:201:1
pub returns-clause-given : goal.returns-clause-given
returns-clause-given c = λ is.
    silent_adds (order_given c.args.given.now.from c.args.given.now.to ++ wish_given c.args.place c.args.given.now.stage)
    c.put_stages.new.commands c.args.given.now.groups c.requires.silent (c.put_stages.ensures.given is)
