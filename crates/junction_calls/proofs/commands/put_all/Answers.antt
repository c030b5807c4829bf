use Rattle.junction_calls.proofs.NamedStages.{all_named, none_named}
use Rattle.junction_calls.proofs.commands.put_all.Goals as goal

-- src/commands.rt:218:1
pub returns-then-put_stages-clause-named : goal.returns-then-put_stages-clause-named
returns-then-put_stages-clause-named c =
    all_named c.args.plan.now c.args.given.now c.put_stages.result c.put_groups.result c.put_stages.ensures.named c.if-put_stages.true
    c.put_groups.ensures.named

-- src/commands.rt:218:1
pub returns-else-put_stages-clause-named : goal.returns-else-put_stages-clause-named
returns-else-put_stages-clause-named c =
    none_named c.args.plan.now c.args.given.now c.put_stages.result c.put_stages.ensures.named c.if-put_stages.false
