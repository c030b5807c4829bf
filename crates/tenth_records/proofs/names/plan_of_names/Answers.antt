use Rattle.std.proofs.Common.{◌∙◌}
use Rattle.tenth_records.proofs.PlanOfNames.{is_plan, of_parts}
use Rattle.tenth_records.proofs.names.plan_of_names.Goals as goal

pub of-requires : goal.of-requires
of-requires c =
    rw (of_parts c.args.names.now c.in_ok-groups.groups.items c.in_ok-stages.stages.items c.new.result.items c.in_ok-groups.ensures.names c.in_ok-groups.ensures.numbers
    c.in_ok-stages.ensures.names c.in_ok-stages.ensures.stages c.new.ensures.items)
    (is_plan c.args.names.now c.requires.some (record { named = c.requires.named; apart = c.requires.apart; few = c.requires.few }))

pub returns : goal.returns
returns c =
    c.of.ensures.plan ∙ of_parts c.args.names.now c.in_ok-groups.groups.items c.in_ok-stages.stages.items c.new.result.items c.in_ok-groups.ensures.names c.in_ok-groups.ensures.numbers
    c.in_ok-stages.ensures.names c.in_ok-stages.ensures.stages c.new.ensures.items
