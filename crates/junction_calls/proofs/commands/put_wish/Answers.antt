use Rattle.std.proofs.Common.{rules, ◌≡◌, ◌≤◌, true, subst, arith}
use Rattle.sig_types.specs.declared.numbers.Command.TheVariants.{Interstage}
use Rattle.stage_machine.specs.Orders.{stage}
use Rattle.junction_calls.specs.Given.{HasActive, is_stage_or_none}
use Rattle.junction_calls.proofs.NamedStages.{one_more_named, wish_named}
use Rattle.junction_calls.proofs.commands.put_wish.Goals as goal

-- src/commands.rt:112:1
pub returns-then-active-stage-clause-commands : goal.returns-then-active-stage-clause-commands
returns-then-active-stage-clause-commands g c =
    let at_least : 1 ≤ c.args.stage = omega (arith, c.if-stage-eq0.false) in
    let named : is_stage_or_none c.args.plan.now c.args.stage ≡ true = search rules in
    one_more_named c.args.plan.now c.args.commands.now c.push.new.self (Interstage c.in-Stage.active (stage c.args.stage)) c.push.ensures
    c.requires.commands (subst (HasActive c.args.plan.now) c.in-Stage.is c.requires.active, wish_named c.args.plan.now c.args.stage named at_least)
