use Rattle.std.proofs.Common.{rules, ◌≡◌, ◌+◌, ◌≤◌, All, true, sym, subst, arith}
use Rattle.std.proofs.lemmas.List.Elements.{All-nil}
use Rattle.sig_types.specs.declared.numbers.Command.TheVariants.{Interstage}
use Rattle.stage_machine.specs.Orders.{stage}
use Rattle.controller.specs.Commanded.{IsCommand}
use Rattle.junction_calls.specs.Given.{are_stages}
use Rattle.junction_calls.proofs.NamedStages.{one_more_named, order_named}
use Rattle.junction_calls.proofs.commands.put_order.Goals as goal
use Rattle.junction_calls.proofs.commands.put_order.Goals.{else-from-eq0-via-then-from-eq0+else-to-eq0, else-from-eq0-via-else-from-eq0}

-- src/commands.rt:91:1
pub returns-then-are_stages-clause-commands : goal.returns-then-are_stages-clause-commands
returns-then-are_stages-clause-commands g c =
    let some : 1 ≤ c.args.from + c.args.to = elim c.else-from-eq0.branch [
      | else-from-eq0-via-then-from-eq0+else-to-eq0 w ↦ omega (arith, w.if-to-eq0.false)
      | else-from-eq0-via-else-from-eq0 w ↦ omega (arith, w.if-from-eq0.false)
    ] in
    let named : are_stages c.args.plan.now c.args.from c.args.to ≡ true = search rules in
    one_more_named c.args.plan.now c.args.commands.now c.push.new.self (Interstage (stage c.args.from) (stage c.args.to)) c.push.ensures
    (subst (All (IsCommand c.args.plan.now)) (sym c.requires.none) (All-nil (IsCommand c.args.plan.now)))
    (order_named c.args.plan.now c.args.from c.args.to named some)
