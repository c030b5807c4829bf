use Rattle.std.proofs.Common.{rules, ◌≡◌, ◌∙◌, true, false, ap, arith}
use Rattle.controller.specs.Controls.{plan_of}
use Rattle.junction_calls.specs.Given.{commands_given, is_named}
use Rattle.junction_calls.proofs.given.step.Goals as goal
use Rattle.junction_calls.proofs.given.step.Goals.{then-is_silent+else-put_silent, else-is_silent+else-put_all}

pub returns-in_default-clause-second : goal.returns-in_default-clause-second
returns-in_default-clause-second c = λ past stands.
    c.refuse.ensures past stands c.args.given.now (λ few. absurd (omega (arith, few, c.in_default.ensures past stands))) c.args.told.now

pub returns-then-put_silent-clause-second : goal.returns-then-put_silent-clause-second
returns-then-put_silent-clause-second c = λ past stands.
    let named : is_named (plan_of c.args.controller.now) c.args.given.now ≡ true = search rules in
    c.make.ensures.second past stands c.args.given.now named
    (c.as_slice.ensures.same ∙ c.put_silent.ensures.given c.if-put_silent.true
    ∙ ap (λ p. commands_given p c.args.given.now) (c.in-Some.ensures past stands))

pub returns-clause-second : goal.returns-clause-second
returns-clause-second c = λ past stands.
    let unnamed : is_named (plan_of c.args.controller.now) c.args.given.now ≡ false = elim c.if-is_silent.branch [
      | then-is_silent+else-put_silent w ↦ search rules
      | else-is_silent+else-put_all w ↦ search rules
    ] in
    c.refuse-2.ensures past stands c.args.given.now (λ few. unnamed) c.args.told.now
