use Rattle.std.proofs.Common.{rules, inr}
use Rattle.junction_calls.proofs.given.make_given_second.Goals as goal

-- src/given.rt:46:1
pub returns-in-Some-clause-second : goal.returns-in-Some-clause-second
returns-in-Some-clause-second c = inr (c.in-Some.controller.value, c.step-status.new.controller, search rules, search rules, λ past stands. search rules)
