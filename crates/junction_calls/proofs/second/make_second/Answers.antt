use Rattle.std.proofs.Common.{rules}
use Rattle.junction_calls.proofs.second.make_second.Goals as goal

-- src/second.rt:35:1
pub returns-in-Some-clause-second : goal.returns-in-Some-clause-second
returns-in-Some-clause-second c = (c.in-Some.controller.value, c.step-taken.new.controller, search rules, search rules, λ past stands. search rules)
