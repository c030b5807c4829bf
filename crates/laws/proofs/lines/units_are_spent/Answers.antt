use Rattle.laws.proofs.UnitsSpent.{budget_is_spent, fewer_units_suffice, units_are_few}
use Rattle.laws.proofs.lines.units_are_spent.Goals as goal

pub returns : goal.returns
returns c = record { few = fewer_units_suffice; all = budget_is_spent; within = units_are_few }
