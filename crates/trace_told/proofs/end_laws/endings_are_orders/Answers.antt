use Rattle.trace_told.proofs.EndsTold.{endings_are_orders}
use Rattle.trace_told.proofs.end_laws.endings_are_orders.Goals as goal

pub returns : goal.returns
returns c = endings_are_orders
