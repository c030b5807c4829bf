use Rattle.std.proofs.Common.{pos, sym}
use Rattle.trace_told.proofs.Gaps.{none_there}
use Rattle.trace_told.proofs.print_lines.number_of.Goals as goal

pub returns-in-None : goal.returns-in-None
returns-in-None c = sym (none_there c.args.sight.now.state.store.variables c.args.variable (pos 0) c.in-None.ensures)
