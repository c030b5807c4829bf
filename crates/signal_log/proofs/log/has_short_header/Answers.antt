use Rattle.std.proofs.Common.{arith}
use Rattle.signal_log.proofs.Lengths.{header_any}
use Rattle.signal_log.proofs.log.has_short_header.Goals as goal

pub returns : goal.returns
returns c = header_any c.args.plan.now.names c.groups-groups.ensures.plan.names (omega (arith, c.groups-groups.ensures.plan.groups_at_most))
