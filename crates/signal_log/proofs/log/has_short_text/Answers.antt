use Rattle.std.proofs.Common.{arith}
use Rattle.signal_log.proofs.Lengths.{record_any}
use Rattle.signal_log.proofs.log.has_short_text.Goals as goal

pub returns : goal.returns
returns c = record_any c.args.plan.now.names c.args.rec.now c.groups-groups.ensures.plan.names (omega (arith, c.groups-groups.ensures.plan.groups_at_most)) c.requires (omega (arith, c.len-stages.ensures.at_most)) (omega (arith, c.len-turns.ensures.at_most))
