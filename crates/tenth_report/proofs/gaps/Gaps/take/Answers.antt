use Rattle.std.proofs.Common.{arith}
use Rattle.tenth_report.proofs.Gapped.{gaps_taken}
use Rattle.tenth_report.proofs.gaps.Gaps.take.Goals as goal

pub returns-clause-taken : goal.returns-clause-taken
returns-clause-taken c = λ all rest most was later some.
    gaps_taken c.args.self.now _ all rest c.args.entry.now most was later some (omega arith) c.since_then-self.ensures c.came_then-came.ensures
