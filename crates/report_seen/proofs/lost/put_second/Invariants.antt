use Rattle.std.proofs.Common.{◌≡◌, List, ◌++◌, length}
use Rattle.sig_types.specs.declared.record.Record.{Record}
use Rattle.report_seen.specs.Lost.{AreAsked, lost_below}
use Rattle.report_seen.proofs.lost.put_second.Given as goal

abbrev pub invariant-loop-group : goal.invariant-loop-group
invariant-loop-group l = (earlier : List Record) → AreAsked (length l.rec.picture) earlier l.asked →
    l.starts.items ≡ l.fn.starts.items ++ lost_below l.group l.rec earlier
