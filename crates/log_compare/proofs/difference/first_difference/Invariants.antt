use Rattle.std.proofs.Common.{false, List, None, length}
use Rattle.sig_types.specs.declared.record.Record.{Record}
use Rattle.log_read.specs.Readings.{IsRecords}
use Rattle.log_read.specs.declared.begin.Begin.TheVariants.{AtOne}
use Rattle.log_compare.proofs.Comparing.{Compared}
use Rattle.log_compare.proofs.difference.first_difference.Given as goal

abbrev pub invariant-seconds : goal.invariant-seconds
invariant-seconds l = (rs ss : List Record) → IsRecords false AtOne l.names l.one rs None → IsRecords false AtOne l.names l.other ss None →
    Compared l.one l.other l.rest l.other_rest l.second rs ss

abbrev pub decreases-seconds : goal.decreases-seconds
decreases-seconds l = length l.rest
