use Rattle.std.proofs.Common.{arith}
use Rattle.sig_tables.specs.SiteRules.{rules_of}
use Rattle.sig_response.specs.Bounds.{free_within}
use Rattle.sig_response.proofs.Greatest.{first_is_next, first_stays_first}
use Rattle.sig_response.proofs.worst.slowest_other.Goals as goal
use Rattle.sig_response.proofs.worst.slowest_other.Goals.{then-seconds-most, else-seconds-most}

pub loop-other-preserved : goal.loop-other-preserved
loop-other-preserved c =
    let number = free_within (rules_of c.args.times.now c.args.intergreens.now) c.args.g in
    elim c.if-seconds-most.branch [
      | then-seconds-most w ↦ rw (w.slowest-is, w.most-is) (record {
        most = c.free_within-seconds.ensures.seconds;
        first = first_is_next number c.loop-other.other c.loop-other.slowest c.loop-other.invariant.first
            (omega (arith, w.if-seconds-most.true, c.loop-other.invariant.most, c.free_within-seconds.ensures.seconds));
      })
      | else-seconds-most w ↦ rw (w.slowest-is, w.most-is) (record {
        most = c.loop-other.invariant.most;
        first = first_stays_first number c.loop-other.other c.loop-other.slowest c.loop-other.invariant.first
            (omega (arith, w.if-seconds-most.false, c.loop-other.invariant.most, c.free_within-seconds.ensures.seconds));
      })
    ]
