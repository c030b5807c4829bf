use Rattle.std.proofs.Common.{arith}
use Rattle.sig_tables.specs.SiteRules.{rules_of}
use Rattle.sig_response.specs.Bounds.{group_within}
use Rattle.sig_response.proofs.Greatest.{first_is_next, first_stays_first}
use Rattle.sig_response.proofs.worst.slowest_group.Goals as goal
use Rattle.sig_response.proofs.worst.slowest_group.Goals.{then-seconds-most, else-seconds-most}

pub loop-g-preserved : goal.loop-g-preserved
loop-g-preserved c =
    let number = group_within (rules_of c.args.times.now c.args.intergreens.now) in
    elim c.if-seconds-most.branch [
      | then-seconds-most w ↦ rw (w.slowest-is, w.most-is) (record {
        most = c.group_within-seconds.ensures.seconds;
        first = first_is_next number c.loop-g.g c.loop-g.slowest c.loop-g.invariant.first
            (omega (arith, w.if-seconds-most.true, c.loop-g.invariant.most, c.group_within-seconds.ensures.seconds));
      })
      | else-seconds-most w ↦ rw (w.slowest-is, w.most-is) (record {
        most = c.loop-g.invariant.most;
        first = first_stays_first number c.loop-g.g c.loop-g.slowest c.loop-g.invariant.first
            (omega (arith, w.if-seconds-most.false, c.loop-g.invariant.most, c.group_within-seconds.ensures.seconds));
      })
    ]
