use Rattle.std.proofs.Common.{arith}
use Rattle.report_seen.proofs.Covering.{cover_behind, cover_more}
use Rattle.report_seen.proofs.gathering.take_covers.Goals as goal

pub returns-then-to-rec : goal.returns-then-to-rec
returns-then-to-rec c records second small covers =
    cover_behind records c.args.rec.now c.args.from c.args.to c.args.covers.now.items (omega (arith, c.if-to-rec.true, second)) covers

pub returns : goal.returns
returns c records second small covers =
    cover_more records c.args.rec.now c.args.from c.args.to c.args.covers.now.items c.take_frame.new.covers.items second
    (omega (arith, c.if-to-rec.false)) small c.in_ok-take_frame.ensures.size (λ f r n p d. c.in_ok-take_frame.ensures.covers f r n p d) covers
