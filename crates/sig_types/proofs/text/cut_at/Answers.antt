use Rattle.std.proofs.Common.{arith}
use Rattle.sig_types.proofs.Bytes.{cut_found, cut_missed, rest_of}
use Rattle.sig_types.proofs.text.cut_at.Goals as goal

pub returns-then-b-stop : goal.returns-then-b-stop
returns-then-b-stop c =
    rest_of c.args.stop c.args.bytes.now c.loop-i.i _ _ _
    (cut_found c.args.stop c.args.bytes.now c.loop-i.i c.loop-i-test.true c.loop-i.invariant c.if-b-stop.true)
    c.split_at.ensures.front c.split_at.ensures.back c.split_at-then-b-stop.ensures.back

pub returns : goal.returns
returns c = cut_missed c.args.stop c.args.bytes.now (λ k below is. c.loop-i.invariant k (omega arith) is)
