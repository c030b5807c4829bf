use Rattle.std.proofs.Common.{arith}
use Rattle.site_check.proofs.FirstWords.{one_more}
use Rattle.site_check.proofs.firsts.firsts_in.Goals as goal

pub loop-token-preserved : goal.loop-token-preserved
loop-token-preserved c =
    rw c.in_ok-push.ensures.items
    (one_more c.args.tokens.now c.loop-token.words.keys c.note_word.new.words.keys c.loop-token.firsts.items c.loop-token.token-index
    c.in_ok-first.first c.token-item.result c.loop-token.invariant (omega (arith, c.loop-token-test.true)) c.token-item.is
    c.in_ok-first.ensures.words c.in_ok-first.ensures.first)
