use Rattle.site_check.proofs.FirstWords.{AreNoted}
use Rattle.site_check.proofs.firsts.firsts_in.Given as goal

-- the tokens that were passed
abbrev pub invariant-loop-token : goal.invariant-loop-token
invariant-loop-token l = AreNoted l.tokens l.words.keys l.firsts.items l.token-index
