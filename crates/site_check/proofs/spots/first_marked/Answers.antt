use Rattle.std.proofs.Common.{◌∙◌, sym, arith}
use Rattle.site_check.proofs.NamedTokens.{marked_named}
use Rattle.site_check.proofs.spots.first_marked.Goals as goal

pub returns-then-is_first_at : goal.returns-then-is_first_at
returns-then-is_first_at c =
    marked_named c.args.tokens.now c.args.marks.now.firsts.items c.args.range.0 c.args.range.1 c.args.line c.loop-k.k c.args.name.now
    c.requires.firsts c.requires.within c.loop-k.invariant (omega arith) (sym c.is_first_at.ensures ∙ c.if-is_first_at.true)
