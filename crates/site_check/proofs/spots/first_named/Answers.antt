use Rattle.std.proofs.Common.{◌∙◌, sym, arith}
use Rattle.site_check.proofs.NamedTokens.{found_here, none_all, none_more, none_start}
use Rattle.site_check.proofs.spots.first_named.Goals as goal

pub loop-k-init : goal.loop-k-init
loop-k-init c = (omega arith, none_start c.args.tokens.now c.args.range.0 c.args.line c.args.name.now)

pub returns-then-is_name_at : goal.returns-then-is_name_at
returns-then-is_name_at c =
    found_here c.args.tokens.now c.args.range.0 c.args.range.1 c.loop-k.k c.args.line c.args.name.now c.loop-k.invariant.1
    c.loop-k.invariant.0 (omega arith) (sym c.is_name_at.ensures ∙ c.if-is_name_at.true)

pub loop-k-preserved : goal.loop-k-preserved
loop-k-preserved c = (
  omega (arith, c.loop-k.invariant.0),
  none_more c.args.tokens.now c.args.range.0 c.loop-k.k c.args.line c.args.name.now c.loop-k.invariant.1
      (sym c.is_name_at.ensures ∙ c.if-is_name_at.false),
)

pub returns : goal.returns
returns c =
    none_all c.args.tokens.now c.args.range.0 c.args.range.1 c.loop-k.k c.args.line c.args.name.now c.loop-k.invariant.1
    (omega arith)
