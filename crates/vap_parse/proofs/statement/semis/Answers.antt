use Rattle.std.proofs.Common.{arith, rules}
use Rattle.std.proofs.lemmas.Grind.{common_steps}
use Rattle.vap_parse.specs.Input.{where_kind, line_of, no_limit, as_many}
use Rattle.vap_parse.specs.Descent.{one_semi}
use Rattle.vap_parse.specs.declared.kind.Kind.TheVariants as k
use Rattle.vap_parse.proofs.Shrinks.{semis_once, token_takes}
use Rattle.vap_parse.proofs.statement.semis.Goals as goal

pub loop-tokens-preserved : goal.loop-tokens-preserved
unfolding one_semi
loop-tokens-preserved c =
    let once = semis_once tt c.loop-tokens.tokens in
    first_of (search rules, grind (arith, common_steps))

pub returns : goal.returns
returns c =
    let once = semis_once tt c.loop-tokens.tokens in
    first_of (search rules, grind (arith, common_steps))

pub returns-in_err-expect : goal.returns-in_err-expect
unfolding one_semi
returns-in_err-expect c =
    let once = semis_once tt c.loop-tokens.tokens in
    first_of (search rules, grind (arith, common_steps))

pub loop-tokens-smaller : goal.loop-tokens-smaller
loop-tokens-smaller c = token_takes (where_kind k.Semi line_of) no_limit as_many c.loop-tokens.tokens c.expect.new.self c.in_ok-expect.field-0
    c.in_ok-expect.ensures
