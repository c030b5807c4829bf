use Rattle.std.proofs.Common.{◌<◌, length, arith, rules}
use Rattle.std.proofs.lemmas.Grind.{common_steps}
use Rattle.vap_parse.specs.Input.{where_kind, line_of, no_limit, as_many}
use Rattle.vap_parse.specs.Descent.{next_value}
use Rattle.vap_parse.specs.declared.kind.Kind.TheVariants as k
use Rattle.vap_parse.proofs.TextLaws.{value_law}
use Rattle.vap_parse.proofs.Shrinks.{values_once, token_takes, takes}
use Rattle.vap_parse.proofs.declaration.more_values.Goals as goal

pub loop-tokens-preserved : goal.loop-tokens-preserved
unfolding next_value
loop-tokens-preserved c =
    let once = values_once c.loop-tokens.values.items c.loop-tokens.tokens in
    first_of (search rules, grind (arith, common_steps))

pub returns : goal.returns
unfolding next_value
returns c =
    let once = values_once c.loop-tokens.values.items c.loop-tokens.tokens in
    first_of (search rules, grind (arith, common_steps))

pub returns-in_err-expect : goal.returns-in_err-expect
unfolding next_value
returns-in_err-expect c =
    let once = values_once c.loop-tokens.values.items c.loop-tokens.tokens in
    first_of (search rules, grind (arith, common_steps))

pub returns-in_err-next : goal.returns-in_err-next
unfolding next_value
returns-in_err-next c =
    let once = values_once c.loop-tokens.values.items c.loop-tokens.tokens in
    first_of (search rules, grind (arith, common_steps))

pub loop-tokens-smaller : goal.loop-tokens-smaller
loop-tokens-smaller c =
    let one : length c.expect.new.self.rest < length c.loop-tokens.tokens.rest =
    token_takes (where_kind k.Comma line_of) no_limit as_many c.loop-tokens.tokens c.expect.new.self c.in_ok-expect.field-0 c.in_ok-expect.ensures in
    let two = takes value_law c.expect.new.self c.value.new.tokens c.in_ok-next.next c.in_ok-next.ensures in
    omega arith
