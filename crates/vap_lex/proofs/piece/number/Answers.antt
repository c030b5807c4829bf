use Rattle.std.proofs.Common.{sym, rules}
use Rattle.vap_lex.proofs.Decimal.{too_large}
use Rattle.vap_lex.proofs.piece.number.Goals as goal

pub returns-then-value-gt-MOST-clause-value : goal.returns-then-value-gt-MOST-clause-value
returns-then-value-gt-MOST-clause-value c = sym (too_large c.args.digits.now c.loop-digit.digit-index c.loop-digit.value c.loop-digit-test.true (search rules) c.loop-digit.invariant.goes_on)
