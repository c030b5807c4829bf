use Rattle.std.proofs.Common.{rules, arith, sym, ◌∙◌}
use Rattle.det_stream.proofs.DigitLemmas.{digits_at}
use Rattle.det_stream.proofs.entries.entry_of_five.Goals as goal

pub returns-clause-begins : goal.returns-clause-begins
returns-clause-begins c = rw (c.digit.ensures.value, c.digit-2.ensures.value, c.digit-3.ensures.value)
    (digits_at c.args.text.now 0 0 0 0 0 (omega (arith, c.if-text-lt5.false)) (search rules) (search rules) (sym c.ends_at.ensures ∙ c.if-not-ends_at.false)
    (sym c.is_digit.ensures ∙ c.if-not-is_digit.false) (sym c.is_digit-else-not-is_digit.ensures ∙ c.if-not-is_digit-2.false)
    (sym c.is_digit-else-not-is_digit-2.ensures ∙ c.if-not-is_digit-3.false))
