use Rattle.std.proofs.Common.{rules, arith, sym, ◌∙◌, ne_eqb}
use Rattle.det_stream.proofs.DigitLemmas.{more_digits_at}
use Rattle.det_stream.proofs.entries.entry_of_six.Goals as goal

pub returns-clause-begins : goal.returns-clause-begins
returns-clause-begins c = rw (c.digit.ensures.value, c.digit-2.ensures.value, c.digit-3.ensures.value, c.digit-4.ensures.value)
    (more_digits_at c.args.text.now 0 0 0 0 0 0 (omega (arith, c.if-text-lt6.false)) (search rules) (search rules)
    (sym c.ends_at.ensures ∙ c.if-not-ends_at.false)
    (sym c.is_digit.ensures ∙ c.if-not-is_digit.false) (ne_eqb _ 48 c.if-text-eq48.false) (sym c.is_digit-else-text-eq48.ensures ∙ c.if-not-is_digit-2.false)
    (sym c.is_digit-2.ensures ∙ c.if-not-is_digit-3.false) (sym c.is_digit-else-not-is_digit-3.ensures ∙ c.if-not-is_digit-4.false))
