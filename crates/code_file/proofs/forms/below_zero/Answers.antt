use Rattle.std.proofs.Common.{◌∙◌, sym, refl}
use Rattle.sig_types.specs.Text.{number_of}
use Rattle.code_file.proofs.TestedForms.{below_refused}
use Rattle.code_file.proofs.forms.below_zero.Goals as goal

pub returns-in-None : goal.returns-in-None
returns-in-None c =
    below_refused c.args.digits.now (number_of c.args.digits.now) refl (sym c.is_number.ensures ∙ c.if-not-is_number.false)
    (sym (rw c.as_slice.ensures at c.eq.ensures) ∙ c.if-eq.false) (sym c.in-None.is ∙ c.number64.ensures.value)
