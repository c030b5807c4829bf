use Rattle.std.proofs.Common.{◌∙◌, sym, refl}
use Rattle.sig_types.specs.Text.{number_of}
use Rattle.code_file.proofs.TestedForms.{positive_is}
use Rattle.code_file.proofs.forms.is_positive.Goals as goal

pub returns : goal.returns
returns c =
    positive_is c.args.digits.now (number_of c.args.digits.now) c.ne.result refl (sym c.is_number.ensures ∙ c.if-not-is_number.false)
    (rw c.as_slice.ensures at c.ne.ensures)
