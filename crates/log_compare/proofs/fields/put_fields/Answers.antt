use Rattle.sig_io.proofs.Drafts.{then}
use Rattle.log_compare.specs.Text.{fields_text}
use Rattle.log_compare.proofs.fields.put_fields.Goals as goal

pub returns : goal.returns
unfolding fields_text
returns g c =
    then (then (then (then c.put_field.ensures c.put_aspects.ensures) c.put_field-2.ensures) c.put_field-3.ensures) c.put_field-4.ensures
