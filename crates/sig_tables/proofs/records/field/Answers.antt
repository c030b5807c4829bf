use Rattle.std.proofs.Common.{◌∙◌}
use Rattle.std.proofs.lemmas.Option.{same_Some, none-some}
use Rattle.csv.specs.Records.{fields_of}
use Rattle.sig_tables.proofs.Rows.{field_of_row}
use Rattle.sig_tables.proofs.records.field.Goals as goal

pub returns-in-Some : goal.returns-in-Some
returns-in-Some c = same_Some _ _ (c.in-Some.ensures.value ∙ field_of_row (fields_of c.args.row.now) c.args.place c.requires)

pub returns-in-None : goal.returns-in-None
returns-in-None c = absurd (none-some _ (c.in-None.ensures.value ∙ field_of_row (fields_of c.args.row.now) c.args.place c.requires))
