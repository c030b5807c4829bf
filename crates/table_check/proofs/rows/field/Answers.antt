use Rattle.csv.specs.Records.{fields_of}
use Rattle.table_check.proofs.FieldSpans.{field_there, field_none}
use Rattle.table_check.proofs.rows.field.Goals as goal

pub returns-in-Some : goal.returns-in-Some
returns-in-Some c = field_there (fields_of c.args.row.now) c.args.place _ c.in-Some.ensures.value

pub returns-in-None : goal.returns-in-None
returns-in-None c = field_none (fields_of c.args.row.now) c.args.place c.in-None.ensures.value
