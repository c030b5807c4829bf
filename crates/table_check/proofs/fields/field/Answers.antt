use Rattle.table_check.specs.Fields.{field_at, spans_of}
use Rattle.table_check.proofs.Numbered.{get_or-changed_none}
use Rattle.table_check.proofs.fields.field.Goals as goal

pub returns-in-None : goal.returns-in-None
returns-in-None c =
    get_or-changed_none (field_at c.args.row.now) (spans_of c.args.row.now) c.args.place (c.in-None.ensures.span)
