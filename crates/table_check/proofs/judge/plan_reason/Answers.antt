use Rattle.std.proofs.Common.{◌∙◌}
use Rattle.csv.specs.Records.{fields_of}
use Rattle.table_check.proofs.Notes.{seen_more}
use Rattle.table_check.proofs.Reasons.{reason_is}
use Rattle.table_check.proofs.judge.plan_reason.Goals as goal

pub returns-clause-why : goal.returns-clause-why
returns-clause-why c = λ rows has.
    c.named_reason.ensures
    ∙ rw (c.bare_reason-bare.ensures, c.wanted.ensures, c.is_some.ensures, c.note-again.ensures.again, c.is_self.ensures, c.place_in-place.ensures.place)
    (reason_is c.args.plan.now c.args.table c.args.fields rows (fields_of c.args.row.now) c.args.seen.now has c.place_in-place.ensures.within)

pub returns-clause-seen : goal.returns-clause-seen
returns-clause-seen c = λ rows has.
    rw (c.note-again.ensures.seen, c.place_in-place.ensures.place)
    (seen_more c.args.plan.now c.args.table rows (fields_of c.args.row.now) c.args.seen.now has c.place_in-place.ensures.within)
