use Rattle.log_read.specs.RecordAnswers.{names_of}
use Rattle.report_seen.specs.CompareForm.{asked_in}
use Rattle.report_seen.proofs.CompareTexts.{told}
use Rattle.report_seen.proofs.telling.tell_tables.Goals as goal

pub returns-in-Ok-difference_of-clause-told : goal.returns-in-Ok-difference_of-clause-told
returns-in-Ok-difference_of-clause-told g c =
    let one = c.args.one.now in
    let other = c.args.other.now in
    told (asked_in c.args.form.now) one.bytes.items other.bytes.items (names_of one.records) (names_of other.records) one.sums other.sums
    c.requires.one.sums c.requires.other.sums c.requires.one.unserved c.requires.other.unserved c.in-Ok-difference_of.difference
    ((rw (c.names-names.ensures.names, c.names-others.ensures.names, c.deref.ensures.value, c.deref-2.ensures.value) at c.in-Ok-difference_of.ensures)
    c.requires.one.sums.records c.requires.other.sums.records c.requires.one.sums.log c.requires.other.sums.log)
    c.write_told.result _ _ c.write_told.ensures.differs c.write_told.ensures.of_telling
    (rw (
      c.names-names.ensures.names,
      c.names-others.ensures.names,
      c.deref-in-Ok-difference_of.ensures.value,
      c.in-Ok.ensures,
      c.requires.table,
      c.requires.other_table,
    ) at c.write_told.ensures.written)
