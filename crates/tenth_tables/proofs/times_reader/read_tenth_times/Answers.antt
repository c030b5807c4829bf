use Rattle.std.proofs.Common.{◌∙◌}
use Rattle.std.proofs.lemmas.Result.{err_from_is_err_and}
use Rattle.sig_tables.specs.Records.{table_rows}
use Rattle.tenth_tables.specs.Times.{times_of}
use Rattle.tenth_tables.proofs.TimesRead.{refused_header}
use Rattle.tenth_tables.proofs.times_reader.read_tenth_times.Goals as goal

pub returns-in_err-records-clause-refused : goal.returns-in_err-records-clause-refused
returns-in_err-records-clause-refused c =
    let p = err_from_is_err_and c.from_residual.result c.from_residual.ensures.1 in
    rw (p.1, p.2) (refused_header c.args.plan.now (table_rows c.args.bytes.now) c.in_err-records.field-0.0 c.in_err-records.ensures.refused)

pub returns-in_err-rows-clause-refused : goal.returns-in_err-rows-clause-refused
returns-in_err-rows-clause-refused c =
    let p = err_from_is_err_and c.from_residual-in_err-rows.result c.from_residual-in_err-rows.ensures.1 in
    rw (p.1, p.2) (c.in_err-rows.ensures.refused c.args.bytes.now c.in_ok-records.ensures.read)

pub returns-clause-times : goal.returns-clause-times
unfolding times_of
returns-clause-times c = c.of.ensures ∙ c.in_ok-rows.ensures.times c.args.bytes.now c.in_ok-records.ensures.read
