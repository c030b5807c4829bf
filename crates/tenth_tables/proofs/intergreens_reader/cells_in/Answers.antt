use Rattle.std.proofs.lemmas.Result.{err_from_is_err_and}
use Rattle.sig_tables.specs.Records.{table_rows}
use Rattle.tenth_tables.proofs.PairsRead.{refused_header}
use Rattle.tenth_tables.proofs.intergreens_reader.cells_in.Goals as goal

pub returns-in_err-records-clause-refused : goal.returns-in_err-records-clause-refused
returns-in_err-records-clause-refused c =
    let p = err_from_is_err_and c.from_residual.result c.from_residual.ensures.1 in
    rw (p.1, p.2) (refused_header c.args.plan.now (table_rows c.args.bytes.now) c.in_err-records.field-0.0 c.in_err-records.ensures.refused)

pub returns-in_err-pairs_by-clause-refused : goal.returns-in_err-pairs_by-clause-refused
returns-in_err-pairs_by-clause-refused c =
    let p = err_from_is_err_and c.from_residual-in_err-pairs_by.result c.from_residual-in_err-pairs_by.ensures.1 in
    rw (p.1, p.2) (c.in_err-pairs_by.ensures.refused c.args.bytes.now c.in_ok-records.ensures.read)

pub returns-clause-cells : goal.returns-clause-cells
returns-clause-cells c = c.in_ok-pairs_by.ensures.read c.args.bytes.now c.in_ok-records.ensures.read
