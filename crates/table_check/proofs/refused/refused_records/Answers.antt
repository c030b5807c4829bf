use Rattle.table_check.proofs.refused.refused_records.Goals as goal

pub put_all-requires-clause-read : goal.put_all-requires-clause-read
put_all-requires-clause-read c = (c.args.text.now, c.open-rows.ensures)

pub put_all-requires-clause-none : goal.put_all-requires-clause-none
put_all-requires-clause-none c = c.new-refused.ensures.items

pub returns : goal.returns
returns c = c.in_ok-put_all.ensures c.args.text.now c.open-rows.ensures
