use Rattle.std.proofs.Common.{◌∙◌, sym}
use Rattle.log_read.proofs.Entries.{never, not_refused}
use Rattle.log_compare.proofs.difference.Pair.says_same.Goals as goal

pub returns-in-Err-clause-differs : goal.returns-in-Err-clause-differs
returns-in-Err-clause-differs c = λ is r s p q same.
    never c.in-Err.field-0 (sym c.in-Err.ensures.reason ∙ not_refused c.args.names.now c.args.second c.args.one.now r p)

pub returns-in-Err-read_record-clause-differs : goal.returns-in-Err-read_record-clause-differs
returns-in-Err-read_record-clause-differs c = λ is r s p q same.
    never c.in-Err-read_record.field-0 (sym c.in-Err-read_record.ensures.reason ∙ not_refused c.args.names.now c.args.second c.args.other.now s q)
