use Rattle.std.proofs.Common.{sym, ◌∙◌, arith}
use Rattle.code_verify.proofs.LastStart.{last_start_at, no_start}
use Rattle.code_file.proofs.reading.last_of.Goals as goal

pub returns-then-is_empty : goal.returns-then-is_empty
returns-then-is_empty c = let e = sym c.is_empty.ensures ∙ c.if-is_empty.true in sym (no_start c.args.starts.now (grind (arith, e)))

pub returns-else-is_empty : goal.returns-else-is_empty
returns-else-is_empty c = let e = sym c.is_empty.ensures ∙ c.if-is_empty.false in sym (last_start_at c.args.starts.now (grind (arith, e)))
