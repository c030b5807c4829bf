use Rattle.std.proofs.Common.{ne_eqb}
use Rattle.sig_io.proofs.Drafts.{then}
use Rattle.refusal_text.proofs.line.put_sake.Goals as goal

pub returns-then-by-other : goal.returns-then-by-other
returns-then-by-other g c = rw (ne_eqb c.args.by.0 c.args.other.0 c.if-by-other.true) (then c.put.ensures c.put_name.ensures)
