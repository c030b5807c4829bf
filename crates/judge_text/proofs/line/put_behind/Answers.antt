use Rattle.std.proofs.lemmas.Bool.{ne_eqb}
use Rattle.sig_io.proofs.Drafts.{then}
use Rattle.judge_text.proofs.line.put_behind.Goals as goal

pub returns-else-before-eq0 : goal.returns-else-before-eq0
returns-else-before-eq0 g c =
    rw (ne_eqb c.args.before 0 c.if-before-eq0.false)
    (then (then c.put-else-before-eq0.ensures (rw c.from.ensures at c.put_ticks.ensures)) c.put-else-before-eq0-2.ensures)
