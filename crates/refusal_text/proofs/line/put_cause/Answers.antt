use Rattle.sig_io.proofs.Drafts.{then}
use Rattle.refusal_text.proofs.line.put_cause.Goals as goal

pub returns-in-On : goal.returns-in-On
returns-in-On g c = rw c.in-On.is (then (then c.put_name.ensures c.put.ensures) c.put_lasts.ensures)

pub returns-in-Nothing : goal.returns-in-Nothing
returns-in-Nothing g c = rw c.in-Nothing.is c.put-in-Nothing.ensures
