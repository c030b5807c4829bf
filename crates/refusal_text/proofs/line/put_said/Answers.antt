use Rattle.sig_io.proofs.Drafts.{then}
use Rattle.refusal_text.proofs.line.put_said.Goals as goal

pub returns-in-Unknown : goal.returns-in-Unknown
returns-in-Unknown g c = rw c.in-Unknown.is (then (rw c.asked_name.ensures.name at c.put.ensures) c.put-in-Unknown.ensures)

pub returns-in-Contradicted : goal.returns-in-Contradicted
returns-in-Contradicted g c =
    rw c.in-Contradicted.is (then (rw c.asked_name-in-Contradicted.ensures.name at c.put-in-Contradicted.ensures) c.put-in-Contradicted-2.ensures)
