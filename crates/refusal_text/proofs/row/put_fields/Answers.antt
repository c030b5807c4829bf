use Rattle.sig_io.proofs.Drafts.{then}
use Rattle.refusal_text.proofs.row.put_fields.Goals as goal

pub returns-in-Command : goal.returns-in-Command
returns-in-Command g c =
    rw c.in-Command.is
    (then (then (then (then (then (then c.put.ensures c.put_command.ensures) c.put-in-Command.ensures)
    (rw c.rule_name.ensures.text at c.put-in-Command-2.ensures)) c.put-in-Command-3.ensures) c.put_place.ensures) c.put-in-Command-4.ensures)

pub returns-in-Turn : goal.returns-in-Turn
returns-in-Turn g c =
    rw c.in-Turn.is
    (then (then (then (then (then (then (then (then (then c.put-in-Turn.ensures c.put_name.ensures) c.put-in-Turn-2.ensures)
    (rw c.asked_name.ensures.name at c.put-in-Turn-3.ensures)) c.put-in-Turn-4.ensures) (rw c.rule_name-in-Turn.ensures.text at c.put-in-Turn-5.ensures))
    c.put-in-Turn-6.ensures) c.put_other.ensures) c.put-in-Turn-7.ensures) c.put_said.ensures)
