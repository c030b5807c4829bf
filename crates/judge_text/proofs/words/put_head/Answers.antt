use Rattle.sig_io.proofs.Drafts.{then}
use Rattle.judge_text.specs.Words.{head_text}
use Rattle.judge_text.proofs.words.put_head.Goals as goal

pub returns : goal.returns
unfolding head_text
returns g c =
    then (then (then (then (rw c.second_of.ensures at c.put_second.ensures) c.put.ensures)
    (rw (c.rule_name.ensures.text, c.rule_of.ensures) at c.put-2.ensures)) c.put-3.ensures) (rw c.group_of.ensures at c.put_name.ensures)
