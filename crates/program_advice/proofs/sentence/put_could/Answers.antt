use Rattle.program_advice.specs.Sentence.{could_text}
use Rattle.program_advice.proofs.Putting.{both_ok}
use Rattle.program_advice.proofs.sentence.put_could.Goals as goal

pub returns : goal.returns
unfolding could_text
returns c =
    both_ok c.put_open.result c.args.text.now.items c.put.new.text.items c.put_open.new.text.items _ _ c.in_ok-put.ensures
    (both_ok c.put_open.result c.put.new.text.items c.put_wanted.new.text.items c.put_open.new.text.items _ _
    c.in_ok-put_wanted.ensures c.put_open.ensures)
