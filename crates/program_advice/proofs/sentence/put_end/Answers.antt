use Rattle.program_advice.specs.Sentence.{end_text}
use Rattle.program_advice.proofs.Putting.{both_ok}
use Rattle.program_advice.proofs.sentence.put_end.Goals as goal

pub returns : goal.returns
unfolding end_text
returns c =
    both_ok c.put_before.result c.args.text.now.items c.put.new.text.items c.put_before.new.text.items _ _ c.in_ok-put.ensures
    c.put_before.ensures
