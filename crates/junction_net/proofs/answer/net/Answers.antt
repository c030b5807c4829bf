use Rattle.std.proofs.Common.{refl}
use Rattle.junction_net.proofs.answer.net.Goals as goal

pub returns-in-Some-clause-answers : goal.returns-in-Some-clause-answers
returns-in-Some-clause-answers g c = rw c.in-Some.ensures c.answer_word.ensures.answer

pub returns-in-None-clause-answers : goal.returns-in-None-clause-answers
returns-in-None-clause-answers g c = rw c.in-None.ensures (record { is = refl; unwritten = refl; note = c.write_words.ensures })
