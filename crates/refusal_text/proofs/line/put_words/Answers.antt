use Rattle.sig_io.proofs.Drafts.{then}
use Rattle.refusal_text.specs.Lines.{words_text}
use Rattle.refusal_text.proofs.line.put_words.Goals as goal

pub returns : goal.returns
unfolding words_text
returns g c = then (then (then (then c.put_lines.ensures c.put.ensures) c.put_long_number.ensures) c.put-2.ensures) c.put_sums.ensures
