use Rattle.sig_io.proofs.Drafts.{then}
use Rattle.judge_text.specs.Lines.{breaches_text}
use Rattle.judge_text.proofs.line.put_breaches.Goals as goal

pub returns : goal.returns
unfolding breaches_text
returns g c =
    then (then (then (then (then (then c.put_lines.ensures c.put.ensures) c.put_number.ensures) c.put-2.ensures) c.put_long_number.ensures)
    c.put-3.ensures) c.put_sums.ensures
