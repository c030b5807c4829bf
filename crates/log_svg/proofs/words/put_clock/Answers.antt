use Rattle.log_svg.specs.Words.{clock_text}
use Rattle.sig_io.proofs.Drafts.{then}
use Rattle.log_svg.proofs.words.put_clock.Goals as goal

pub returns : goal.returns
unfolding clock_text
returns g c =
    then (then (then (then c.put_two.ensures c.put.ensures) c.put_two-2.ensures) c.put-2.ensures) c.put_two-3.ensures
