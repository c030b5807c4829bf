use Rattle.log_svg.specs.Svg.{span_title}
use Rattle.sig_io.proofs.Drafts.{then}
use Rattle.log_svg.proofs.row.put_title.Goals as goal

pub returns : goal.returns
unfolding span_title
returns g c =
    then (then (then (then (then c.put.ensures c.put-2.ensures) c.put-3.ensures) (rw c.word_of.ensures.word at c.put-4.ensures))
    c.put_times.ensures) c.put-5.ensures
