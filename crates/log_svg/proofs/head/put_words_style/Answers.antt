use Rattle.log_svg.specs.Diagram.{words_style}
use Rattle.sig_io.proofs.Drafts.{then}
use Rattle.log_svg.proofs.head.put_words_style.Goals as goal

pub returns : goal.returns
unfolding words_style
returns g c = then (then c.put.ensures c.put-2.ensures) c.put-3.ensures
