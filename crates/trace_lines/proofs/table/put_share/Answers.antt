use Rattle.sig_io.proofs.Drafts.{same_put, then}
use Rattle.trace_lines.proofs.Texts.{share_is}
use Rattle.trace_lines.proofs.table.put_share.Goals as goal

pub returns-then-all-gt0 : goal.returns-then-all-gt0
returns-then-all-gt0 g c =
    same_put (share_is c.args.n c.args.all c.share.result c.if-all-gt0.true c.share.ensures)
    (then (then c.put.ensures c.put_long_number.ensures) c.put-then-all-gt0.ensures)
