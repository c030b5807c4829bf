use Rattle.report_seen.specs.Letters.{key_text}
use Rattle.sig_io.proofs.Drafts.{then}
use Rattle.report_seen.proofs.letters.put_key.Goals as goal

pub returns : goal.returns
unfolding key_text
returns g c = then c.put.ensures c.put-2.ensures
