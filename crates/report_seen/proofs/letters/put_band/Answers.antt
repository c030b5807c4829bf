use Rattle.std.proofs.Common.{arith}
use Rattle.std.proofs.lemmas.List.{take_all}
use Rattle.report_seen.specs.Letters.{band_row}
use Rattle.sig_io.proofs.Drafts.{then}
use Rattle.report_seen.proofs.letters.put_band.Goals as goal

pub returns : goal.returns
unfolding band_row
returns g c =
    rw (take_all c.loop-stay.stay-index c.args.stays.now (omega (arith, c.loop-stay-test.false))) at
    (then c.loop-stay.invariant c.put.ensures)
