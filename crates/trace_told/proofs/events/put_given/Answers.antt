use Rattle.std.proofs.Common.{◌≡◌, w32, ap}
use Rattle.std.proofs.lemmas.Int.{to_z-of_z}
use mir.Val.{SFits, of_z, to_z}
use Rattle.std.specs.Fmt.{signed_decimal}
use Rattle.sig_io.proofs.Drafts.{same_put, then}
use Rattle.trace_told.proofs.events.put_given.Goals as goal

pub returns : goal.returns
returns g c =
    let value_fits : SFits w32 c.args.value = c.ranges.value in
    let value : to_z w32 (of_z w32 c.args.value) ≡ c.args.value = to_z-of_z w32 c.args.value value_fits in
    then c.put.ensures (same_put (ap signed_decimal value) c.put_signed.ensures)
