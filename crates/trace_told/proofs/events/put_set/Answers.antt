use Rattle.std.proofs.Common.{◌≡◌, w32, ap}
use Rattle.std.proofs.lemmas.Int.{to_z-of_z}
use mir.Val.{SFits, of_z, to_z}
use Rattle.std.specs.Fmt.{signed_decimal}
use Rattle.sig_io.proofs.Drafts.{same_put, then}
use Rattle.trace_told.proofs.events.put_set.Goals as goal

pub returns : goal.returns
returns g c =
    let after_fits : SFits w32 c.args.after = c.ranges.after in
    let after : to_z w32 (of_z w32 c.args.after) ≡ c.args.after = to_z-of_z w32 c.args.after after_fits in
    then c.put.ensures (then c.put_slot.ensures (then c.put-2.ensures (then c.put_before.ensures (then c.put-3.ensures
    (same_put (ap signed_decimal after) c.put_signed.ensures)))))
