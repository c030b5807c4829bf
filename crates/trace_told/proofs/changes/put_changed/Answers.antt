use Rattle.std.proofs.Common.{◌≡◌, w64, ap}
use Rattle.std.proofs.lemmas.Int.{to_z-of_z}
use mir.Val.{SFits, of_z, to_z}
use Rattle.std.specs.Fmt.{signed_decimal}
use Rattle.sig_io.proofs.Drafts.{same_put, then}
use Rattle.trace_told.proofs.changes.put_changed.Goals as goal

pub returns : goal.returns
returns g c =
    let before_fits : SFits w64 c.args.before = c.ranges.before in
    let before : to_z w64 (of_z w64 c.args.before) ≡ c.args.before = to_z-of_z w64 c.args.before before_fits in
    let after_fits : SFits w64 c.args.after = c.ranges.after in
    let after : to_z w64 (of_z w64 c.args.after) ≡ c.args.after = to_z-of_z w64 c.args.after after_fits in
    then c.put.ensures (then c.put_label.ensures (then c.put-2.ensures (then (same_put (ap signed_decimal before) c.put_value.ensures) (then c.put-3.ensures
    (same_put (ap signed_decimal after) c.put_value-2.ensures)))))
