use Rattle.std.proofs.Common.{◌≡◌, w32, ap}
use Rattle.std.proofs.lemmas.Int.{to_z-of_z}
use mir.Val.{SFits, of_z, to_z}
use Rattle.std.specs.Fmt.{signed_decimal}
use Rattle.sig_io.proofs.Drafts.{same_put, then}
use Rattle.trace_told.proofs.words.put_one.Goals as goal

pub returns : goal.returns
returns g c =
    let a_fits : SFits w32 c.args.a = c.ranges.a in
    let a : to_z w32 (of_z w32 c.args.a) ≡ c.args.a = to_z-of_z w32 c.args.a a_fits in
    then c.put.ensures (then (same_put (ap signed_decimal a) c.put_signed.ensures) (then c.put-2.ensures c.put-3.ensures))
