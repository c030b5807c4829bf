use Rattle.std.specs.Fmt.{signed_decimal}
use Rattle.std.proofs.Common.{◌≡◌, w32, ap}
use Rattle.std.proofs.lemmas.Int.{to_z-of_z}
use mir.Val.{SFits, of_z, to_z}
use Rattle.site_findings.specs.Warnings.{argument_text}
use Rattle.site_findings.proofs.Putting.{both, both_ok, same}
use Rattle.site_findings.proofs.warned.put_argument.Goals as goal

pub returns : goal.returns
unfolding argument_text
returns c =
    let old = c.args.text.now in
    let fits : SFits w32 c.args.number = c.ranges.number in
    let number : to_z w32 (of_z w32 c.args.number) ≡ c.args.number = to_z-of_z w32 c.args.number fits in
    both_ok c.put-2.result old c.put_signed.new.self c.put-2.new.self _ _
    (both old c.put.new.self c.put_signed.new.self _ _
    c.in_ok-put.ensures
    (same c.put.new.self c.put_signed.new.self _ _ c.in_ok-put_signed.ensures (ap signed_decimal number)))
    c.put-2.ensures
