use Rattle.std.specs.Fmt.{signed_decimal}
use Rattle.std.proofs.Common.{◌≡◌, w32, ap}
use Rattle.std.proofs.lemmas.Int.{to_z-of_z}
use mir.Val.{SFits, of_z, to_z}
use Rattle.site_findings.specs.Warnings.{wrong_stage_text}
use Rattle.site_findings.proofs.Putting.{both, both_ok, same}
use Rattle.site_findings.proofs.warned.put_wrong_stage.Goals as goal

pub returns : goal.returns
unfolding wrong_stage_text
returns c =
    let old = c.args.text.now in
    let from_fits : SFits w32 c.args.from = c.ranges.from in
    let active_fits : SFits w32 c.args.active = c.ranges.active in
    let from : to_z w32 (of_z w32 c.args.from) ≡ c.args.from = to_z-of_z w32 c.args.from from_fits in
    let active : to_z w32 (of_z w32 c.args.active) ≡ c.args.active = to_z-of_z w32 c.args.active active_fits in
    both_ok c.put-3.result old c.put_signed-2.new.self c.put-3.new.self _ _
    (both old c.put-2.new.self c.put_signed-2.new.self _ _
    (both old c.put_signed.new.self c.put-2.new.self _ _
    (both old c.put.new.self c.put_signed.new.self _ _
    c.in_ok-put.ensures
    (same c.put.new.self c.put_signed.new.self _ _ c.in_ok-put_signed.ensures (ap signed_decimal from)))
    c.in_ok-put-2.ensures)
    (same c.put-2.new.self c.put_signed-2.new.self _ _ c.in_ok-put_signed-2.ensures (ap signed_decimal active)))
    c.put-3.ensures
