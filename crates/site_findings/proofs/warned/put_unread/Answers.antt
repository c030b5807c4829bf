use Rattle.std.proofs.Common.{ap}
use Rattle.std.specs.Fmt.{decimal}
use Rattle.site_findings.specs.Warnings.{unread_text}
use Rattle.site_findings.proofs.Putting.{both, both_ok, same}
use Rattle.site_findings.proofs.warned.put_unread.Goals as goal

pub returns : goal.returns
unfolding unread_text
returns c =
    let old = c.args.text.now in
    both_ok c.put-2.result old c.put_number.new.self c.put-2.new.self _ _
    (both old c.put.new.self c.put_number.new.self _ _
    c.in_ok-put.ensures
    (same c.put.new.self c.put_number.new.self _ _ c.in_ok-put_number.ensures (ap decimal c.from.ensures)))
    c.put-2.ensures
