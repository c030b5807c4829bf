use Rattle.std.proofs.Common.{ap, subst}
use Rattle.std.specs.Fmt.{decimal}
use Rattle.std.specs.Result.{OnOk}
use Rattle.site_findings.specs.Put.{Puts}
use Rattle.site_findings.specs.Warnings.{same_text}
use Rattle.site_findings.proofs.Putting.{both, both_ok, same}
use Rattle.site_findings.proofs.warned.put_same.Goals as goal

pub returns : goal.returns
unfolding same_text
returns c =
    let old = c.args.text.now in
    both_ok c.put_number-2.result old c.put-2.new.self c.put_number-2.new.self _ _
    (both old c.put_number.new.self c.put-2.new.self _ _
    (both old c.put.new.self c.put_number.new.self _ _
    c.in_ok-put.ensures
    (same c.put.new.self c.put_number.new.self _ _ c.in_ok-put_number.ensures (ap decimal c.from.ensures)))
    c.in_ok-put-2.ensures)
    (subst (λ n. OnOk c.put_number-2.result (Puts c.put-2.new.self c.put_number-2.new.self (decimal n))) c.from-2.ensures c.put_number-2.ensures)
