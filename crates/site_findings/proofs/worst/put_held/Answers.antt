use Rattle.site_findings.specs.Worst.{held_text}
use Rattle.site_findings.proofs.Putting.{both, both_ok}
use Rattle.site_findings.proofs.worst.put_held.Goals as goal

pub returns : goal.returns
unfolding held_text
returns c =
    let old = c.args.text.now in
    both_ok c.put-2.result old c.put_group.new.self c.put-2.new.self _ _
    (both old c.put.new.self c.put_group.new.self _ _ c.in_ok-put.ensures c.in_ok-put_group.ensures)
    c.put-2.ensures
