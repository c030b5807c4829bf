use Rattle.site_findings.specs.Worst.{case_text}
use Rattle.site_findings.proofs.Putting.{both, both_ok}
use Rattle.site_findings.proofs.worst.put_case.Goals as goal

pub returns : goal.returns
unfolding case_text
returns c =
    let old = c.args.text.now in
    both_ok c.put-4.result old c.put_cause.new.text c.put-4.new.self _ _
    (both old c.put-3.new.self c.put_cause.new.text _ _
    (both old c.put_group.new.self c.put-3.new.self _ _
    (both old c.put-2.new.self c.put_group.new.self _ _
    (both old c.put_number.new.self c.put-2.new.self _ _
    (both old c.put.new.self c.put_number.new.self _ _
    c.in_ok-put.ensures
    c.in_ok-put_number.ensures)
    c.in_ok-put-2.ensures)
    c.in_ok-put_group.ensures)
    c.in_ok-put-3.ensures)
    c.in_ok-put_cause.ensures)
    c.put-4.ensures
