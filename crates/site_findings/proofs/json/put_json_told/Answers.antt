use Rattle.site_findings.specs.Json.{json_told}
use Rattle.site_findings.proofs.Putting.{both, both_ok}
use Rattle.site_findings.proofs.json.put_json_told.Goals as goal

pub returns : goal.returns
unfolding json_told
returns c =
    let old = c.args.text.now in
    both_ok c.put-6.result old c.put_json-3.new.text c.put-6.new.self _ _
    (both old c.put-5.new.self c.put_json-3.new.text _ _
    (both old c.put_json-2.new.text c.put-5.new.self _ _
    (both old c.put-4.new.self c.put_json-2.new.text _ _
    (both old c.put_json.new.text c.put-4.new.self _ _
    (both old c.put-3.new.self c.put_json.new.text _ _
    (both old c.put-2.new.self c.put-3.new.self _ _
    (both old c.put.new.self c.put-2.new.self _ _
    c.in_ok-put.ensures
    c.in_ok-put-2.ensures)
    c.in_ok-put-3.ensures)
    c.in_ok-put_json.ensures)
    c.in_ok-put-4.ensures)
    c.in_ok-put_json-2.ensures)
    c.in_ok-put-5.ensures)
    c.in_ok-put_json-3.ensures)
    c.put-6.ensures
