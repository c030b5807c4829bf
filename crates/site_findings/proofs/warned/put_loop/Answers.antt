use Rattle.site_findings.specs.Warnings.{loop_text}
use Rattle.site_findings.proofs.Putting.{both, both_ok, same}
use Rattle.site_findings.proofs.warned.put_loop.Goals as goal

pub returns : goal.returns
unfolding loop_text
returns c =
    let old = c.args.text.now in
    both_ok c.put-3.result old c.put-2.new.self c.put-3.new.self _ _
    (both old c.put.new.self c.put-2.new.self _ _
    c.in_ok-put.ensures
    (same c.put.new.self c.put-2.new.self _ _ c.in_ok-put-2.ensures c.bytes.ensures.bytes))
    c.put-3.ensures
