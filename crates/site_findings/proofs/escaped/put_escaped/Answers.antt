use Rattle.site_findings.proofs.JsonBytes.{bytes_more}
use Rattle.site_findings.proofs.escaped.put_escaped.Goals as goal

pub loop-b-preserved : goal.loop-b-preserved
loop-b-preserved c =
    bytes_more c.args.bytes.now c.loop-b.b-index c.args.text.now c.loop-b.text c.put_escaped_byte.new.text c.loop-b-test.true
    c.loop-b.invariant c.in_ok-put_escaped_byte.ensures
