use Rattle.std.proofs.Common.{◌≡◌, ◌<◌, ◌∙◌, ap, arith, get_or, length}
use Rattle.site_findings.proofs.JsonBytes.{lines_more}
use Rattle.site_findings.proofs.json.put_lines.Goals as goal

pub loop-finding-preserved : goal.loop-finding-preserved
loop-finding-preserved c =
    let items = c.args.examined.now.findings.items in
    let i = c.loop-finding.finding-index in
    let finding = c.finding-item.result in
    let same = c.deref-finding-items.ensures.value in
    let below : i < length items = omega (arith, ap length same, c.loop-finding-test.true) in
    let is : finding ≡ get_or items i finding = c.finding-item.is ∙ ap (λ xs. get_or xs i finding) same in
    lines_more c.args.names.now c.args.examined.now items i finding c.loop-finding.text c.put_json_line.new.text c.args.text.now.bytes.items
    below is c.loop-finding.invariant c.in_ok-put_json_line.ensures
