use Rattle.std.proofs.Common.{◌≡◌, ◌<◌, ◌∙◌, ap, arith, get_or, length, min, take}
use Rattle.site_findings.specs.Text.{alike_in}
use Rattle.site_findings.proofs.Parts.{parts_more}
use Rattle.site_findings.proofs.text.put_all.Goals as goal

pub loop-i-preserved : goal.loop-i-preserved
loop-i-preserved c =
    let items = c.args.examined.now.findings.items in
    let i = c.loop-i.i in
    let finding = c.finding-item.result in
    let same = c.deref-finding-items.ensures.value in
    let below : i < length items = omega (arith, ap length same, c.loop-i-test.true) in
    let is : finding ≡ get_or items i finding = c.finding-item.is ∙ ap (λ xs. get_or xs i finding) same in
    let alike : c.alike_before-before.result ≡ min (alike_in finding (take i items)) 9 =
    c.alike_before-before.ensures ∙ ap (λ xs. min (alike_in finding (take i xs)) 9) c.deref.ensures.value in
    parts_more c.args.names.now c.args.examined.now i finding c.alike_before-before.result c.loop-i.text c.put_turn.new.text c.args.text.now.bytes.items below is alike
    c.loop-i.invariant c.in_ok-put_turn.ensures
