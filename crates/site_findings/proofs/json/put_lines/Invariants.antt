use Rattle.std.proofs.Common.{◌≡◌, ◌++◌, take}
use Rattle.site_findings.specs.Json.{json_lines}
use Rattle.site_findings.proofs.json.put_lines.Given as goal

abbrev pub invariant-loop-finding : goal.invariant-loop-finding
invariant-loop-finding l =
    l.text.bytes.items ≡ l.fn.text.bytes.items ++ json_lines l.names l.examined (take l.finding-index l.examined.findings.items)
