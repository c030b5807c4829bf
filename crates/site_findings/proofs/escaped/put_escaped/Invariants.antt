use Rattle.std.proofs.Common.{◌≡◌, ◌++◌, take}
use Rattle.site_findings.specs.Escaped.{escaped}
use Rattle.site_findings.proofs.escaped.put_escaped.Given as goal

abbrev pub invariant-loop-b : goal.invariant-loop-b
invariant-loop-b l = l.text.bytes.items ≡ l.fn.text.bytes.items ++ escaped (take l.b-index l.bytes)
