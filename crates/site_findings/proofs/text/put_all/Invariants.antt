use Rattle.std.proofs.Common.{◌≡◌, ◌++◌}
use Rattle.site_findings.specs.Text.{first_parts}
use Rattle.site_findings.proofs.text.put_all.Given as goal

abbrev pub invariant-loop-i : goal.invariant-loop-i
invariant-loop-i l = l.text.bytes.items ≡ l.fn.text.bytes.items ++ first_parts l.names l.examined l.i
