use Rattle.std.proofs.Common.{◌≡◌, length, map, string_bytes}
use Rattle.trace_call.specs.Form.{are_added}
use Rattle.trace_call.proofs.form.are_added.Given as goal

abbrev pub invariant-loop-rest : goal.invariant-loop-rest
invariant-loop-rest l = are_added (map string_bytes l.rest) ≡ are_added (map string_bytes l.words)

abbrev pub decreases-loop-rest : goal.decreases-loop-rest
decreases-loop-rest l = length l.rest
