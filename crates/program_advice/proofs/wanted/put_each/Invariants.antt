use Rattle.std.proofs.Common.{◌≡◌, ◌++◌, take}
use Rattle.program_advice.specs.Wanted.{each_part}
use Rattle.program_advice.proofs.wanted.put_each.Given as goal

-- so far put
abbrev pub invariant-loop-kind : goal.invariant-loop-kind
invariant-loop-kind l = l.text.items ≡ l.fn.text.items ++ each_part l.kinds (take l.kind-index l.kinds)
