use Rattle.std.proofs.Common.{◌≡◌, ◌++◌, map, take}
use Rattle.program_advice.specs.Bytes.{shown_byte}
use Rattle.program_advice.proofs.bytes.put_shown.Given as goal

-- so far put
abbrev pub invariant-loop-b : goal.invariant-loop-b
invariant-loop-b l = l.text.items ≡ l.fn.text.items ++ map shown_byte (take l.b-index l.bytes)
