use Rattle.std.proofs.Common.{rules, arith, IsOk, inl, inr}
use Rattle.sig_io.proofs.memory.MemSinkSink.write_some.Goals as goal
use Rattle.sig_io.proofs.memory.MemSinkSink.write_some.Goals.{then-n-gt0+then-not-contains+else-is_ok, else-n-gt0, else-n-gt0-via-then-n-gt0+else-not-contains, else-n-gt0-via-else-n-gt0}

pub returns-clause-fails : goal.returns-clause-fails
returns-clause-fails c = elim c.if-n-gt0.branch [
  | then-n-gt0+then-not-contains+else-is_ok w ↦
      let ok : IsOk w.extend_from_slice.result = w.extend_from_slice.ensures.succeeds (search (rules, arith)) in absurd (search (rules, ok))
  | else-n-gt0 w ↦ elim w.else-n-gt0.branch [ else-n-gt0-via-then-n-gt0+else-not-contains w' ↦ inl (search rules) | else-n-gt0-via-else-n-gt0 w' ↦ inr (search rules) ]
]
