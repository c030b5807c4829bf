use Rattle.std.proofs.Common.{◌≡◌, replicate, None}
use Rattle.code_verify.proofs.tables.nothing_brought.Given as goal

abbrev pub invariant-loop-place : goal.invariant-loop-place
invariant-loop-place l = l.brought.items ≡ replicate l._place None
