use Rattle.std.proofs.Common.{ℕ, List, ◌≤◌, take}
use Rattle.sig_io.specs.Draft.{Puts}
use Rattle.code_file.specs.Text.{values_text}
use Rattle.code_file.proofs.writing.put_array.Given as goal

abbrev pub invariant-loop-i : goal.invariant-loop-i
invariant-loop-i g l = record {
  puts : Puts g.O.Sink.taken g.O.Sink.faults l.fn.draft l.draft l.fn.sink l.sink (values_text (take l.i l.values));
  some : 1 ≤ l.i;
}
