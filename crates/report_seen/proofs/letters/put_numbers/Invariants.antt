use Rattle.std.proofs.Common.{◌≡◌, ◌++◌, []}
use Rattle.sig_io.specs.Draft.{Puts}
use Rattle.report_seen.specs.Letters.{free_to, name_text, numbers_to}
use Rattle.report_seen.proofs.letters.put_numbers.Given as goal

abbrev pub invariant-loop-place : goal.invariant-loop-place
invariant-loop-place g l = record {
  puts : Puts g.O.Sink.taken g.O.Sink.faults l.fn.draft l.draft l.fn.sink l.sink (name_text l.block.margin [] ++ numbers_to l.block.first l.place);
  free : l.free ≡ free_to l.block.first l.place;
}
