use Rattle.std.proofs.Common.{◌≡◌, map, take, None}
use Rattle.std.specs.Option.{option_map}
use Rattle.sig_io.specs.Draft.{Puts}
use Rattle.log_compare.specs.Rows.{row_in}
use Rattle.log_compare.specs.Sides.{row_before, side_in, sides_from}
use Rattle.log_compare.proofs.sides.put_sides.Given as goal

abbrev pub invariant-loop-side : goal.invariant-loop-side
invariant-loop-side g l = record {
  puts : Puts g.O.Sink.taken g.O.Sink.faults l.fn.draft l.draft l.fn.sink l.sink (sides_from None (map side_in (take l.side-index l.sides)));
  before : option_map row_in l.before ≡ row_before None (map side_in (take l.side-index l.sides));
}
