use Rattle.std.proofs.Common.{◌≡◌, map, take}
use Rattle.trace_told.specs.Listing.{column_of}
use Rattle.trace_told.proofs.kept.room_for.Given as goal

abbrev pub invariant-loop-column : goal.invariant-loop-column
invariant-loop-column l = map column_of l.kept.items ≡ take l.column-index l.columns
