use Rattle.std.proofs.Common.{◌≡◌, ◌<◌, ℕ, List, None, length, slice_index_or, false}
use Rattle.std.specs.Prelude.{All, is_none}
use Rattle.pua_model.specs.Plan.{PlanOf}
use Rattle.sig_tables.specs.Records.{Row}
use Rattle.tenth_tables.specs.Times.{IsRow, times_below}
use Rattle.tenth_tables.specs.Held.{HoldsTimes}
use Rattle.tenth_tables.proofs.times_reader.complete.Given as goal

abbrev pub invariant-loop-g : goal.invariant-loop-g
invariant-loop-g l = record {
  size : length l.times.items ≡ l.g;
  range : (plan : PlanOf) (rows : List Row) → HoldsTimes plan rows l.held → All IsRow l.times.items;
  same : (plan : PlanOf) (rows : List Row) → HoldsTimes plan rows l.held → l.times.items ≡ times_below plan rows l.g;
  full : (j : ℕ) → j < l.g → is_none (slice_index_or l.held j None) ≡ false;
}
