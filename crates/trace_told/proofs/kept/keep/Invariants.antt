use Rattle.std.proofs.Common.{◌≡◌, map, take, drop, length}
use Rattle.trace_told.specs.Listing.{kept_anew}
use Rattle.trace_told.proofs.kept.keep.Given as goal

abbrev pub invariant-loop-place : goal.invariant-loop-place
invariant-loop-place l =
    (length l.kept.items ≡ length l.fn.kept.items)
    × (take l.place l.kept.items ≡ map (kept_anew l.vm.store) (take l.place l.fn.kept.items))
    × (drop l.place l.kept.items ≡ drop l.place l.fn.kept.items)
