use Rattle.std.proofs.Common.{◌≡◌, ◌+◌, ◌++◌, map, take, length}
use Rattle.sig_types.specs.LogForm.{letter}
use Rattle.signal_log.proofs.rows.put_letters.Given as goal

abbrev pub invariant-loop-place : goal.invariant-loop-place
invariant-loop-place l = record {
  written : take l.at l.row ≡ take l.fn.at l.fn.row ++ map letter (take l.place l.picture);
  place : l.at ≡ l.fn.at + l.place;
  length : length l.row ≡ length l.fn.row;
}
