use Rattle.std.proofs.Common.{◌≡◌, map, take, length}
use Rattle.sig_types.specs.LogForm.{letter}
use Rattle.signal_log.proofs.rows.first_letters.Given as goal

abbrev pub invariant-loop-place : goal.invariant-loop-place
invariant-loop-place l = record {
  written : take l.place l.letters ≡ map letter (take l.place l.aspects);
  length : length l.letters ≡ 16;
}
