use Rattle.std.proofs.Common.{◌≡◌, drop}
use Rattle.sig_types.specs.Text.{all_digits}
use Rattle.sig_types.proofs.text.all_digits.Given as goal

abbrev pub invariant-loop-b : goal.invariant-loop-b
invariant-loop-b l = all_digits l.bytes ≡ all_digits (drop l.b-index l.bytes)
