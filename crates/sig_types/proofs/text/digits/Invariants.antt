use Rattle.std.proofs.Common.{◌≡◌, ◌+◌, ◌*◌, ◌≤◌, drop}
use Rattle.sig_types.specs.Text.{value_from, all_digits}
use Rattle.sig_types.proofs.text.digits.Given as goal

abbrev pub invariant-loop-b : goal.invariant-loop-b
invariant-loop-b l =
    (value_from 0 l.bytes ≡ value_from l.value (drop l.b-index l.bytes))
    × (all_digits l.bytes ≡ all_digits (drop l.b-index l.bytes))
    × (l.value ≤ 10 * l.most + 9)
