use Rattle.std.proofs.Common.{◌≡◌, ◌+◌, drop, not}
use Rattle.std.specs.List.{prefix_len}
use Rattle.line_slips.specs.Bytes.{is_blank}
use Rattle.line_slips.proofs.bytes.behind_word.Given as goal

abbrev pub invariant-loop-i : goal.invariant-loop-i
invariant-loop-i l = prefix_len (λ b. not (is_blank b)) l.line ≡ l.i + prefix_len (λ b. not (is_blank b)) (drop l.i l.line)
