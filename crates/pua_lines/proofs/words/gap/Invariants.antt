use Rattle.std.proofs.Common.{◌≡◌, ◌+◌, drop}
use Rattle.std.specs.List.{prefix_len}
use Rattle.pua_reader.specs.Words.{parts}
use Rattle.pua_lines.proofs.words.gap.Given as goal

abbrev pub invariant-loop-i : goal.invariant-loop-i
invariant-loop-i l = prefix_len (parts l.keys) l.line ≡ l.i + prefix_len (parts l.keys) (drop l.i l.line)
