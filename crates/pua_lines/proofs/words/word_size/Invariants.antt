use Rattle.std.proofs.Common.{◌≡◌, ◌+◌, drop, not}
use Rattle.std.specs.List.{prefix_len}
use Rattle.pua_reader.specs.Words.{parts}
use Rattle.pua_lines.proofs.words.word_size.Given as goal

abbrev pub invariant-loop-i : goal.invariant-loop-i
invariant-loop-i l = prefix_len (λ b. not (parts l.keys b)) l.line ≡ l.i + prefix_len (λ b. not (parts l.keys b))
    (drop l.i l.line)
