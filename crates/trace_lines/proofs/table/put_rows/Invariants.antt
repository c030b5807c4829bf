use Rattle.std.proofs.Common.{◌≡◌, ◌+◌, ◌++◌, ◌≤◌, ℕ, List, length, map}
use Rattle.sig_io.specs.Draft.{Puts}
use Rattle.trace_lines.specs.Lines.{line_in}
use Rattle.trace_lines.specs.Table.{rows_text, text_lines}
use Rattle.trace_lines.proofs.table.put_rows.Given as goal

abbrev pub invariant-loop-rest : goal.invariant-loop-rest
invariant-loop-rest g l = (done : List ℕ)
    × Puts g.O.Sink.taken g.O.Sink.faults l.fn.draft l.draft l.fn.out l.out done
    × (done ++ rows_text (map line_in l.lines) l.number (text_lines l.rest) ≡ rows_text (map line_in l.lines) 1 (text_lines l.text))
    × (l.number + length l.rest ≤ length l.text + 1)

abbrev pub decreases-loop-rest : goal.decreases-loop-rest
decreases-loop-rest g l = length l.rest
