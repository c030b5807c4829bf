use Rattle.std.proofs.Common.{◌∙◌, ◌+◌, ◌++◌, ℕ, List, ap, append_assoc, arith, map, sym}
use Rattle.std.specs.List.{find}
use Rattle.sig_io.proofs.Drafts.{then}
use Rattle.trace_lines.specs.Lines.{LineOf, line_in}
use Rattle.trace_lines.specs.Table.{beside_text, is_numbered, rows_text, text_lines}
use Rattle.trace_lines.proofs.table.put_rows.Goals as goal

pub loop-rest-preserved : goal.loop-rest-preserved
loop-rest-preserved g c =
    let before = c.loop-rest.invariant in
    let lines : List LineOf = map line_in c.args.lines.now in
    let n = c.loop-rest.number in
    let row : List ℕ = beside_text (find (is_numbered n) lines) n c.cut_line.result.0.now in
    let behind : List ℕ = rows_text lines (n + 1) (text_lines c.cut_line.result.1.now) in (
      before.0 ++ row,
      then before.1 c.put_beside.ensures,
      append_assoc before.0 row behind
          ∙ ap (λ (t : List ℕ). before.0 ++ t) (sym (ap (λ ls. rows_text lines n ls) c.cut_line.ensures.lines))
          ∙ before.2,
      omega (arith, before.3, c.cut_line.ensures.shorter),
    )
