use Rattle.std.proofs.Common.{◌++◌, ap, sym, refl, ◌∙◌, arith, append_assoc, get_or}
use Rattle.table_check.specs.Lines.{record_begins}
use Rattle.table_check.proofs.RecordPlaces.{before_within, line_within, rest_end, rest_ended, rest_more}
use Rattle.table_check.proofs.lines.record_begins.Goals as goal
use Rattle.table_check.proofs.lines.record_begins.Goals.{then-ends_piece+in_ok-put_begun, else-ends_piece}

pub loop-b-init : goal.loop-b-init
unfolding record_begins
loop-b-init c = rw c.new-begins.ensures.items (omega arith, omega arith, refl)

pub loop-b-preserved : goal.loop-b-preserved
loop-b-preserved c =
    let text = c.args.text.now in
    let i = c.loop-b.b-index in
    let before = c.loop-b.begins.items in
    let line = line_within c.loop-b.at (get_or text i 0) i c.loop-b.invariant.0 in
    let column = before_within c.loop-b.at (get_or text i 0) i c.loop-b.invariant.1 in
    elim c.if-ends_piece.branch [
      | then-ends_piece+in_ok-put_begun w ↦
          let ended = sym c.ends_piece.ensures ∙ w.if-ends_piece.true in
          let e = rest_ended text i c.loop-b.at c.loop-b.quoted c.loop-b.begun (omega arith) ended in
          let g = c.loop-b.invariant.2 ∙ (ap (λ ls. before ++ ls) e ∙ sym (append_assoc before _ _)) in
          rw (w.begins-is, w.begun-is, c.quoted_after-quoted.ensures, c.begin_after-at.ensures, w.in_ok-put_begun.ensures) (line, column, g)
      | else-ends_piece w ↦
          let ended = sym c.ends_piece.ensures ∙ w.if-ends_piece.false in
          let e = rest_more text i c.loop-b.at c.loop-b.quoted c.loop-b.begun (omega arith) ended in
          let g = c.loop-b.invariant.2 ∙ ap (λ ls. before ++ ls) e in
          rw (w.begins-is, w.begun-is, w.unwrap_or.ensures, c.quoted_after-quoted.ensures, c.begin_after-at.ensures) (line, column, g)
    ]

pub returns : goal.returns
returns c =
    let text = c.args.text.now in
    let e = rest_end text c.loop-b.b-index c.loop-b.at c.loop-b.quoted c.loop-b.begun (omega arith) in
    c.in_ok-put_begun-2.ensures ∙ sym (c.loop-b.invariant.2 ∙ ap (λ ls. c.loop-b.begins.items ++ ls) e)
