use Rattle.std.proofs.Common.{◌++◌, map, ap, sym, ◌∙◌, arith, append_assoc}
use Rattle.table_check.proofs.Pieces.{rest_of-ended, rest_of-end, rest_of-more}
use Rattle.table_check.proofs.lines.records_in.Goals as goal
use Rattle.table_check.proofs.lines.records_in.Goals.{then-ends_piece+in_ok-put_piece, else-ends_piece}

pub loop-i-preserved : goal.loop-i-preserved
loop-i-preserved c =
    let text = c.args.text.now in
    elim c.if-ends_piece.branch [
      | then-ends_piece+in_ok-put_piece w ↦
          let ended = sym c.ends_piece.ensures ∙ w.if-ends_piece.true in
          let e = rest_of-ended text c.loop-i.from c.loop-i.i c.loop-i.quoted (omega arith) (omega arith) ended in
          let before = map (λ r. r.now) c.loop-i.records.items in
          let g = c.loop-i.invariant.1 ∙ (ap (λ ps. before ++ ps) e ∙ sym (append_assoc before _ _)) in
          (omega arith, rw (w.records-is, w.from-is, c.quoted_after-quoted.ensures, w.in_ok-put_piece.ensures) g)
      | else-ends_piece w ↦
          let ended = sym c.ends_piece.ensures ∙ w.if-ends_piece.false in
          let e = rest_of-more text c.loop-i.from c.loop-i.i c.loop-i.quoted (omega arith) (omega arith) ended in
          let before = map (λ r. r.now) c.loop-i.records.items in
          let g = c.loop-i.invariant.1 ∙ ap (λ ps. before ++ ps) e in
          (omega arith, rw (w.records-is, w.from-is, c.quoted_after-quoted.ensures) g)
    ]

pub returns : goal.returns
returns c =
    let text = c.args.text.now in
    let before = map (λ r. r.now) c.loop-i.records.items in
    let e = rest_of-end text c.loop-i.from c.loop-i.i c.loop-i.quoted (omega arith) in
    c.in_ok-put_piece-2.ensures ∙ sym (c.loop-i.invariant.1 ∙ ap (λ ps. before ++ ps) e)
