use Rattle.std.proofs.Common.{◌≡◌, ◌≤◌, ◌+◌, arith, length, refl}
use Rattle.std.specs.Prelude.{min}
use Rattle.log_sums.specs.Parts.{begin_of, end_of}
use Rattle.log_sums.proofs.Over.{same_part}
use Rattle.log_sums.proofs.parts.take_part.Goals as goal
use Rattle.log_sums.proofs.parts.take_part.Goals.{else-parts-rec-via-then-parts-rec+else-parts, else-parts-rec-via-else-parts-rec}

pub returns : goal.returns
returns c = λ groups from each to serves records few some wide next small is.
    let old = c.args.parts.now in
    let k = length old.over.items in
    let last : old.current.to ≡ end_of from each to k = is.current_is.to_is in
    let enough : min to (length records + 1) ≤ end_of from each to k =
    elim c.else-parts-rec.branch [
      | else-parts-rec-via-then-parts-rec+else-parts w ↦ omega (arith, w.if-parts.false, last, is.to_is)
      | else-parts-rec-via-else-parts-rec w ↦ omega (arith, w.if-parts-rec.false, last, next)
    ] in
    same_part groups from each to serves records c.args.rec.now old _ is refl refl refl enough
    (c.in_ok-take_record.ensures.sums groups (begin_of from each k) (end_of from each to k) records wide next small is.current_is) c.in_ok-take_record.ensures.serves
