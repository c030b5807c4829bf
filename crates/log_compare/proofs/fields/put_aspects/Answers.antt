use Rattle.std.proofs.Common.{arith}
use Rattle.sig_io.proofs.Drafts.{same_put, then}
use Rattle.log_compare.proofs.Aspects.{aspects_more, no_letter, no_other_letter}
use Rattle.log_compare.proofs.fields.put_aspects.Goals as goal
use Rattle.log_compare.proofs.fields.put_aspects.Goals.{then-place-one+then-place-other, else-place-one, else-place-one-via-then-place-one+else-place-other, else-place-one-via-else-place-one}

pub loop-place-preserved : goal.loop-place-preserved
loop-place-preserved g c =
    let k = c.args.second in
    let names = c.args.names.now in
    let one = c.args.one.now in
    let other = c.args.other.now in
    let n = c.loop-place.place in
    elim c.if-place-one.branch [
      | then-place-one+then-place-other w ↦ rw (w.draft-is, w.sink-is)
          (same_put (aspects_more k names one other n c.index-names-place.result c.loop-place-test.true (omega (arith, w.if-place-one.true))
          (omega (arith, w.if-place-other.true)) c.index-names-place.is) (then c.loop-place.invariant w.put_aspect.ensures))
      | else-place-one w ↦ elim w.else-place-one.branch [
        | else-place-one-via-then-place-one+else-place-other v ↦ rw (w.draft-is, w.sink-is)
            (same_put (no_other_letter k names one other n (omega (arith, v.if-place-other.false))) c.loop-place.invariant)
        | else-place-one-via-else-place-one v ↦ rw (w.draft-is, w.sink-is)
            (same_put (no_letter k names one other n (omega (arith, v.if-place-one.false))) c.loop-place.invariant)
      ]
    ]
