use Rattle.std.proofs.Common.{◌-◌, inl, inr, arith, eq-zero-or-pos}
use Rattle.std.proofs.lemmas.Bool.{leb-true}
use Rattle.signal_log.proofs.Lists.{counted_none}
use Rattle.signal_log.proofs.log.is_silent.Goals as goal

pub returns : goal.returns
returns c = λ empty.
    let low = c.span-low.result.0 in
    let high = c.span-low.result.1 in
    let outside = c.span-low.ensures.outside in
    let crossed = leb-true high low empty in
    counted_none 1 c.args.frame.now (λ p. elim (eq-zero-or-pos (high - p)) [
      | inl past ↦ outside.after p (omega (arith, past))
      | inr within ↦ outside.before p (omega (arith, within, crossed))
    ])
