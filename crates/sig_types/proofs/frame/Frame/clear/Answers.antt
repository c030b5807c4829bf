use Rattle.std.proofs.Common.{◌∙◌, ap, sym, arith, replicate}
use Rattle.sig_types.specs.Counts.{Counts}
use Rattle.sig_types.proofs.Zeros.{all_zero, first_same, get_or-zeros}
use Rattle.sig_types.proofs.frame.Frame.clear.Goals.{then-self-le-FEW, else-self-le-FEW}
use Rattle.sig_types.proofs.frame.Frame.clear.Goals as goal

pub returns : goal.returns
returns c =
    let before = c.self.inside in
    let none : Counts = replicate 64 (0, 0) in
    elim c.if-self-le-FEW.branch [
      | then-self-le-FEW w ↦ (
          let cleared = w.clear_few.ensures in
          let zero = first_same before.counts w.clear_few.new.counts none before.high 0 w.if-self-le-FEW.true (omega arith) c.self.invariant.3.after (λ p _. get_or-zeros 64 p)
          (λ p lt. cleared.first p lt ∙ sym (get_or-zeros 64 p)) cleared.rest in
          ap (λ s. s.counts) w.self-inside-is ∙ all_zero w.clear_few.new.counts (cleared.size ∙ c.self.invariant.0) (λ p. zero p ∙ get_or-zeros 64 p))
      | else-self-le-FEW w ↦ ap (λ s. s.counts) w.self-inside-is ∙ all_zero w.clear_span.new.counts (w.clear_span.ensures.size ∙ c.self.invariant.0) w.clear_span.ensures.zero
    ]
