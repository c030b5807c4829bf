use Rattle.std.proofs.Common.{◌∙◌, ap, sym}
use Rattle.std.proofs.lemmas.List.{ext_get_or}
use Rattle.sig_types.proofs.Zeros.{first_same}
use Rattle.sig_types.proofs.frame.Frame.copy_from.Goals.{then-self-le-FEW+then-other-le-FEW, else-self-le-FEW}
use Rattle.sig_types.proofs.frame.Frame.copy_from.Goals as goal

pub returns-clause-counts : goal.returns-clause-counts
returns-clause-counts c =
    let before = c.self.inside in
    let other = c.other.inside in
    elim c.if-self-le-FEW.branch [
      | then-self-le-FEW+then-other-le-FEW w ↦ (
          let copied = w.copy_few.ensures in
          let same = first_same before.counts w.copy_few.new.counts other.counts before.high other.high w.if-self-le-FEW.true w.if-other-le-FEW.true
          c.self.invariant.3.after c.other.invariant.3.after copied.first copied.rest in
          ap (λ s. s.counts) w.self-inside-is
          ∙ ext_get_or (0, 0) w.copy_few.new.counts other.counts (copied.size ∙ c.self.invariant.0 ∙ sym c.other.invariant.0) (λ p _. same p)
          ∙ c.other.view_is)
      | else-self-le-FEW w ↦ (
          let copied = w.copy_span.ensures in
          ap (λ s. s.counts) w.self-inside-is
          ∙ ext_get_or (0, 0) w.copy_span.new.counts other.counts (copied.size ∙ w.clear_span.ensures.size ∙ c.self.invariant.0 ∙ sym c.other.invariant.0) (λ p _. copied.same p)
          ∙ c.other.view_is)
    ]
