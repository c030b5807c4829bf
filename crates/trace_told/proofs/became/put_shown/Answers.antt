use Rattle.std.proofs.Common.{◌∙◌, ◌∷◌, [], ap}
use Rattle.sig_io.proofs.Drafts.{same_put, then}
use Rattle.sig_types.specs.declared.aspect.Aspect.{Aspect}
use Rattle.sig_types.specs.LogForm.{letter}
use Rattle.trace_told.proofs.became.put_shown.Goals as goal

pub returns-in-Some : goal.returns-in-Some
returns-in-Some g c =
    rw c.in-Some.is (then c.put.ensures
    (then (same_put (c.letter.ensures.letter ∙ ap (λ (x : Aspect). letter x ∷ []) c.get.ensures) c.put-in-Some.ensures) c.put_turns.ensures))
