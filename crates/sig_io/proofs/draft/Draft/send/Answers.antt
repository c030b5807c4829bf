use Rattle.std.proofs.Common.{◌≡◌, length, arith, take}
use Rattle.std.proofs.lemmas.List.{append-nil, length-take-le}
use Rattle.std.proofs.lemmas.Grind.{common_steps}
use Rattle.sig_io.proofs.Drafts.{sent, cut_at}
use Rattle.sig_io.proofs.draft.Draft.send.Goals as goal

pub returns-in-Ok-clause-puts : goal.returns-in-Ok-clause-puts
returns-in-Ok-clause-puts g c = record {
  text = λ start text is.
      let was = rw c.if-self.false at (rw (← c.self.view_is) at is) in
      let count : length (take c.self.inside.len c.self.inside.buffer) ≡ c.self.inside.len
      = length-take-le c.self.inside.len c.self.inside.buffer (omega (arith, c.self.invariant)) in
      let done = sent _ _ _ _ c.saturating_add-self-inside.result _ _ was (grind (arith, common_steps)) c.in-Ok.ensures.ok in
      rw c.if-self.false (rw (← append-nil text) at done);
  cause = grind (arith, common_steps);
}

pub returns-in-Err-clause-puts : goal.returns-in-Err-clause-puts
returns-in-Err-clause-puts g c = record {
  text = λ start text is.
      let was = rw c.if-self.false at (rw (← c.self.view_is) at is) in
      rw (append-nil text) (cut_at _ _ _ _ c.saturating_add-self-inside-in-Err.result _ _ _ was (grind (arith, common_steps)) c.in-Err.ensures.fault.0 c.in-Err.ensures.fault.1);
  cause = grind (arith, common_steps);
}
