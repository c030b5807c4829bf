use Rattle.junction_run.proofs.audit_text.put_end.Goals as goal

pub put_turn-requires : goal.put_turn-requires
put_turn-requires g c = c.requires c.in-Refused.t c.in-Refused.turn c.in-Refused.is
