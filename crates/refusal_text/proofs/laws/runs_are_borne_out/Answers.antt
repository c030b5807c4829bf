use Rattle.refusal_text.proofs.Run as proof
use Rattle.refusal_text.proofs.laws.runs_are_borne_out.Goals as goal

pub returns : goal.returns
returns c = proof.runs_are_borne_out
