use Rattle.refusal_text.proofs.AnyPast as proof
use Rattle.refusal_text.proofs.laws.any_past_says_the_same.Goals as goal

pub returns : goal.returns
returns c = proof.any_past_says_the_same
