use Rattle.laws.proofs.OneText.{text_once}
use Rattle.laws.proofs.programs.one_text.Goals as goal

pub returns : goal.returns
returns c = text_once c.one_program.ensures.one c.one_answer.ensures.tokens
