use Rattle.std.proofs.Common.{refl}
use Rattle.site_findings.proofs.sentences.of_pua.Goals as goal

pub returns-in-Row : goal.returns-in-Row
returns-in-Row c = rw c.in-Row.is refl
