use Rattle.sig_audit.proofs.EachJudged.{each_has_verdict}
use Rattle.sig_audit.proofs.laws.each_has_a_verdict.Goals as goal

pub returns : goal.returns
returns c = each_has_verdict
