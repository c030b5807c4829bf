use Rattle.sig_audit.proofs.EachJudged.{guarded_is_judged_safe}
use Rattle.sig_audit.proofs.laws.guarded_is_judged_safe.Goals as goal

pub returns : goal.returns
returns c = guarded_is_judged_safe
