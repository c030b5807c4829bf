use Rattle.std.proofs.Common.{rules}
use Rattle.vap_parse.specs.Kinds.{same_kind}
use Rattle.vap_parse.proofs.kind.same_kind.Goals as goal

pub returns : goal.returns
unfolding same_kind
returns c = search rules
