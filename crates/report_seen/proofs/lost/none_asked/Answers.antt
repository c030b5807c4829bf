use Rattle.std.proofs.Common.{None, arith}
use Rattle.std.proofs.lemmas.List.{get_or-replicate}
use Rattle.report_seen.proofs.lost.none_asked.Goals as goal

pub returns : goal.returns
returns c groups few g inside = get_or-replicate 64 g None None (omega (arith, few, inside))
