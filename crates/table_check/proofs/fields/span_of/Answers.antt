use Rattle.std.proofs.Common.{refl, arith}
use Rattle.table_check.specs.Fields.{spans_of}
use Rattle.table_check.proofs.fields.span_of.Goals as goal

pub loop-i-init : goal.loop-i-init
unfolding spans_of
loop-i-init c = (omega arith, refl)
