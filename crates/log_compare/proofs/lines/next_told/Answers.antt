use Rattle.std.proofs.Common.{refl}
use Rattle.log_compare.proofs.Cuts.{nothing_fed}
use Rattle.log_compare.proofs.lines.next_told.Goals as goal

pub returns-then-is_empty : goal.returns-then-is_empty
returns-then-is_empty c = rw (nothing_fed c.args.text.now c.if-is_empty.ensures) refl
