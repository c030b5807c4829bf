use Rattle.sig_types.proofs.Bytes.{names_differ}
use Rattle.sig_types.proofs.text.same_name.Goals as goal

pub returns-then-x-y : goal.returns-then-x-y
returns-then-x-y c = names_differ c.args.x.now c.args.y.now c.if-x-y.true
