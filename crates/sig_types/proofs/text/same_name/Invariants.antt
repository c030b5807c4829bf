use Rattle.std.proofs.Common.{◌≡◌, drop}
use Rattle.sig_types.specs.Text.{same_name}
use Rattle.sig_types.proofs.text.same_name.Given as goal

abbrev pub invariant-loop-i : goal.invariant-loop-i
invariant-loop-i l = same_name l.x l.y ≡ same_name (drop l.i l.x) (drop l.i l.y)
