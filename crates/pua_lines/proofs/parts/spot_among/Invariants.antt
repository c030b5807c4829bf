use Rattle.std.proofs.Common.{◌≡◌, drop}
use Rattle.std.specs.List.{find}
use Rattle.pua_lines.specs.Parts.{same_part}
use Rattle.pua_lines.proofs.parts.spot_among.Given as goal

abbrev pub invariant-loop-i : goal.invariant-loop-i
invariant-loop-i l = find (λ p. same_part p.part l.wanted) l.parts ≡ find (λ p. same_part p.part l.wanted) (drop l.i l.parts)
