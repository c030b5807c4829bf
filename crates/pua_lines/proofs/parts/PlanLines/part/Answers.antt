use Rattle.std.proofs.Common.{◌∙◌}
use Rattle.pua_lines.specs.Parts.{ArePlacesIn}
use Rattle.pua_lines.proofs.PartLines.{spot_told}
use Rattle.pua_lines.proofs.parts.PlanLines.part.Goals as goal

pub returns : goal.returns
unfolding ArePlacesIn
returns c = λ plan text are.
    spot_told plan text c.args.wanted c.as_slice-parts.result.now c.spot_among.result c.spot_among.ensures
    (c.as_slice-parts.ensures.value ∙ are)
