use Rattle.std.proofs.Common.{arith, ap}
use Rattle.pua_lines.specs.Kinds.{place_value}
use Rattle.pua_lines.specs.Parts.{PlaceOf}
use Rattle.pua_lines.proofs.OtherLines.{behind_at_start, behind_here, behind_nowhere, behind_step}
use Rattle.pua_lines.proofs.PartLines.{rest_within}
use Rattle.pua_lines.proofs.behind.section_behind_end.Goals as goal

pub loop-rest-init : goal.loop-rest-init
loop-rest-init c =
    let at = c.start-place.ensures in
    let number = ap (λ (p : PlaceOf). p.number) at in
    let stages = ap (λ (p : PlaceOf). p.stages) at in
    let interstages = ap (λ (p : PlaceOf). p.interstages) at in (
      rw at (behind_at_start c.args.text.now c.without_mark-rest.result.now c.without_mark-rest.ensures),
      omega (arith, number, rest_within c.args.text.now c.without_mark-rest.result.now c.without_mark-rest.ensures),
      omega (arith, number, stages),
      omega (arith, number, interstages),
    )

pub returns-then-is_behind_end : goal.returns-then-is_behind_end
returns-then-is_behind_end c =
    behind_here c.args.text.now c.loop-rest.rest.now (place_value c.loop-rest.place) (place_value c.next-place.result)
    c.first_line.result.0.now c.first_line.result.1.now c.first_spot.result c.loop-rest.invariant.0 c.first_line.ensures.lines
    c.next-place.ensures.place c.if-is_behind_end.ensures c.first_spot.ensures

pub loop-rest-preserved : goal.loop-rest-preserved
loop-rest-preserved c = (
  behind_step c.args.text.now c.loop-rest.rest.now (place_value c.loop-rest.place) (place_value c.next-place.result)
      c.first_line.result.0.now c.first_line.result.1.now c.loop-rest.invariant.0 c.first_line.ensures.lines
      c.next-place.ensures.place c.if-is_behind_end.ensures,
  omega (arith, c.loop-rest.invariant.1, c.next-place.ensures.number, c.first_line.ensures.rest),
  c.next-place.ensures.stages,
  c.next-place.ensures.interstages,
)

pub returns : goal.returns
returns c =
    behind_nowhere c.args.text.now c.loop-rest.rest.now (place_value c.loop-rest.place) c.loop-rest.invariant.0 c.loop-rest-test.ensures
