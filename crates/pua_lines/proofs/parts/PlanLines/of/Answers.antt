use Rattle.std.proofs.Common.{arith, ap}
use Rattle.pua_lines.specs.Kinds.{place_value}
use Rattle.pua_lines.specs.Parts.{PlaceOf, ArePlacesIn}
use Rattle.pua_lines.proofs.PartLines.{parts_at_start, parts_step, parts_at_last, rest_within}
use Rattle.pua_lines.proofs.parts.PlanLines.of.Goals as goal

pub loop-rest-init : goal.loop-rest-init
loop-rest-init c =
    let at = c.start-place.ensures in
    let number = ap (λ (p : PlaceOf). p.number) at in
    let stages = ap (λ (p : PlaceOf). p.stages) at in
    let interstages = ap (λ (p : PlaceOf). p.interstages) at in (
      rw at (parts_at_start c.args.plan.now c.args.text.now c.without_mark-rest.result.now c.new.result.items
          c.without_mark-rest.ensures c.new.ensures.items),
      omega (arith, number, rest_within c.args.text.now c.without_mark-rest.result.now c.without_mark-rest.ensures),
      omega (arith, number, stages),
      omega (arith, number, interstages),
    )

pub loop-rest-preserved : goal.loop-rest-preserved
loop-rest-preserved c = (
  parts_step c.args.plan.now c.args.text.now c.loop-rest.rest.now c.loop-rest.lines.parts.items c.note.new.self.parts.items
      (place_value c.loop-rest.place) (place_value c.next-place.result) c.first_line.result.0.now c.first_line.result.1.now
      c.loop-rest.invariant.0 c.first_line.ensures.lines c.next-place.ensures.place c.in_ok-note.ensures,
  omega (arith, c.loop-rest.invariant.1, c.next-place.ensures.number, c.first_line.ensures.rest),
  c.next-place.ensures.stages,
  c.next-place.ensures.interstages,
)

pub returns : goal.returns
unfolding ArePlacesIn
returns c =
    parts_at_last c.args.plan.now c.args.text.now c.loop-rest.rest.now c.loop-rest.lines.parts.items
    (place_value c.loop-rest.place)
    c.loop-rest.invariant.0 c.loop-rest-test.ensures
