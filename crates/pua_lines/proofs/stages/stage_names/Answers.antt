use Rattle.std.proofs.Common.{arith, ap, map}
use Rattle.pua_lines.specs.Kinds.{place_value}
use Rattle.pua_lines.specs.Parts.{PlaceOf}
use Rattle.pua_lines.proofs.OtherLines.{names_at_start, names_step, names_at_last}
use Rattle.pua_lines.proofs.PartLines.{rest_within}
use Rattle.pua_lines.proofs.stages.stage_names.Goals as goal

pub loop-rest-init : goal.loop-rest-init
loop-rest-init c =
    let at = c.start-place.ensures in
    let number = ap (λ (p : PlaceOf). p.number) at in
    let stages = ap (λ (p : PlaceOf). p.stages) at in
    let interstages = ap (λ (p : PlaceOf). p.interstages) at in (
      rw at (names_at_start c.args.text.now c.without_mark-rest.result.now (map (λ v. v.items) c.new-names.result.items)
          c.without_mark-rest.ensures (ap (map (λ v. v.items)) c.new-names.ensures.items)),
      omega (arith, number, rest_within c.args.text.now c.without_mark-rest.result.now c.without_mark-rest.ensures),
      omega (arith, number, stages),
      omega (arith, number, interstages),
    )

pub loop-rest-preserved : goal.loop-rest-preserved
loop-rest-preserved c = (
  names_step c.args.text.now c.loop-rest.rest.now (map (λ v. v.items) c.loop-rest.names.items)
      (map (λ v. v.items) c.note_stage.new.names.items)
      (place_value c.loop-rest.place) (place_value c.next-place.result) c.first_line.result.0.now c.first_line.result.1.now
      c.loop-rest.invariant.0 c.first_line.ensures.lines c.next-place.ensures.place c.in_ok-note_stage.ensures,
  omega (arith, c.loop-rest.invariant.1, c.next-place.ensures.number, c.first_line.ensures.rest),
  c.next-place.ensures.stages,
  c.next-place.ensures.interstages,
)

pub returns : goal.returns
returns c =
    names_at_last c.args.text.now c.loop-rest.rest.now (map (λ v. v.items) c.loop-rest.names.items)
    (place_value c.loop-rest.place)
    c.loop-rest.invariant.0 c.loop-rest-test.ensures
