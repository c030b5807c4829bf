use Rattle.std.proofs.Common.{◌≡◌, ◌∙◌, ◌<◌, ◌==◌, ◌%◌, ◌++◌, ◌∷◌, [], ℕ, List, length, set, take, sym, ap, arith, add-one}
use Rattle.std.proofs.lemmas.List.{length-set, take-set, take_more_set}
use Rattle.std.proofs.lemmas.List.Elements.{All-set}
use Rattle.rand_pcg.specs.Pcg.{pcg32}
use Rattle.junction_run.specs.Drawn.{after_words, after_frame, places_from, places_to}
use Rattle.junction_run.proofs.Drawing.{after_words-more, places_to-silent, places_to-vehicle}
use Rattle.junction_run.proofs.draw.draw_places.Goals as goal
use Rattle.junction_run.proofs.draw.draw_places.Goals.{then-draw_vehicle, else-draw_vehicle}

pub loop-place-preserved : goal.loop-place-preserved
loop-place-preserved c =
    let i = c.loop-place.invariant in
    let place = c.loop-place.place in
    let count = c.loop-place.count in
    let after : List ℕ = set c.loop-place.places count place in
    let g = c.args.generator.now in
    let room : count < length c.loop-place.places = omega (arith, i.few, i.size, c.loop-place-test.true) in
    let here : c.draw_vehicle.result ≡ ((pcg32 (after_words place g)).0 % 8 == 0)
    = c.draw_vehicle.ensures.vehicle ∙ ap (λ g. (pcg32 g).0 % 8 == 0) i.next in
    record {
      places = elim c.if-draw_vehicle.branch [
        | then-draw_vehicle w ↦
            ap (λ n. take n after) w.count-is ∙ take_more_set c.loop-place.places count place room ∙ ap (λ ps. ps ++ place ∷ []) i.places
            ∙ sym (places_to-vehicle place g (sym here ∙ w.if-draw_vehicle.true))
        | else-draw_vehicle w ↦
            ap (λ n. take n after) w.count-is ∙ take-set c.loop-place.places count place ∙ i.places ∙
            sym (places_to-silent place g (sym here ∙ w.if-draw_vehicle.false))
      ];
      few = elim c.if-draw_vehicle.branch [
        | then-draw_vehicle w ↦ omega (arith, i.few, w.count-is)
        | else-draw_vehicle w ↦ omega (arith, i.few, w.count-is)
      ];
      inside = All-set (λ p. p < 12) c.loop-place.places count place c.loop-place-test.true i.inside;
      size = length-set c.loop-place.places count place ∙ i.size;
      next = c.draw_vehicle.ensures.next ∙ ap (λ g. (pcg32 g).1) i.next ∙ sym (after_words-more place g) ∙ sym (ap (λ k. after_words k g) (add-one place));
    }

pub returns-clause-places : goal.returns-clause-places
unfolding places_from
returns-clause-places c =
    let whole : c.loop-place.place ≡ 12 = omega arith in
    c.loop-place.invariant.places ∙ ap (λ n. places_to n c.args.generator.now) whole

pub returns-clause-next : goal.returns-clause-next
unfolding after_frame
returns-clause-next c =
    let whole : c.loop-place.place ≡ 12 = omega arith in
    c.loop-place.invariant.next ∙ ap (λ n. after_words n c.args.generator.now) whole
