use Rattle.std.proofs.Common.{rules, ◌≡◌, ◌∙◌, ◌+◌, ◌<◌, ◌++◌, ◌∷◌, [], refl, sym, ap, take, length, arith}
use Rattle.std.proofs.lemmas.List.{map-append, take_more, length-take-le}
use Rattle.pua_model.specs.declared.parts.Group.{Group}
use Rattle.tenth_records.specs.Names.{numbers_from}
use Rattle.tenth_records.proofs.PlanOfNames.{more_numbers}
use Rattle.tenth_records.proofs.names.groups_of.Goals as goal

pub loop-place-init : goal.loop-place-init
unfolding numbers_from
loop-place-init c = rw c.new-groups.ensures.items (record { names = refl; numbers = refl })

pub loop-place-preserved : goal.loop-place-preserved
loop-place-preserved c =
    let place = c.loop-place.place in
    let names = c.args.names.now in
    let groups = c.loop-place.groups.items in
    let group : Group = record { name = c.of.result; number = place + 1 } in
    let pushed : c.push.new.self.items ≡ groups ++ group ∷ [] = search rules in
    let inside : place < length names = c.loop-place-test.true in
    let more = take_more names place c.index-names-place.result inside in
    let name = c.of.ensures ∙ c.bytes.ensures.bytes ∙ c.index-names-place.is in
    let numbered = more_numbers 1 (take place names) c.of.result in
    rw pushed (record {
      names = map-append (λ (g : Group). g.name) groups (group ∷ []) ∙ ap (λ xs. xs ++ c.of.result ∷ []) c.loop-place.invariant.names
          ∙ ap (λ x. take place names ++ x ∷ []) name ∙ sym more;
      numbers = map-append (λ (g : Group). g.number) groups (group ∷ []) ∙ ap (λ ks. ks ++ (place + 1) ∷ []) c.loop-place.invariant.numbers
          ∙ ap (λ k. numbers_from 1 (take place names) ++ k ∷ []) (omega (arith, length-take-le place names (omega arith)))
          ∙ sym numbered ∙ ap (λ x. numbers_from 1 (take place names ++ x ∷ [])) name ∙ ap (numbers_from 1) (sym more);
    })
