-- Turns that are refused before the first green of their group.
use Rattle.std.proofs.Common.{◌≡◌, ◌∙◌, ℕ, ◌+◌, ◌≤◌, Bool, true, false, List, [], ◌∷◌, ◌++◌, Some, get_or, length, map, take, refl, sym, ap, arith, length-append}
use Rattle.std.specs.Prelude.{◌==◌, ◌&&◌, filter, if◌then◌else◌}
use Rattle.std.specs.List.{slice_get}
use Rattle.std.proofs.lemmas.List.{map-append}
use Rattle.std.proofs.lemmas.List.Elements.{filter_more}
use Rattle.std.proofs.lemmas.Option.{get_or_from_slice_get, slice_get_within}
use Rattle.sig_types.specs.declared.aspect.Aspect.{Aspect}
use Rattle.sig_types.specs.declared.aspect.Aspect.TheVariants.{Red}
use Rattle.sig_types.specs.declared.refused.TurnRefusal.{TurnRefusal}
use Rattle.sig_types.specs.Turns.{is_green}
use Rattle.log_sums.specs.Groups.{greens_of}
use Rattle.log_sums.specs.Spells.{begins, last_to, run}
use Rattle.log_sums.proofs.Steps.{begins_next, last_next}
use Rattle.log_sums.specs.Told.{alone}

one : (b : Bool) (x : TurnRefusal) → map alone (if b then x ∷ [] else []) ≡ (if b then alone x ∷ [] else [])
one true x = refl
one false x = refl

-- one turn more
pub early_more : (early : ℕ → Bool) (turns : List TurnRefusal) (i : ℕ) (turn : TurnRefusal) (old new : List TurnRefusal) (is : Bool) →
    slice_get turns i ≡ Some turn → is ≡ early turn.group.0 → new ≡ old ++ (if is then alone turn ∷ [] else []) →
    old ≡ map alone (filter (λ r. early r.group.0) (take i turns)) → new ≡ map alone (filter (λ r. early r.group.0) (take (i + 1) turns))
early_more early turns i turn old new is at tells put before =
    let p = λ (r : TurnRefusal). early r.group.0 in
    let inside = slice_get_within turns i turn at in
    let here : get_or turns i turn ≡ turn = get_or_from_slice_get turns i turn turn at in
    let so_far = filter p (take i turns) in
    put ∙ ap (λ (b : Bool). old ++ (if b then alone turn ∷ [] else [])) tells
    ∙ ap (λ (l : List TurnRefusal). l ++ (if p turn then alone turn ∷ [] else [])) before
    ∙ ap (λ (l : List TurnRefusal). map alone so_far ++ l) (sym (one (p turn) turn))
    ∙ sym (map-append alone so_far (if p turn then turn ∷ [] else []))
    ∙ ap (λ (x : TurnRefusal). map alone (so_far ++ (if p x then x ∷ [] else []))) (sym here)
    ∙ ap (map alone) (sym (filter_more p turns i turn inside))

one_at_most : (b : Bool) (x : TurnRefusal) → length (if b then x ∷ [] else []) ≤ 1
one_at_most true x = omega arith
one_at_most false x = omega arith

pub one_most : (old new : List TurnRefusal) (turn : TurnRefusal) (is : Bool) (i : ℕ) → new ≡ old ++ (if is then alone turn ∷ [] else []) →
    length old ≤ i → length new ≤ i + 1
one_most old new turn is i put few =
    omega (arith, ap length put, length-append old (if is then alone turn ∷ [] else []), one_at_most is (alone turn), few)

-- a group that shows red had no green more
pub no_green_more : (a : ℕ → Aspect) (n second : ℕ) → second ≡ n + 1 → a second ≡ Red → last_to (begins (greens_of a)) n ≡ 0 →
    last_to (begins (greens_of a)) second ≡ 0
no_green_more a n second next red before =
    let h = greens_of a in
    let off : begins h second ≡ false = begins_next h n second next ∙ ap (λ (x : Aspect). is_green x && (run h n == 0)) red in
    last_next (begins h) n second next ∙ ap (λ (b : Bool). if b then second else last_to (begins h) n) off ∙ before
