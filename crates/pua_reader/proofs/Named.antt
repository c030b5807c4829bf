-- Groups and stages by their names.
use Rattle.std.proofs.Common.{◌≡◌, ℕ, suc, zero, ◌+◌, ◌-◌, ◌<◌, ◌≤◌, ◌==◌, Bool, true, false, not, List, [], ◌∷◌, length, get_or, map, refl, sym, ap, ◌∙◌, arith, Option, Some, None, is_some, cond, nat_lt}
use Rattle.std.specs.List.{position, position_or_len, prefix_len, list_any}
use Rattle.std.proofs.lemmas.List.{ext_get_or, length-map, get_or-map, get_or_default}
use Rattle.std.proofs.lemmas.Bool.{ltb-false}
use Rattle.pua_model.specs.Plan.{stands_in}
use Rattle.sig_types.specs.Text.{same_name, number_of}
use Rattle.sig_types.proofs.Options.{cond_none, none_of}
use Rattle.pua_model.specs.declared.parts.Group.{Group}
use Rattle.pua_model.specs.declared.parts.Stage.{Stage}
use Rattle.pua_reader.specs.Stages.{greens_of, stage_of, stage_placed, last_greens, is_green_in, green_at}
use Rattle.pua_reader.specs.Groups.{place_of}

pub stage_named : (stages : List Stage) (w : List ℕ) (o : Option ℕ) → is_some (number_of w) ≡ false → o ≡ position (λ s. same_name s.name w) stages →
    stage_placed o ≡ stage_of stages w
unfolding stage_of
stage_named stages w o none is = rw (none_of (number_of w) none) (ap stage_placed is)

nothing_green : (o : Option ℕ) → green_at [] o ≡ false
nothing_green None = refl
nothing_green (Some p) = refl

-- where there is no stage, no group is green in the last one
pub none_green : (groups : List Group) (stages : List Stage) (named : List (List ℕ)) → length stages ≡ 0 →
    false ≡ list_any (is_green_in groups (last_greens stages)) named
none_green groups [] [] e = refl
none_green groups [] (w ∷ ws) e = rw (nothing_green (place_of groups w)) (none_green groups [] ws e)
none_green groups (s ∷ ss) named e = absurd (omega arith)

cond_some : (b : Bool) (k i : ℕ) → cond b (Some k) None ≡ Some i → k ≡ i
cond_some true k i e = cc
cond_some false k i e = cc

prefix_fits : {A : Type 0} (p : A → Bool) (xs : List A) → prefix_len p xs ≤ length xs
prefix_fits p [] = omega arith
prefix_fits p (x ∷ xs) = go (p x) (prefix_fits p xs)
  where
    go : (b : Bool) → prefix_len p xs ≤ length xs → cond b (1 + prefix_len p xs) 0 ≤ suc (length xs)
    go true le = omega arith
    go false le = omega arith

pub place_found : {A : Type 0} (p : A → Bool) (xs : List A) (i : ℕ) → Some i ≡ position p xs → i ≡ position_or_len p xs
place_found p xs i e = sym (cond_some (nat_lt (position_or_len p xs) (length xs)) (position_or_len p xs) i (sym e))

pub place_missed : {A : Type 0} (p : A → Bool) (xs : List A) → None ≡ position p xs → length xs ≡ position_or_len p xs
place_missed p xs e =
    let past : length xs ≤ position_or_len p xs =
    ltb-false (position_or_len p xs) (length xs) (cond_none (nat_lt (position_or_len p xs) (length xs)) (position_or_len p xs) (sym e)) in
    omega (arith, past, prefix_fits (λ x. not (p x)) xs)

pub greens_are : (groups : List Group) (named : List (List ℕ)) (greens : List Bool) → length greens ≡ length groups →
    ((j : ℕ) → j < length groups → get_or greens j false ≡ stands_in (get_or groups j (record { name = []; number = 0 })).name named) →
    greens ≡ greens_of groups named
unfolding greens_of
greens_are groups named greens size each =
    ext_get_or false greens (map (λ g. stands_in g.name named) groups) (size ∙ sym (length-map groups (λ (g : Group). stands_in g.name named)))
    (λ j lt. (let inside : j < length groups = omega (arith, lt, size) in
    each j inside ∙ sym (get_or-map (λ (g : Group). stands_in g.name named) groups j (record { name = []; number = 0 }) false inside)))

pub some_left : (n : ℕ) → false ≡ (n == 0) → n ≡ 0 → ⊥
some_left zero e z = cc
some_left (suc n) e z = cc

pub last_is : (stages : List Stage) (s : Stage) → (length stages ≡ 0 → ⊥) → s ≡ get_or stages (length stages - 1) s → last_greens stages ≡ s.greens
last_is stages s ne is =
    let lt : length stages - 1 < length stages = omega (arith, ne) in
    ap (λ (x : Stage). x.greens) (get_or_default stages (length stages - 1) (record { name = []; greens = [] }) s lt ∙ sym is)
