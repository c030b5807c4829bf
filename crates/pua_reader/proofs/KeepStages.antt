-- A stage and a start that are not refused leave the stages as a plan wants them.
use Rattle.std.proofs.Common.{◌≡◌, ℕ, ◌<◌, ◌≤◌, Bool, true, false, not, ◌&&◌, ◌||◌, List, [], ◌∷◌, ◌++◌, length, map, refl, ap, ◌∙◌, arith, Option, Some, None, if◌then◌else◌, nat_le, inl, inr}
use Rattle.std.specs.Prelude.{IfSome}
use Rattle.std.specs.List.{list_any, list_all, position}
use Rattle.std.proofs.lemmas.Bool.{and_parts, or_parts, leb-true, leb-false, cases_lt, not-false, or_from}
use Rattle.std.proofs.lemmas.List.{map-append, length-map, get_or_append_left, get_or_push, length_push}
use Rattle.std.proofs.lemmas.List.Quantifiers.{position-Some}
use Rattle.sig_types.specs.Text.{same_name, is_name, number_of, is_letter, is_word}
use Rattle.sig_types.specs.declared.numbers.StageNo.{StageNo}
use Rattle.pua_model.specs.declared.parts.Group.{Group}
use Rattle.pua_model.specs.declared.parts.Stage.{Stage}
use Rattle.pua_model.specs.Plan.{are_apart, stands_in}
use Rattle.pua_reader.specs.Words.{Text}
use Rattle.pua_reader.specs.Stages.{has_stage_name, stage_reasons, greens_of, is_red_word, red_reasons, stage_row_why, stages_with, stage_of, stage_placed, stage_by, start_with}
use Rattle.pua_reader.specs.Legal.{AreStages, IsStage}
use Rattle.pua_reader.proofs.Small.{none_first, names_push, apart_push}

stage_name_free : (stages : List Stage) (w : Text) → has_stage_name stages w ≡ false → stands_in w (map (λ s. s.name) stages) ≡ false
stage_name_free [] w h = refl
stage_name_free (s ∷ ss) w h =
    let both = or_parts (same_name s.name w) (has_stage_name ss w) h in
    or_from (same_name s.name w) (stands_in w (map (λ s. s.name) ss)) both.0 (stage_name_free ss w both.1)

length_greens : (groups : List Group) (named : List Text) → length (greens_of groups named) ≡ length groups
unfolding greens_of
length_greens groups named = length-map groups (λ (g : Group). stands_in g.name named)

record StageFits (stages : List Stage) (name : Text) : Type 0 where
  pub is : is_name name ≡ true
  pub free : has_stage_name stages name ≡ false
  pub room : length stages < 32

stage_fits : (groups : List Group) (stages : List Stage) (name : Text) (named : List Text) → stage_reasons groups stages name named ≡ None →
    StageFits stages name
unfolding stage_reasons
stage_fits groups stages name named none =
    let one = none_first (not (is_name name && list_all is_name named)) _ _ none in
    let two = none_first (has_stage_name stages name || not (are_apart named)) _ _ one.1 in
    let three = none_first (not (list_all (λ w. list_any (λ g. same_name g.name w) groups) named)) _ _ two.1 in
    let four = none_first (nat_le 32 (length stages)) _ _ three.1 in
    record {
      is = (and_parts (is_name name) (list_all is_name named) (not-false _ one.0)).0;
      free = (or_parts (has_stage_name stages name) (not (are_apart named)) two.0).0;
      room = leb-false 32 (length stages) four.0;
    }

name_length : (w : Text) → is_name w ≡ true → (0 < length w) × (length w ≤ 32)
name_length [] e = cc
name_length (b ∷ bs) e =
    let both = and_parts (is_letter b && is_word bs) (nat_le (length bs) 31) e in
    (omega arith, omega (arith, leb-true (length bs) 31 both.1))

pub stage_name_length : (groups : List Group) (stages : List Stage) (name : Text) (named : List Text) → stage_reasons groups stages name named ≡ None →
    (0 < length name) × (length name ≤ 32)
stage_name_length groups stages name named none = name_length name (stage_fits groups stages name named none).is

one_stage_more : (groups : List Group) (stages : List Stage) (name : Text) (named : List Text) → AreStages (length groups) stages → StageFits stages name →
    AreStages (length groups) (stages ++ record { name = name; greens = greens_of groups named } ∷ [])
one_stage_more groups stages name named legal fits =
    let new : Stage = record { name = name; greens = greens_of groups named } in
    let split : map (λ (s : Stage). s.name) (stages ++ new ∷ []) ≡ map (λ (s : Stage). s.name) stages ++ name ∷ [] =
    map-append (λ (s : Stage). s.name) stages (new ∷ []) in
    record {
      at_most = omega (arith, length_push stages new, fits.room);
      names = rw split (names_push (map (λ s. s.name) stages) name legal.names fits.is);
      apart = rw split (apart_push (map (λ s. s.name) stages) name legal.apart (stage_name_free stages name fits.free));
      greens = λ i lt. elim (cases_lt i (length stages)) [
        | inl old ↦ ap (λ (s : Stage). length s.greens) (get_or_append_left stages (new ∷ []) (record { name = []; greens = [] }) i old) ∙ legal.greens i old
        | inr last ↦ (let here : length stages ≡ i = omega (arith, length_push stages new, lt, last) in
            ap (λ (s : Stage). length s.greens) (get_or_push stages new (record { name = []; greens = [] }) i here) ∙ length_greens groups named)
      ];
    }

stages_choice : (b : Bool) (groups : List Group) (stages : List Stage) (after : Bool) (w : Text) (ws : List Text) → AreStages (length groups) stages →
    (if b then red_reasons groups stages after ws else stage_reasons groups stages w ws) ≡ None →
    AreStages (length groups) (if b then stages else stages ++ record { name = w; greens = greens_of groups ws } ∷ [])
stages_choice true groups stages after w ws legal none = legal
stages_choice false groups stages after w ws legal none = one_stage_more groups stages w ws legal (stage_fits groups stages w ws none)

pub stages_keep : (groups : List Group) (stages : List Stage) (after : Bool) (ws : List Text) → AreStages (length groups) stages →
    stage_row_why groups stages after ws ≡ None → AreStages (length groups) (stages_with groups stages ws)
stages_keep groups stages after [] legal none = legal
stages_keep groups stages after (w ∷ ws) legal none = stages_choice (is_red_word w) groups stages after w ws legal none

grown_choice : (b : Bool) (groups : List Group) (stages : List Stage) (w : Text) (ws : List Text) →
    length stages ≤ length (if b then stages else stages ++ record { name = w; greens = greens_of groups ws } ∷ [])
grown_choice true groups stages w ws = omega arith
grown_choice false groups stages w ws = omega (arith, length_push stages (record { name = w; greens = greens_of groups ws }))

-- stages are not taken away
pub stages_grow : (groups : List Group) (stages : List Stage) (ws : List Text) → length stages ≤ length (stages_with groups stages ws)
stages_grow groups stages [] = omega arith
stages_grow groups stages (w ∷ ws) = grown_choice (is_red_word w) groups stages w ws

pub still_stage : (stages more : List Stage) (o : Option StageNo) → length stages ≤ length more → IfSome o (λ s. IsStage stages s.0) →
    IfSome o (λ s. IsStage more s.0)
still_stage stages more None le h = tt
still_stage stages more (Some s) le h = (h.0, omega (arith, h.1))

numbered_stage : (stages : List Stage) (n : ℕ) (b : Bool) → (nat_le 1 n && nat_le n (length stages)) ≡ b →
    IfSome (if b then Some (record { 0 = n }) else None) (λ (s : StageNo). IsStage stages s.0)
numbered_stage stages n true is =
    let both = and_parts (nat_le 1 n) (nat_le n (length stages)) is in
    (leb-true 1 n both.0, leb-true n (length stages) both.1)
numbered_stage stages n false is = tt

placed_stage : (stages : List Stage) (w : Text) (o : Option ℕ) → position (λ s. same_name s.name w) stages ≡ o →
    IfSome (stage_placed o) (λ s. IsStage stages s.0)
placed_stage stages w None is = tt
placed_stage stages w (Some p) is =
    let found = position-Some (λ (s : Stage). same_name s.name w) stages p (record { name = []; greens = [] }) is in
    (omega arith, omega (arith, found.0))

stage_by_is : (stages : List Stage) (w : Text) (o : Option ℕ) → IfSome (stage_by stages w o) (λ s. IsStage stages s.0)
stage_by_is stages w (Some n) = numbered_stage stages n (nat_le 1 n && nat_le n (length stages)) refl
stage_by_is stages w None = placed_stage stages w (position (λ s. same_name s.name w) stages) refl

-- a word names a stage that there is
pub stage_is : (stages : List Stage) (w : Text) → IfSome (stage_of stages w) (λ s. IsStage stages s.0)
unfolding stage_of
stage_is stages w = stage_by_is stages w (number_of w)

pub start_is : (stages : List Stage) (ws : List Text) → IfSome (start_with stages ws) (λ s. IsStage stages s.0)
start_is stages [] = tt
start_is stages (w ∷ ws) = stage_is stages w
