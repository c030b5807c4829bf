-- The parts that lines give, one line after another, and the first line of a part.
use Rattle.std.proofs.Common.{◌≡◌, ℕ, ◌+◌, ◌<◌, ◌≤◌, ◌==◌, Bool, true, false, List, [], ◌∷◌, ◌++◌, length, drop, get_or, refl, sym, ap, ◌∙◌, append_assoc, add-one, Option, Some, None}
use Rattle.std.specs.List.{find, cons_option}
use Rattle.std.specs.Option.{option_map, option_to_list}
use Rattle.std.specs.Str.Lines.{lines}
use Rattle.std.specs.Prelude.{cond}
use Rattle.std.proofs.lemmas.List.{append-nil, drop_all}
use Rattle.std.proofs.Math.Seq.{drop-cons}
use Rattle.pua_model.specs.Plan.{PlanOf}
use Rattle.pua_reader.specs.Words.{Text}
use Rattle.pua_reader.specs.Accepted.{lines_in, without_mark}
use Rattle.pua_reader.proofs.Reading.{nothing_left}
use Rattle.pua_lines.specs.declared.part.Part.{Part}
use Rattle.pua_lines.specs.declared.part.PlacedPart.{PlacedPart}
use Rattle.pua_lines.specs.declared.spot.Spot.{Spot}
use Rattle.pua_lines.specs.Sections.{first_spot}
use Rattle.pua_lines.specs.Parts.{PlaceOf, start, next, placed_from, placed_lines, line_part, same_part, is_part, line_spot, part_spot, placed_part, placed_parts, found_spot}
use Rattle.pua_lines.proofs.UpToEnd.{cons_is, mark_within}

-- the first part that is wanted is that of the first line that gives it
first_by : (b : Bool) (part : Part) (p : PlaceOf × Text) (r : Option PlacedPart) (o : Option (PlaceOf × Text)) →
    found_spot r ≡ line_spot o →
    found_spot (cond b (Some (record { part = part; spot = first_spot p.0.number p.1 })) r) ≡ line_spot (cond b (Some p) o)
first_by true part p r o same = refl
first_by false part p r o same = same

first_given : (wanted : Part) (given : Option Part) (p : PlaceOf × Text) (rs : List PlacedPart) (o : Option (PlaceOf × Text)) →
    found_spot (find (λ r. same_part r.part wanted) rs) ≡ line_spot o →
    found_spot (find (λ r. same_part r.part wanted) (cons_option (option_map
    (λ part. record { part = part; spot = first_spot p.0.number p.1 }) given) rs))
    ≡ line_spot (cond (is_part wanted given) (Some p) o)
first_given wanted None p rs o same = same
first_given wanted (Some part) p rs o same = first_by (same_part part wanted) part p (find
    (λ r. same_part r.part wanted) rs) o same

first_of_lines : (plan : PlanOf) (wanted : Part) (ps : List (PlaceOf × Text)) →
    found_spot (find (λ r. same_part r.part wanted) (placed_parts plan ps))
    ≡ line_spot (find (λ p. is_part wanted (line_part plan p)) ps)
first_of_lines plan wanted [] = refl
first_of_lines plan wanted (p ∷ ps) =
    first_given wanted (line_part plan p) p (placed_parts plan ps) (find (λ p. is_part wanted (line_part plan p)) ps)
    (first_of_lines plan wanted ps)

pub spot_found : (plan : PlanOf) (text : Text) (wanted : Part) (parts : List PlacedPart) →
    parts ≡ placed_parts plan (placed_lines text) →
    found_spot (find (λ r. same_part r.part wanted) parts) ≡ part_spot plan text wanted
unfolding part_spot
spot_found plan text wanted parts are = rw are (first_of_lines plan wanted (placed_lines text))

-- a search that has come to place i
pub find_more : {A : Type 0} (test : A → Bool) (xs : List A) (i : ℕ) (d : A) → i < length xs → test (get_or xs i d) ≡ false →
    find test (drop i xs) ≡ find test (drop (i + 1) xs)
find_more test xs i d below other = rw (drop-cons xs i d below, add-one) (rw other refl)

pub find_here : {A : Type 0} (test : A → Bool) (xs : List A) (i : ℕ) (d : A) → i < length xs → test (get_or xs i d) ≡ true →
    find test (drop i xs) ≡ Some (get_or xs i d)
find_here test xs i d below same = rw (drop-cons xs i d below) (rw same refl)

pub find_over : {A : Type 0} (test : A → Bool) (xs : List A) (i : ℕ) → length xs ≤ i → find test (drop i xs) ≡ None
find_over test xs i over = ap (find test) (drop_all i xs over)

-- the loop over the lines: before the first line, after one more, and after the last
pub parts_at_start : (plan : PlanOf) (text rest : Text) (parts : List PlacedPart) → rest ≡ without_mark text → parts ≡ [] →
    placed_parts plan (placed_lines text) ≡ parts ++ placed_parts plan (placed_from start (lines rest))
unfolding lines_in
parts_at_start plan text rest parts is none = rw (none, is) refl

pub parts_at_last : (plan : PlanOf) (text rest : Text) (parts : List PlacedPart) (at : PlaceOf) →
    placed_parts plan (placed_lines text) ≡ parts ++ placed_parts plan (placed_from at (lines rest)) → true ≡ (length rest == 0) →
    parts ≡ placed_parts plan (placed_lines text)
unfolding placed_from
parts_at_last plan text rest parts at so_far none =
    sym (so_far ∙ ap (λ l. parts ++ placed_parts plan (placed_from at l)) (nothing_left rest none) ∙ append-nil parts)

pub parts_step : (plan : PlanOf) (text rest : Text) (parts new : List PlacedPart) (at after : PlaceOf) (line more : Text) →
    placed_parts plan (placed_lines text) ≡ parts ++ placed_parts plan (placed_from at (lines rest)) →
    lines rest ≡ line ∷ lines more →
    after ≡ next at line → new ≡ parts ++ option_to_list (placed_part plan (after, line)) →
    placed_parts plan (placed_lines text) ≡ new ++ placed_parts plan (placed_from after (lines more))
unfolding placed_from
parts_step plan text rest parts new at after line more so_far first place noted =
    so_far ∙ ap (λ l. parts ++ placed_parts plan (placed_from at l)) first
    ∙ ap (λ (a : PlaceOf). parts ++ cons_option (placed_part plan (a, line)) (placed_parts plan (placed_from a (lines more))))
    (sym place)
    ∙ ap (λ l. parts ++ l) (cons_is (placed_part plan (after, line)) (placed_parts plan (placed_from after (lines more))))
    ∙ sym (append_assoc parts (option_to_list (placed_part plan (after, line))) (placed_parts plan (placed_from after
    (lines more))))
    ∙ ap (λ l. l ++ placed_parts plan (placed_from after (lines more))) (sym noted)

pub rest_within : (text rest : Text) → rest ≡ without_mark text → length rest ≤ length text
rest_within text rest is = rw is (mark_within text)

pub spot_told : (plan : PlanOf) (text : Text) (wanted : Part) (parts : List PlacedPart) (s : Spot) →
    s ≡ found_spot (find (λ r. same_part r.part wanted) parts) → parts ≡ placed_parts plan (placed_lines text) →
    s ≡ part_spot plan text wanted
spot_told plan text wanted parts s is are = is ∙ spot_found plan text wanted parts are
