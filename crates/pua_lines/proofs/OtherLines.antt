-- The names of the stages, and what stands behind END, one line after another.
use Rattle.std.proofs.Common.{◌≡◌, ◌==◌, Bool, true, false, List, [], ◌∷◌, ◌++◌, length, refl, sym, ap, ◌∙◌, append_assoc, Option, Some, None, if◌then◌else◌}
use Rattle.std.specs.List.{find, filter_map, cons_option}
use Rattle.std.specs.Option.{option_map, option_to_list}
use Rattle.std.specs.Str.Lines.{lines}
use Rattle.std.proofs.lemmas.List.{append-nil}
use Rattle.pua_reader.specs.Words.{Text}
use Rattle.pua_reader.specs.Accepted.{lines_in, without_mark}
use Rattle.pua_reader.proofs.Reading.{nothing_left}
use Rattle.pua_lines.specs.declared.spot.Spot.{Spot}
use Rattle.pua_lines.specs.Sections.{first_spot}
use Rattle.pua_lines.specs.Parts.{PlaceOf, start, next, placed_from, placed_lines}
use Rattle.pua_lines.specs.StageWords.{stage_word, stage_words}
use Rattle.pua_lines.specs.BehindEnd.{behind_end, is_behind_end}
use Rattle.pua_lines.proofs.UpToEnd.{cons_is}

-- ---- the names of the stages: before the first line, after one more, and after the last

pub names_at_start : (text rest : Text) (names : List Text) → rest ≡ without_mark text → names ≡ [] →
    stage_words text ≡ names ++ filter_map stage_word (placed_from start (lines rest))
unfolding stage_words lines_in
names_at_start text rest names is none = rw (none, is) refl

pub names_step : (text rest : Text) (names new : List Text) (at after : PlaceOf) (line more : Text) →
    stage_words text ≡ names ++ filter_map stage_word (placed_from at (lines rest)) → lines rest ≡ line ∷ lines more →
    after ≡ next at line → new ≡ names ++ option_to_list (stage_word (after, line)) →
    stage_words text ≡ new ++ filter_map stage_word (placed_from after (lines more))
unfolding placed_from
names_step text rest names new at after line more so_far first place noted =
    so_far ∙ ap (λ l. names ++ filter_map stage_word (placed_from at l)) first
    ∙ ap (λ (a : PlaceOf). names ++ cons_option (stage_word (a, line)) (filter_map stage_word (placed_from a (lines more))))
    (sym place)
    ∙ ap (λ l. names ++ l) (cons_is (stage_word (after, line)) (filter_map stage_word (placed_from after (lines more))))
    ∙ sym (append_assoc names (option_to_list (stage_word (after, line))) (filter_map stage_word (placed_from after (lines more))))
    ∙ ap (λ l. l ++ filter_map stage_word (placed_from after (lines more))) (sym noted)

pub names_at_last : (text rest : Text) (names : List Text) (at : PlaceOf) →
    stage_words text ≡ names ++ filter_map stage_word (placed_from at (lines rest)) → true ≡ (length rest == 0) →
    names ≡ stage_words text
unfolding placed_from
names_at_last text rest names at so_far none =
    sym (so_far ∙ ap (λ l. names ++ filter_map stage_word (placed_from at l)) (nothing_left rest none) ∙ append-nil names)

-- ---- what stands behind END

find_by : {A : Type 0} (b : Bool) (test : A → Bool) (p : A) (ps : List A) → test p ≡ b →
    find test (p ∷ ps) ≡ (if b then Some p else find test ps)
find_by b test p ps is = rw is refl

pub behind_at_start : (text rest : Text) → rest ≡ without_mark text →
    find is_behind_end (placed_lines text) ≡ find is_behind_end (placed_from start (lines rest))
unfolding lines_in
behind_at_start text rest is = rw is refl

behind_line : (text rest : Text) (at after : PlaceOf) (line more : Text) (b : Bool) →
    find is_behind_end (placed_lines text) ≡ find is_behind_end (placed_from at (lines rest)) → lines rest ≡ line ∷ lines more →
    after ≡ next at line → b ≡ is_behind_end (after, line) →
    find is_behind_end (placed_lines text) ≡ (if b then Some (after, line) else find is_behind_end (placed_from after (lines more)))
unfolding placed_from
behind_line text rest at after line more b so_far first place is =
    so_far ∙ ap (λ l. find is_behind_end (placed_from at l)) first
    ∙ ap (λ (a : PlaceOf). find is_behind_end ((a, line) ∷ placed_from a (lines more))) (sym place)
    ∙ find_by b is_behind_end (after, line) (placed_from after (lines more)) (sym is)

pub behind_step : (text rest : Text) (at after : PlaceOf) (line more : Text) →
    find is_behind_end (placed_lines text) ≡ find is_behind_end (placed_from at (lines rest)) → lines rest ≡ line ∷ lines more →
    after ≡ next at line → false ≡ is_behind_end (after, line) →
    find is_behind_end (placed_lines text) ≡ find is_behind_end (placed_from after (lines more))
behind_step text rest at after line more so_far first place other =
    behind_line text rest at after line more false so_far first place other

pub behind_here : (text rest : Text) (at after : PlaceOf) (line more : Text) (s : Spot) →
    find is_behind_end (placed_lines text) ≡ find is_behind_end (placed_from at (lines rest)) → lines rest ≡ line ∷ lines more →
    after ≡ next at line → true ≡ is_behind_end (after, line) → s ≡ first_spot after.number line → Some s ≡ behind_end text
unfolding behind_end
behind_here text rest at after line more s so_far first place here is =
    ap Some is
    ∙ sym (ap (option_map (λ p. first_spot p.0.number p.1)) (behind_line text rest at after line more true so_far first place here))

pub behind_nowhere : (text rest : Text) (at : PlaceOf) →
    find is_behind_end (placed_lines text) ≡ find is_behind_end (placed_from at (lines rest)) → true ≡ (length rest == 0) →
    None ≡ behind_end text
unfolding behind_end placed_from
behind_nowhere text rest at so_far none =
    sym (ap (option_map (λ p. first_spot p.0.number p.1))
    (so_far ∙ ap (λ l. find is_behind_end (placed_from at l)) (nothing_left rest none)))
