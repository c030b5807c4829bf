-- The line of a stage begins with its name.
use Rattle.std.proofs.Common.{◌≡◌, ℕ, suc, ◌+◌, ◌-◌, ◌<◌, ◌≤◌, ◌==◌, ◌⊎◌, inl, inr, Bool, true, false, not, ◌&&◌, List, [], ◌∷◌, ◌++◌, length, map, get_or, refl, sym, ap, ◌∙◌, arith, Option, Some, None, if◌then◌else◌}
use Rattle.std.specs.List.{find, filter_map, cons_option}
use Rattle.std.specs.Option.{option_map, option_and_then}
use Rattle.std.proofs.lemmas.Bool.{eqb-true, eqb-false, cases_Bool, true≢false}
use Rattle.pua_model.specs.declared.parts.Group.{Group}
use Rattle.pua_model.specs.declared.parts.Stage.{Stage as StageOf}
use Rattle.pua_model.specs.Plan.{PlanOf, group_named}
use Rattle.pua_reader.specs.declared.section.Section.{Section}
use Rattle.pua_reader.specs.declared.section.Section.TheVariants as section
use Rattle.pua_reader.specs.declared.section.Kind.{Kind}
use Rattle.pua_reader.specs.declared.section.Kind.TheVariants.{Passed, Begins, Row}
use Rattle.pua_reader.specs.Words.{Text, words, kind_of}
use Rattle.pua_reader.specs.Interstages.{word}
use Rattle.pua_reader.specs.Stages.{is_stage_row, is_red_word, greens_of}
use Rattle.pua_reader.specs.PlanDraft.{is_interstage}
use Rattle.pua_reader.specs.Accepted.{lines_in, plan_of_text}
use Rattle.pua_reader.specs.SectionRows.{section_with, is_row, same_section, row_here, rows_from, rows_in, stages_from, file_groups, file_stages}
use Rattle.pua_reader.proofs.RowsSaid.{plan_says_its_rows}
use Rattle.pua_lines.specs.declared.part.Part.{Part}
use Rattle.pua_lines.specs.declared.part.Part.TheVariants.{Stage, Interstage, Group as GroupPart, Ends}
use Rattle.pua_lines.specs.declared.spot.Spot.{Spot}
use Rattle.pua_lines.specs.Sections.{first_spot}
use Rattle.pua_lines.specs.Parts.{PlaceOf, start, gives_stage, more_if, next, placed_from, row_part, kind_part, line_part, is_part, line_spot, part_spot, stage_spot, ends_part, ends_name, group_at}
use Rattle.pua_lines.specs.StageWords.{stage_word, stage_words, StageWordsAreNames}
use Rattle.pua_lines.specs.Laws.{BeginsWith, StageLinesNameStages}

-- the names of the stages of rows
abbrev names_of : List Group → List (List Text) → List Text
names_of groups rows = map (λ s. s.name) (stages_from groups rows)

-- a row more, which gives a stage or none
row_by : (b c : Bool) (groups : List Group) (ws : List Text) (more : List (List Text)) →
    names_of groups ((if b && c then ws ∷ [] else []) ++ more)
    ≡ (if b && (c && is_stage_row ws) then word ws 0 ∷ names_of groups more else names_of groups more)
unfolding stages_from
row_by false c groups ws more = refl
row_by true false groups ws more = refl
row_by true true groups [] more = refl
row_by true true groups (w ∷ ws) more = red_by (is_red_word w)
  where
    red_by : (r : Bool) →
        map (λ (s : StageOf). s.name) (if r then stages_from groups more else record { name = w; greens = greens_of groups ws }
        ∷ stages_from groups more)
        ≡ (if not r then w ∷ names_of groups more else names_of groups more)
    red_by true = refl
    red_by false = refl

row_more : (groups : List Group) (now : Section) (line : Text) (more : List (List Text)) →
    names_of groups (row_here section.Stages now line ++ more)
    ≡ (if gives_stage now line then word (words false line) 0 ∷ names_of groups more else names_of groups more)
row_more groups now line more = row_by (same_section section.Stages now) (is_row (kind_of (words false line))) groups
    (words false line) more

-- a line that gives a stage gives that one, and any other line none
pub no_kind : (b : Bool) → (b && false) ≡ true → ⊥
no_kind true e = true≢false (sym e)
no_kind false e = true≢false (sym e)

stage_kind : (plan : PlanOf) (at : PlaceOf) (line : Text) (k : Kind) (now : Section) → at.section ≡ now →
    kind_of (words false line) ≡ k →
    (same_section section.Stages now && (is_row k && is_stage_row (words false line))) ≡ true →
    kind_part k plan at line ≡ Some (Stage at.stages)
stage_kind plan at line Row section.Stages is kind gives = rw is (stage_row (is_stage_row (words false line)) gives)
  where
    stage_row : (b : Bool) → b ≡ true → (if b then Some (Stage at.stages) else None) ≡ Some (Stage at.stages)
    stage_row true e = refl
    stage_row false e = cc
stage_kind plan at line Passed now is kind gives = absurd (no_kind (same_section section.Stages now) gives)
stage_kind plan at line (Begins s) now is kind gives = absurd (no_kind (same_section section.Stages now) gives)
stage_kind plan at line Row section.Before is kind gives = cc
stage_kind plan at line Row section.Groups is kind gives = cc
stage_kind plan at line Row section.Start is kind gives = cc
stage_kind plan at line Row section.Interstage is kind gives = cc
stage_kind plan at line Row section.End is kind gives = cc

no_group : (s : ℕ) (o : Option ℕ) → is_part (Stage s) (option_map (λ g. GroupPart (group_at g)) o) ≡ false
no_group s None = refl
no_group s (Some g) = refl

no_ends : (s i : ℕ) (o : Option ℕ) → is_part (Stage s) (option_map (λ g. Ends i (group_at g)) o) ≡ false
no_ends s i None = refl
no_ends s i (Some g) = refl

no_ends_row : (s i : ℕ) (plan : PlanOf) (o : Option Text) → is_part (Stage s) (option_and_then (ends_part plan i) o) ≡ false
no_ends_row s i plan None = refl
no_ends_row s i plan (Some name) = no_ends s i (group_named plan name)

other_row : (s : ℕ) (plan : PlanOf) (at : PlaceOf) (line : Text) (now : Section) →
    (same_section section.Stages now && is_stage_row (words false line)) ≡ false →
    is_part (Stage s) (row_part now plan at line) ≡ false
other_row s plan at line section.Before none = refl
other_row s plan at line section.Groups none = no_group s (group_named plan (word (words false line) 0))
other_row s plan at line section.Stages none = by_row (is_stage_row (words false line)) none
  where
    by_row : (b : Bool) → b ≡ false → is_part (Stage s) (if b then Some (Stage at.stages) else None) ≡ false
    by_row true e = absurd (true≢false e)
    by_row false e = refl
other_row s plan at line section.Start none = refl
other_row s plan at line section.Interstage none = no_ends_row s at.interstages plan (ends_name (words true line))
other_row s plan at line section.End none = refl

other_kind : (s : ℕ) (plan : PlanOf) (at : PlaceOf) (line : Text) (k : Kind) →
    (same_section section.Stages at.section && (is_row k && is_stage_row (words false line))) ≡ false →
    is_part (Stage s) (kind_part k plan at line) ≡ false
other_kind s plan at line Passed none = refl
other_kind s plan at line (Begins t) none = by_kind (is_interstage at.section)
  where
    by_kind : (b : Bool) → is_part (Stage s) (if b then Some (Interstage at.interstages) else None) ≡ false
    by_kind true = refl
    by_kind false = refl
other_kind s plan at line Row none = other_row s plan at line at.section none

-- the line that is found after a place among these lines, and its first word
record IsAt (at : PlaceOf) (lines : List Text) (name : Text) (o : Option (PlaceOf × Text)) : Type 0 where
  pub found : PlaceOf × Text
  pub is : o ≡ Some found
  pub after : at.number < found.0.number
  pub within : found.0.number ≤ at.number + length lines
  pub text : get_or lines (found.0.number - at.number - 1) [] ≡ found.1
  pub named : word (words false found.1) 0 ≡ name

here : (at after : PlaceOf) (line name : Text) (more : List Text) (o : Option (PlaceOf × Text)) → after.number ≡ at.number + 1 →
    o ≡ Some (after, line) → word (words false line) 0 ≡ name → IsAt at (line ∷ more) name o
here at after line name more o number is named =
    record {
      found = (after, line);
      is = is;
      after = omega (arith, number);
      within = omega (arith, number);
      text = let first : after.number - at.number - 1 ≡ 0 = omega (arith, number) in ap (λ (n : ℕ). get_or
          (line ∷ more) n []) first;
      named = named;
    }

later : (at after : PlaceOf) (line name name' : Text) (more : List Text) (o o' : Option (PlaceOf × Text)) →
    after.number ≡ at.number + 1 →
    IsAt after more name o → o' ≡ o → name ≡ name' → IsAt at (line ∷ more) name' o'
later at after line name name' more o o' number there same named =
    record {
      found = there.found;
      is = same ∙ there.is;
      after = omega (arith, number, there.after);
      within = omega (arith, number, there.within);
      text =
          let next : there.found.0.number - at.number - 1 ≡ suc (there.found.0.number - after.number - 1) = omega
          (arith, number, there.after) in
          ap (λ (n : ℕ). get_or (line ∷ more) n []) next ∙ there.text;
      named = there.named ∙ named;
    }

-- one line: it gives the stage, another one, or none
find_by : (b : Bool) (test : PlaceOf × Text → Bool) (p : PlaceOf × Text) (ps : List (PlaceOf × Text)) → test p ≡ b →
    find test (p ∷ ps) ≡ (if b then Some p else find test ps)
find_by b test p ps is = rw is refl

at_stage : (s : ℕ) (names : List Text) (at after : PlaceOf) (line w : Text) (more : List Text) (part : Option Part)
    (o : Option (PlaceOf × Text)) →
    part ≡ Some (Stage after.stages) → after.number ≡ at.number + 1 → after.stages ≡ at.stages + 1 → at.stages < s →
    s ≤ at.stages + length (w ∷ names) → word (words false line) 0 ≡ w →
    (after.stages < s → s ≤ after.stages + length names → IsAt after more (get_or names (s - after.stages - 1) []) o) →
    IsAt at (line ∷ more) (get_or (w ∷ names) (s - at.stages - 1) []) (if is_part (Stage s) part then Some (after, line) else o)
at_stage s names at after line w more part o is number stages below most first rest = by_number (cases_Bool (after.stages == s))
  where
    by_number : ((after.stages == s) ≡ true) ⊎ ((after.stages == s) ≡ false) →
        IsAt at (line ∷ more) (get_or (w ∷ names) (s - at.stages - 1) []) (if is_part (Stage s) part then Some
        (after, line) else o)
    by_number (inl same) =
        let place : s - at.stages - 1 ≡ 0 = omega (arith, eqb-true after.stages s same, stages) in
        here at after line (get_or (w ∷ names) (s - at.stages - 1) []) more (if is_part (Stage s) part then Some
        (after, line) else o) number
        (rw (is, same) refl) (first ∙ sym (ap (λ (n : ℕ). get_or (w ∷ names) n []) place))
    by_number (inr other) =
        let apart : after.stages ≡ s → ⊥ = eqb-false after.stages s other in
        let above : after.stages < s = omega (arith, apart, stages, below) in
        let place : s - at.stages - 1 ≡ suc (s - after.stages - 1) = omega (arith, stages, above) in
        later at after line (get_or names (s - after.stages - 1) []) (get_or (w ∷ names) (s - at.stages - 1) []) more o
        (if is_part (Stage s) part then Some (after, line) else o) number (rest above (omega (arith, stages, most))) (rw
        (is, other) refl)
        (sym (ap (λ (n : ℕ). get_or (w ∷ names) n []) place))

line_by : (g : Bool) (s : ℕ) (names : List Text) (at after : PlaceOf) (line : Text) (more : List Text) (part : Option Part)
    (o : Option (PlaceOf × Text)) →
    (g ≡ true → part ≡ Some (Stage after.stages)) → (g ≡ false → is_part (Stage s) part ≡ false) → after.number ≡ at.number + 1 →
    after.stages ≡ more_if g at.stages → at.stages < s →
    s ≤ at.stages + length (if g then word (words false line) 0 ∷ names else names) →
    (after.stages < s → s ≤ after.stages + length names → IsAt after more (get_or names (s - after.stages - 1) []) o) →
    IsAt at (line ∷ more) (get_or (if g then word (words false line) 0 ∷ names else names) (s - at.stages - 1) [])
    (if is_part (Stage s) part then Some (after, line) else o)
line_by true s names at after line more part o gives other number stages below most rest =
    at_stage s names at after line (word (words false line) 0) more part o (gives refl) number stages below most refl rest
line_by false s names at after line more part o gives other number stages below most rest =
    later at after line (get_or names (s - after.stages - 1) []) (get_or names (s - at.stages - 1) []) more o
    (if is_part (Stage s) part then Some (after, line) else o) number
    (rest (omega (arith, stages, below)) (omega (arith, stages, most))) (rw (other refl) refl)
    (ap (λ (n : ℕ). get_or names (s - n - 1) []) stages)

stage_at : (plan : PlanOf) (groups : List Group) (s : ℕ) (lines : List Text) (at : PlaceOf) → at.stages < s →
    s ≤ at.stages + length (names_of groups (rows_from section.Stages at.section lines)) →
    IsAt at lines (get_or (names_of groups (rows_from section.Stages at.section lines)) (s - at.stages - 1) [])
    (find (λ p. is_part (Stage s) (line_part plan p)) (placed_from at lines))
unfolding placed_from rows_from next line_part stages_from
stage_at plan groups s [] at below most = absurd (omega (arith, below, most))
stage_at plan groups s (line ∷ more) at below most =
    let now = section_with at.section line in
    let after = next at line in
    let names = names_of groups (rows_from section.Stages now more) in
    let split = row_more groups now line (rows_from section.Stages now more) in
    rw split
    (line_by (gives_stage now line) s names at after line more (kind_part (kind_of (words false line)) plan after line)
    (find (λ p. is_part (Stage s) (line_part plan p)) (placed_from after more))
    (λ gives. stage_kind plan after line (kind_of (words false line)) now refl refl gives)
    (λ none. other_kind s plan after line (kind_of (words false line)) none) refl refl below
    (rw split at most) (λ b m. stage_at plan groups s more after b m))

-- the spot of the line that is found
spot_line : (text : Text) (lines : List Text) (o : Option (PlaceOf × Text)) (name : Text) (s : Spot) → lines ≡ lines_in text →
    s ≡ line_spot o →
    IsAt start lines name o → BeginsWith text s.line name
unfolding first_spot
spot_line text lines o name s all is it =
    let line : s.line ≡ it.found.0.number = ap (λ (t : Spot). t.line) (is ∙ ap line_spot it.is) in
    record {
      at_least = omega (arith, line, it.after);
      at_most = rw (← all) (omega (arith, line, it.within));
      first =
          let place : s.line - 1 ≡ it.found.0.number - 0 - 1 = omega (arith, line) in
          rw (← all) (ap (λ (n : ℕ). word (words false (get_or lines n [])) 0) place
          ∙ ap (λ l. word (words false l) 0) it.text ∙ it.named);
    }

pub stage_lines_name_stages : StageLinesNameStages
unfolding part_spot file_stages
stage_lines_name_stages = λ text s accepted least most.
    let plan = plan_of_text text in
    let lines = lines_in text in
    let names : plan.stage_names ≡ names_of (file_groups lines) (rows_in section.Stages lines) =
    (plan_says_its_rows text accepted).stage_names in
    let named = names_of (file_groups lines) (rows_in section.Stages lines) in
    let room : s ≤ 0 + length named = omega (arith, most, ap length names) in
    let it = stage_at plan (file_groups lines) s lines start (omega (arith, least)) room in
    let same : s - 0 - 1 ≡ s - 1 = omega arith in
    let name : get_or plan.stage_names (s - 1) [] ≡ get_or named (s - 1) [] = ap (λ (l : List Text). get_or l (s - 1) []) names in
    rw name
    (spot_line text lines (find (λ p. is_part (Stage s) (line_part plan p)) (placed_from start lines)) (get_or named (s - 1) [])
    (stage_spot plan text s) refl refl
    (rw (← same) it))

-- the words of the lines that give stages are the names of the stages
word_by : (b : Bool) (w : Text) (xs ys : List Text) → xs ≡ ys →
    cons_option (if b then Some w else None) xs ≡ (if b then w ∷ ys else ys)
word_by true w xs ys same = ap (λ (l : List Text). w ∷ l) same
word_by false w xs ys same = same

words_from : (groups : List Group) (at : PlaceOf) (lines : List Text) →
    filter_map stage_word (placed_from at lines) ≡ names_of groups (rows_from section.Stages at.section lines)
unfolding placed_from rows_from next stages_from
words_from groups at [] = refl
words_from groups at (line ∷ more) =
    let now = section_with at.section line in
    word_by (gives_stage now line) (word (words false line) 0) (filter_map stage_word (placed_from (next at line) more))
    (names_of groups (rows_from section.Stages now more)) (words_from groups (next at line) more)
    ∙ sym (row_more groups now line (rows_from section.Stages now more))

pub stage_words_are_names : StageWordsAreNames
unfolding stage_words file_stages
stage_words_are_names = λ text accepted.
    words_from (file_groups (lines_in text)) start (lines_in text) ∙ sym (plan_says_its_rows text accepted).stage_names
