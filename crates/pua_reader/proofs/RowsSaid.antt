-- An accepted file's plan says what its rows say.
use Rattle.std.proofs.Common.{◌≡◌, ℕ, zero, suc, ◌+◌, ◌≤◌, ◌<◌, Bool, true, false, not, ◌&&◌, ◌||◌, List, [], ◌∷◌, ◌++◌, length, take, get_or, map, refl, sym, ap, ◌∙◌, arith, Option, Some, None, if◌then◌else◌, is_some, is_none, append_assoc, length-append, add-one}
use Rattle.std.proofs.lemmas.List.{take_more, take_all, length-map}
use Rattle.std.proofs.lemmas.List.{append-nil}
use Rattle.std.proofs.lemmas.Bool.{or_parts, not-false}
use Rattle.sig_types.specs.FirstRefused.{refused_to, first_refused, with_line}
use Rattle.sig_types.specs.declared.numbers.StageNo.{StageNo}
use Rattle.pua_model.specs.declared.parts.Group.{Group}
use Rattle.pua_model.specs.declared.parts.Stage.{Stage}
use Rattle.pua_reader.specs.declared.section.Section.{Section}
use Rattle.pua_reader.specs.declared.section.Section.TheVariants as section
use Rattle.pua_reader.specs.declared.section.Kind.{Kind}
use Rattle.pua_reader.specs.declared.section.Kind.TheVariants.{Passed, Begins, Row}
use Rattle.pua_reader.specs.Words.{Text, words, kind_of, may_follow, is_text, place_in_order}
use Rattle.pua_reader.specs.Groups.{group_row, put, put_row, group_reasons, group_why, groups_with}
use Rattle.pua_reader.specs.Stages.{is_red_word, greens_of, stage_of, stages_with, start_why, start_with, start_reasons, is_stage_word}
use Rattle.pua_reader.specs.Interstages.{open_at, interstages_with, interstage_of}
use Rattle.pua_reader.specs.PlanDraft.{PlanDraftOf, draft_of, judge, line_why, after_line, row_why, row_why_in, after_row, after_row_in, interstage_end_why, after_section_end, section_why, after_section_line, at_next_line, kind_why, after_kind, is_over, is_interstage, end_why, missing_part}
use Rattle.pua_reader.specs.Accepted.{lines_in, refusal_of, plan_of_text, plan_in, start_number}
use Rattle.pua_reader.specs.SectionRows.{section_by, section_with, section_from, is_row, same_section, row_here, rows_from, rows_in, group_before, groups_from, put_all, by_number, file_groups, stages_from, file_stages, SaysItsRows, PlanSaysItsRows}
use Rattle.pua_reader.proofs.Small.{at_none, none_first, none_next}
use Rattle.pua_reader.proofs.KeepGroups.{length_put}
use Rattle.pua_reader.proofs.Keeps.{is_full}
use Rattle.pua_reader.proofs.Reading.{draft_of_more}

-- one line more
pub section_push : (now : Section) (xs : List Text) (x : Text) → section_from now (xs ++ x ∷ []) ≡ section_with (section_from now xs) x
unfolding section_from
section_push now [] x = refl
section_push now (y ∷ ys) x = section_push (section_with now y) ys x

rows_push : (w now : Section) (xs : List Text) (x : Text) →
    rows_from w now (xs ++ x ∷ []) ≡ rows_from w now xs ++ row_here w (section_with (section_from now xs) x) x
unfolding rows_from section_from
rows_push w now [] x = append-nil (row_here w (section_with now x) x)
rows_push w now (y ∷ ys) x =
    ap (λ l. row_here w (section_with now y) y ++ l) (rows_push w (section_with now y) ys x)
    ∙ sym (append_assoc (row_here w (section_with now y) y) (rows_from w (section_with now y) ys)
    (row_here w (section_with (section_from (section_with now y) ys) x) x))

-- one row more
before_push : (o : Option Group) (l : List Group) (g : Group) → group_before o (l ++ g ∷ []) ≡ group_before o l ++ g ∷ []
before_push None l g = refl
before_push (Some h) l g = refl

groups_push : (place : ℕ) (rows : List (List Text)) (row : List Text) (g : Group) → group_row (place + length rows) row ≡ Some g →
    groups_from place (rows ++ row ∷ []) ≡ groups_from place rows ++ g ∷ []
unfolding groups_from
groups_push place [] row g is =
    let here : group_row place row ≡ Some g = ap (λ n. group_row n row) (omega arith) ∙ is in
    ap (λ o. group_before o []) here
groups_push place (r ∷ rows) row g is =
    let here : group_row (place + 1 + length rows) row ≡ Some g = ap (λ n. group_row n row) (omega arith) ∙ is in
    ap (group_before (group_row place r)) (groups_push (place + 1) rows row g here) ∙ before_push (group_row place r) (groups_from (place + 1) rows) g

put_push : (sorted gs : List Group) (g : Group) → put_all sorted (gs ++ g ∷ []) ≡ put g (put_all sorted gs)
put_push sorted [] g = refl
put_push sorted (h ∷ hs) g = put_push (put h sorted) hs g

with_cons_by : (b : Bool) (y : Stage) (l x : List Stage) → (if b then y ∷ l else (y ∷ l) ++ x) ≡ y ∷ (if b then l else l ++ x)
with_cons_by true y l x = refl
with_cons_by false y l x = refl

with_cons : (groups : List Group) (y : Stage) (l : List Stage) (row : List Text) → stages_with groups (y ∷ l) row ≡ y ∷ stages_with groups l row
with_cons groups y l [] = refl
with_cons groups y l (w ∷ ws) = with_cons_by (is_red_word w) y l (record { name = w; greens = greens_of groups ws } ∷ [])

first_with : (b : Bool) (x : Stage) → (if b then [] else x ∷ []) ≡ (if b then [] else [] ++ x ∷ [])
first_with true x = refl
first_with false x = refl

stages_push : (groups : List Group) (rows : List (List Text)) (row : List Text) →
    stages_from groups (rows ++ row ∷ []) ≡ stages_with groups (stages_from groups rows) row
unfolding stages_from
stages_push groups [] [] = refl
stages_push groups [] (w ∷ ws) = first_with (is_red_word w) (record { name = w; greens = greens_of groups ws })
stages_push groups ([] ∷ rows) row = stages_push groups rows row
stages_push groups ((v ∷ vs) ∷ rows) row = go (is_red_word v) (stages_push groups rows row)
  where
    go : (b : Bool) → stages_from groups (rows ++ row ∷ []) ≡ stages_with groups (stages_from groups rows) row →
        (if b then stages_from groups (rows ++ row ∷ []) else record { name = v; greens = greens_of groups vs } ∷ stages_from groups (rows ++ row ∷ []))
        ≡ stages_with groups (if b then stages_from groups rows else record { name = v; greens = greens_of groups vs } ∷ stages_from groups rows) row
    go true more = more
    go false more =
        ap (λ l. record { name = v; greens = greens_of groups vs } ∷ l) more
        ∙ sym (with_cons groups (record { name = v; greens = greens_of groups vs }) (stages_from groups rows) row)

-- the starting stage, by the rows of its section
pub StartSays : Option StageNo → List Stage → List (List Text) → Type 0
StartSays None stages rows = rows ≡ []
StartSays (Some s) stages rows = (word : Text) × (rows ≡ (word ∷ []) ∷ []) × (stage_of stages word ≡ Some s)

-- a draft says what these rows of the groups, of the stages and of the starting stage say
pub record Says (d : PlanDraftOf) (gr st sr : List (List Text)) : Type 0 where
  pub count : length d.groups ≡ length gr
  pub groups : d.groups ≡ by_number (groups_from 1 gr)
  pub stages : d.stages ≡ stages_from d.groups st
  pub start : StartSays d.start d.stages sr
  pub no_stages : place_in_order d.section ≤ 1 → st ≡ []
  pub no_start : place_in_order d.section ≤ 2 → sr ≡ []

-- what has the same groups, stages and start, and stands no earlier, says the same
says_same : (d e : PlanDraftOf) (gr st sr : List (List Text)) → Says d gr st sr → e.groups ≡ d.groups → e.stages ≡ d.stages → e.start ≡ d.start →
    (place_in_order e.section ≤ 1 → place_in_order d.section ≤ 1) → (place_in_order e.section ≤ 2 → place_in_order d.section ≤ 2) → Says e gr st sr
says_same d e gr st sr says same_groups same_stages same_start one two = record {
  count = ap length same_groups ∙ says.count;
  groups = same_groups ∙ says.groups;
  stages = rw (same_groups, same_stages) says.stages;
  start = rw (same_start, same_stages) says.start;
  no_stages = λ le. says.no_stages (one le);
  no_start = λ le. says.no_start (two le);
}

-- a row of each section
group_given : (groups : List Group) (o : Option Group) → group_reasons groups o ≡ None → (g : Group) × (o ≡ Some g)
unfolding group_reasons
group_given groups None e = cc
group_given groups (Some g) e = (g, refl)

no_stage_rows : (groups : List Group) (st : List (List Text)) → st ≡ [] → stages_from groups st ≡ []
unfolding stages_from
no_stage_rows groups [] e = refl
no_stage_rows groups (r ∷ rs) e = cc

group_row_says : (d : PlanDraftOf) (ws : List Text) (gr st sr : List (List Text)) → d.section ≡ section.Groups → Says d gr st sr →
    group_why d.groups ws ≡ None →
    Says (record d { groups = groups_with d.groups ws }) (gr ++ ws ∷ []) st sr
group_row_says d ws gr st sr here says none =
    let given = group_given d.groups (group_row (length d.groups + 1) ws) none in
    let first : place_in_order d.section ≡ 1 = ap place_in_order here in
    let empty : st ≡ [] = says.no_stages (omega (arith, first)) in
    let put_in : groups_with d.groups ws ≡ put given.0 d.groups = ap (λ o. put_row o d.groups) given.1 in
    let row : group_row (1 + length gr) ws ≡ Some given.0 = ap (λ n. group_row n ws) (omega (arith, says.count)) ∙ given.1 in
    record {
      count = ap length put_in ∙ omega (arith, length_put given.0 d.groups, says.count, length-append gr (ws ∷ []));
      groups = put_in ∙ ap (put given.0) says.groups ∙ sym (ap (put_all []) (groups_push 1 gr ws given.0 row) ∙ put_push [] (groups_from 1 gr) given.0);
      stages = says.stages ∙ no_stage_rows d.groups st empty ∙ sym (no_stage_rows (groups_with d.groups ws) st empty);
      start = says.start;
      no_stages = says.no_stages;
      no_start = says.no_start;
    }

start_says_same : (o : Option StageNo) (old new : List Stage) (sr : List (List Text)) → sr ≡ [] → StartSays o old sr → StartSays o new sr
unfolding StartSays
start_says_same None old new sr e says = says
start_says_same (Some s) old new sr e says =
    let full : (says.0 ∷ []) ∷ [] ≡ [] = sym says.1 ∙ e in
    absurd (let no : ⊥ = cc in no)

stage_row_says : (d : PlanDraftOf) (ws : List Text) (after : Bool) (gr st sr : List (List Text)) → d.section ≡ section.Stages → Says d gr st sr →
    Says (record d { stages = stages_with d.groups d.stages ws; after_stage = after }) gr (st ++ ws ∷ []) sr
stage_row_says d ws after gr st sr here says =
    let second : place_in_order d.section ≡ 2 = ap place_in_order here in
    record {
      count = says.count;
      groups = says.groups;
      stages = ap (λ l. stages_with d.groups l ws) says.stages ∙ sym (stages_push d.groups st ws);
      start = start_says_same d.start d.stages (stages_with d.groups d.stages ws) sr (says.no_start (omega (arith, second))) says.start;
      no_stages = λ le. absurd (omega (arith, second, le));
      no_start = says.no_start;
    }

none_started : (o : Option StageNo) (stages : List Stage) (sr : List (List Text)) → is_some o ≡ false → StartSays o stages sr → sr ≡ []
unfolding StartSays
none_started None stages sr e says = says
none_started (Some s) stages sr e says = cc

start_given : (o : Option StageNo) (stages : List Stage) (w : Text) (sr : List (List Text)) → stage_of stages w ≡ o → is_none o ≡ false → sr ≡ [] →
    StartSays o stages (sr ++ (w ∷ []) ∷ [])
unfolding StartSays
start_given None stages w sr is some empty = cc
start_given (Some s) stages w sr is some empty = (w, ap (λ l. l ++ (w ∷ []) ∷ []) empty, is)

start_row : (ws : List Text) (o : Option StageNo) (stages : List Stage) (sr : List (List Text)) → start_why stages o ws ≡ None → StartSays o stages sr →
    StartSays (start_with stages ws) stages (sr ++ ws ∷ [])
unfolding start_reasons
start_row [] o stages sr none says = cc
start_row (w ∷ []) o stages sr none says =
    let one = none_first (is_some o || not (is_stage_word w)) _ _ none in
    let two = none_first (is_none (stage_of stages w)) _ _ one.1 in
    let free = or_parts (is_some o) (not (is_stage_word w)) one.0 in
    start_given (stage_of stages w) stages w sr refl two.0 (none_started o stages sr free.0 says)
start_row (w ∷ v ∷ more) o stages sr none says = cc

start_row_says : (d : PlanDraftOf) (ws : List Text) (gr st sr : List (List Text)) → d.section ≡ section.Start → Says d gr st sr →
    start_why d.stages d.start ws ≡ None →
    Says (record d { start = start_with d.stages ws }) gr st (sr ++ ws ∷ [])
start_row_says d ws gr st sr here says none =
    let third : place_in_order d.section ≡ 3 = ap place_in_order here in
    record {
      count = says.count;
      groups = says.groups;
      stages = says.stages;
      start = start_row ws d.start d.stages sr none says.start;
      no_stages = says.no_stages;
      no_start = λ le. absurd (omega (arith, third, le));
    }

-- the rows that a row of section s adds to those of the section w
added : Section → Section → Text → List (List Text)
added w s line = if same_section w s then words (is_interstage w) line ∷ [] else []

row_in_says : (s : Section) (d : PlanDraftOf) (line : Text) (gr st sr : List (List Text)) → d.section ≡ s → Says d gr st sr → row_why_in s d line ≡ None →
    Says (after_row_in s d line) (gr ++ added section.Groups s line) (st ++ added section.Stages s line) (sr ++ added section.Start s line)
unfolding added
row_in_says section.Before d line gr st sr here says none = cc
row_in_says section.Groups d line gr st sr here says none = rw (append-nil st, append-nil sr) (group_row_says d (words false line) gr st sr here says none)
row_in_says section.Stages d line gr st sr here says none = rw (append-nil gr, append-nil sr) (stage_row_says d (words false line) _ gr st sr here says)
row_in_says section.Start d line gr st sr here says none = rw (append-nil gr, append-nil st) (start_row_says d (words false line) gr st sr here says none)
row_in_says section.Interstage d line gr st sr here says none =
    rw (append-nil gr, append-nil st, append-nil sr) (says_same d _ gr st sr says refl refl refl (λ le. le) (λ le. le))
row_in_says section.End d line gr st sr here says none = rw (append-nil gr, append-nil st, append-nil sr) says

-- a section line
record Later (a b : Section) : Type 0 where
  pub one : place_in_order b ≤ 1 → place_in_order a ≤ 1
  pub two : place_in_order b ≤ 2 → place_in_order a ≤ 2

later : (a b : Section) → may_follow a b ≡ true → Later a b
later section.Before section.Groups e = record { one = λ le. omega arith; two = λ le. omega arith }
later section.Groups section.Stages e = record { one = λ le. absurd (omega (arith, le)); two = λ le. omega arith }
later section.Stages section.Start e = record { one = λ le. absurd (omega (arith, le)); two = λ le. absurd (omega (arith, le)) }
later section.Start section.Interstage e = record { one = λ le. absurd (omega (arith, le)); two = λ le. absurd (omega (arith, le)) }
later section.Start section.End e = record { one = λ le. absurd (omega (arith, le)); two = λ le. absurd (omega (arith, le)) }
later section.Interstage section.Interstage e = record { one = λ le. absurd (omega (arith, le)); two = λ le. absurd (omega (arith, le)) }
later section.Interstage section.End e = record { one = λ le. absurd (omega (arith, le)); two = λ le. absurd (omega (arith, le)) }
later _ _ e = cc

end_says_by : (b : Bool) (d : PlanDraftOf) (gr st sr : List (List Text)) → Says d gr st sr →
    Says (if b then record d { interstages = interstages_with d.interstages (interstage_of d.current); current = open_at 0 0 } else d) gr st sr
end_says_by true d gr st sr says = says_same d _ gr st sr says refl refl refl (λ le. le) (λ le. le)
end_says_by false d gr st sr says = says

pub end_says : (d : PlanDraftOf) (gr st sr : List (List Text)) → Says d gr st sr → Says (after_section_end d) gr st sr
unfolding after_section_end
end_says d gr st sr says = end_says_by (is_interstage d.section) d gr st sr says

begin_says_by : (b : Bool) (d : PlanDraftOf) (s : Section) (gr st sr : List (List Text)) → Says d gr st sr → Later d.section s →
    Says (if b then record d { section = s; current = open_at d.lines (length d.groups) } else record d { section = s }) gr st sr
begin_says_by true d s gr st sr says after = says_same d _ gr st sr says refl refl refl after.one after.two
begin_says_by false d s gr st sr says after = says_same d _ gr st sr says refl refl refl after.one after.two

begin_section_by : (b : Bool) (d : PlanDraftOf) (s : Section) →
    (if b then record d { section = s; current = open_at d.lines (length d.groups) } else record d { section = s }).section ≡ s
begin_section_by true d s = refl
begin_section_by false d s = refl

followed : (d : PlanDraftOf) (s : Section) (line : Text) → section_why d s line ≡ None → may_follow d.section s ≡ true
unfolding section_why
followed d s line none =
    let one = none_first (not (is_text line)) _ _ none in
    let two = none_first (not (may_follow d.section s)) _ _ one.1 in
    not-false (may_follow d.section s) two.0

section_line_says : (d : PlanDraftOf) (s : Section) (line : Text) (gr st sr : List (List Text)) → Says d gr st sr → section_why d s line ≡ None →
    Says (after_section_line d s) gr st sr
unfolding after_section_line
section_line_says d s line gr st sr says none = begin_says_by (is_interstage s) d s gr st sr says (later d.section s (followed d s line none))

section_line_at : (d : PlanDraftOf) (s : Section) → (after_section_line d s).section ≡ s
unfolding after_section_line
section_line_at d s = begin_section_by (is_interstage s) d s

row_in_section : (s : Section) (d : PlanDraftOf) (line : Text) → (after_row_in s d line).section ≡ d.section
row_in_section section.Before d line = refl
row_in_section section.Groups d line = refl
row_in_section section.Stages d line = refl
row_in_section section.Start d line = refl
row_in_section section.Interstage d line = refl
row_in_section section.End d line = refl

row_says : (d : PlanDraftOf) (line : Text) (gr st sr : List (List Text)) → Says d gr st sr → row_why d line ≡ None →
    Says (after_row d line) (gr ++ added section.Groups d.section line) (st ++ added section.Stages d.section line) (sr ++ added section.Start d.section line)
unfolding row_why after_row
row_says d line gr st sr says none =
    let one = none_first (not (is_text line)) _ _ none in
    row_in_says d.section d line gr st sr refl says (none_next (row_why_in d.section d line) None one.1).0

row_section : (d : PlanDraftOf) (line : Text) → (after_row d line).section ≡ d.section
unfolding after_row
row_section d line = row_in_section d.section d line

-- the rows that a line adds to those of the section w, by what the line is
here_of : Kind → Section → Section → Text → List (List Text)
here_of k w now line = if same_section w now && is_row k then words (is_interstage w) line ∷ [] else []

by_kind : (b : Bool) (row : List Text) → (if b && false then row ∷ [] else []) ≡ []
by_kind true row = refl
by_kind false row = refl

by_row : (b : Bool) (row : List Text) → (if b && true then row ∷ [] else []) ≡ (if b then row ∷ [] else [])
by_row true row = refl
by_row false row = refl

record LineSays (d e : PlanDraftOf) (now : Section) (gr st sr gr2 st2 sr2 : List (List Text)) : Type 0 where
  pub section : e.section ≡ now
  pub says : Says e (gr ++ gr2) (st ++ st2) (sr ++ sr2)

nothing_more : (e : PlanDraftOf) (gr st sr gr2 st2 sr2 : List (List Text)) → Says e gr st sr → gr2 ≡ [] → st2 ≡ [] → sr2 ≡ [] →
    Says e (gr ++ gr2) (st ++ st2) (sr ++ sr2)
nothing_more e gr st sr gr2 st2 sr2 says a b c = rw (a, b, c, append-nil gr, append-nil st, append-nil sr) says

kind_says : (k : Kind) (d : PlanDraftOf) (line : Text) (gr st sr : List (List Text)) → Says d gr st sr → kind_why k d line ≡ None →
    LineSays d (after_kind k d line) (section_by d.section k) gr st sr (here_of k section.Groups (section_by d.section k) line)
    (here_of k section.Stages (section_by d.section k) line) (here_of k section.Start (section_by d.section k) line)
unfolding here_of added
kind_says Passed d line gr st sr says none = record {
  section = refl;
  says = nothing_more d gr st sr _ _ _ says (by_kind (same_section section.Groups d.section) _) (by_kind (same_section section.Stages d.section) _)
      (by_kind (same_section section.Start d.section) _);
}
kind_says (Begins s) d line gr st sr says none =
    let parts = none_next (interstage_end_why d) (with_line d.lines (section_why (after_section_end d) s line)) none in
    let ended = end_says d gr st sr says in
    let begun = section_line_says (after_section_end d) s line gr st sr ended (at_none d.lines _ parts.1) in
    record {
      section = section_line_at (after_section_end d) s;
      says = nothing_more _ gr st sr _ _ _ begun (by_kind (same_section section.Groups s) _) (by_kind (same_section section.Stages s) _)
          (by_kind (same_section section.Start s) _);
    }
kind_says Row d line gr st sr says none = record {
  section = row_section d line;
  says = rw (
    by_row (same_section section.Groups d.section) (words false line),
    by_row (same_section section.Stages d.section) (words false line),
    by_row (same_section section.Start d.section) (words false line),
  )
      (row_says d line gr st sr says (at_none d.lines _ none));
}

counted : (d : PlanDraftOf) (gr st sr : List (List Text)) → Says d gr st sr → Says (at_next_line d) gr st sr
counted d gr st sr says = says_same d (at_next_line d) gr st sr says refl refl refl (λ le. le) (λ le. le)

pub over_is_end : (s : Section) → is_over s ≡ true → s ≡ section.End
over_is_end section.Before e = cc
over_is_end section.Groups e = cc
over_is_end section.Stages e = cc
over_is_end section.Start e = cc
over_is_end section.Interstage e = cc
over_is_end section.End e = refl

line_says_by : (b : Bool) (d : PlanDraftOf) (line : Text) (gr st sr : List (List Text)) → is_over d.section ≡ b → Says d gr st sr →
    (if b then None else kind_why (kind_of (words false line)) (at_next_line d) line) ≡ None →
    LineSays d (if b then at_next_line d else after_kind (kind_of (words false line)) (at_next_line d) line)
    (if b then d.section else section_by d.section (kind_of (words false line))) gr st sr
    (row_here section.Groups (if b then d.section else section_by d.section (kind_of (words false line))) line)
    (row_here section.Stages (if b then d.section else section_by d.section (kind_of (words false line))) line)
    (row_here section.Start (if b then d.section else section_by d.section (kind_of (words false line))) line)
unfolding here_of
line_says_by true d line gr st sr over says none =
    let last : d.section ≡ section.End = over_is_end d.section over in
    record {
      section = refl;
      says = nothing_more (at_next_line d) gr st sr _ _ _ (counted d gr st sr says) (ap (λ s. row_here section.Groups s line) last)
          (ap (λ s. row_here section.Stages s line) last) (ap (λ s. row_here section.Start s line) last);
    }
line_says_by false d line gr st sr over says none =
    let all = kind_says (kind_of (words false line)) (at_next_line d) line gr st sr (counted d gr st sr says) none in
    record { section = all.section; says = all.says }

line_says : (d : PlanDraftOf) (line : Text) (gr st sr : List (List Text)) → Says d gr st sr → line_why d line ≡ None →
    LineSays d (after_line d line) (section_with d.section line) gr st sr (row_here section.Groups (section_with d.section line) line)
    (row_here section.Stages (section_with d.section line) line) (row_here section.Start (section_with d.section line) line)
unfolding line_why after_line
line_says d line gr st sr says none = line_says_by (is_over d.section) d line gr st sr refl says none

-- all lines so far
pub record SoFar (before : List Text) (d : PlanDraftOf) : Type 0 where
  pub arrived : d.section ≡ section_from section.Before before
  pub says : Says d (rows_in section.Groups before) (rows_in section.Stages before) (rows_in section.Start before)

so_far_more : (before : List Text) (d : PlanDraftOf) (line : Text) → SoFar before d → line_why d line ≡ None → SoFar (before ++ line ∷ []) (after_line d line)
so_far_more before d line so none =
    let all = line_says d line _ _ _ so.says none in
    let rows : (w : Section) → rows_in w before ++ row_here w (section_with d.section line) line ≡ rows_in w (before ++ line ∷ []) =
    λ w. ap (λ s. rows_in w before ++ row_here w (section_with s line) line) so.arrived ∙ sym (rows_push w section.Before before line) in
    record {
      arrived = all.section ∙ ap (λ s. section_with s line) so.arrived ∙ sym (section_push section.Before before line);
      says = rw (rows section.Groups, rows section.Stages, rows section.Start) at all.says;
    }

so_far_none : SoFar [] (draft_of [])
unfolding draft_of section_from rows_from groups_from stages_from StartSays
so_far_none = record {
  arrived = refl;
  says = record { count = refl; groups = refl; stages = refl; start = refl; no_stages = λ le. refl; no_start = λ le. refl };
}

pub so_far_to : (all : List Text) (n : ℕ) → n ≤ length all → refused_to judge all [] n ≡ None → SoFar (take n all) (draft_of (take n all))
unfolding refused_to
so_far_to all zero le none = so_far_none
so_far_to all (suc n) le none =
    let lt : n < length all = omega (arith, le) in
    let parts = none_next (refused_to judge all [] n) (judge (take n all) (get_or all n [])) none in
    let next = so_far_more (take n all) (draft_of (take n all)) (get_or all n []) (so_far_to all n (omega (arith, le)) parts.0) parts.1 in
    rw (← add-one, draft_of_more all n lt, take_more all n [] lt) next

pub file_parts : (e : PlanDraftOf) (lines : List Text) → Says e (rows_in section.Groups lines) (rows_in section.Stages lines) (rows_in section.Start lines) →
    (e.groups ≡ file_groups lines) × (e.stages ≡ file_stages lines)
unfolding file_groups file_stages
file_parts e lines says = (says.groups, says.stages ∙ ap (λ gs. stages_from gs (rows_in section.Stages lines)) says.groups)

start_final : (o : Option StageNo) (stages there : List Stage) (sr : List (List Text)) → is_some o ≡ true → stages ≡ there → StartSays o stages sr →
    (word : Text) × (sr ≡ (word ∷ []) ∷ []) × (stage_of there word ≡ Some (record { 0 = start_number o }))
unfolding StartSays
start_final None stages there sr some same says = cc
start_final (Some s) stages there sr some same says = (says.0, says.1, ap (λ l. stage_of l says.0) (sym same) ∙ says.2)

plan_says : (e : PlanDraftOf) (lines : List Text) →
    Says e (rows_in section.Groups lines) (rows_in section.Stages lines) (rows_in section.Start lines) → is_some e.start ≡ true →
    SaysItsRows (plan_in e) lines
unfolding file_groups file_stages
plan_says e lines says started =
    let stages : e.stages ≡ stages_from (by_number (groups_from 1 (rows_in section.Groups lines))) (rows_in section.Stages lines) =
    says.stages ∙ ap (λ gs. stages_from gs (rows_in section.Stages lines)) says.groups in
    record {
      each_row = length-map e.groups (λ (g : Group). g.name) ∙ says.count;
      names = ap (map (λ (g : Group). g.name)) says.groups;
      numbers = ap (map (λ (g : Group). g.number)) says.groups;
      stage_names = ap (map (λ (s : Stage). s.name)) stages;
      stages = ap (map (λ (s : Stage). s.greens)) stages;
      start = start_final e.start e.stages _ (rows_in section.Start lines) started stages says.start;
    }

draft_says : (lines : List Text) → first_refused judge lines [] ≡ None → end_why (draft_of lines) ≡ None →
    SaysItsRows (plan_in (after_section_end (draft_of lines))) lines
unfolding end_why
draft_says lines none ended =
    let so = rw (take_all (length lines) lines (omega arith)) at (so_far_to lines (length lines) (omega arith) none) in
    let parts = none_next (interstage_end_why (draft_of lines)) (with_line 0 (missing_part (after_section_end (draft_of lines)))) ended in
    let full = is_full (after_section_end (draft_of lines)) (sym (at_none 0 _ parts.1)) in
    plan_says (after_section_end (draft_of lines)) lines (end_says (draft_of lines) _ _ _ so.says) full.start

pub plan_says_its_rows : PlanSaysItsRows
unfolding refusal_of plan_of_text
plan_says_its_rows bytes none =
    let parts = none_next (first_refused judge (lines_in bytes) []) (end_why (draft_of (lines_in bytes))) none in
    draft_says (lines_in bytes) parts.0 parts.1
