-- A line that is not refused leaves the draft legal, and a file that ends well has a plan.
use Rattle.std.proofs.Common.{◌≡◌, ℕ, suc, zero, ◌-◌, ◌≤◌, ◌==◌, Bool, true, false, not, ◌&&◌, ◌||◌, List, [], ◌∷◌, length, get_or, map, refl, sym, ap, subst, ◌∙◌, arith, Option, Some, None, if◌then◌else◌, nat_le, is_some, is_none}
use Rattle.std.specs.Prelude.{IfSome}
use Rattle.std.proofs.lemmas.Bool.{or_parts, leb-false, not-false}
use Rattle.std.proofs.lemmas.List.{length-map}
use Rattle.sig_types.specs.FirstRefused.{with_line}
use Rattle.sig_types.specs.declared.numbers.StageNo.{StageNo}
use Rattle.sig_types.proofs.Options.{some_of}
use Rattle.pua_model.specs.declared.parts.Group.{Group}
use Rattle.pua_model.specs.declared.parts.Stage.{Stage}
use Rattle.pua_model.specs.Plan.{InterstageOf, IsPlan, IsInterstageOf, no_interstage}
use Rattle.pua_model.specs.Parts.{plan_of}
use Rattle.pua_reader.specs.declared.section.Section.{Section}
use Rattle.pua_reader.specs.declared.section.Section.TheVariants as section
use Rattle.pua_reader.specs.declared.section.Kind.{Kind}
use Rattle.pua_reader.specs.declared.section.Kind.TheVariants.{Passed, Begins, Row}
use Rattle.pua_reader.specs.Words.{Text, words, kind_of, may_follow, is_text, place_in_order}
use Rattle.pua_reader.specs.Groups.{group_why, groups_with}
use Rattle.pua_reader.specs.Stages.{stage_row_why, stages_with, is_stage_row, start_with}
use Rattle.pua_reader.specs.Interstages.{open_at, interstage_row_why, open_after, interstage_of, interstage_reasons, interstages_with}
use Rattle.pua_reader.specs.PlanDraft.{PlanDraftOf, empty_draft, row_why, row_why_in, after_row, after_row_in, is_interstage, interstage_end_why, after_section_end, section_why, after_section_line, at_next_line, kind_why, after_kind, is_over, line_why, after_line, missing_part}
use Rattle.pua_reader.specs.Accepted.{plan_in, start_number}
use Rattle.pua_reader.specs.Legal.{AreGroups, AreStages, IsStage, Leads, AreInterstages, Legal}
use Rattle.pua_reader.proofs.Small.{at_none, none_first, none_next}
use Rattle.pua_reader.proofs.KeepGroups.{groups_keep}
use Rattle.pua_reader.proofs.KeepStages.{stages_keep, stages_grow, still_stage, start_is}
use Rattle.pua_reader.proofs.KeepInterstages.{open_keeps, open_begins, one_interstage_more, whole_interstage}

no_interstages_legal : (n : ℕ) (stages : List Stage) (interstages : List InterstageOf) → interstages ≡ [] → AreInterstages n stages interstages
no_interstages_legal n stages [] e = record { at_most = omega arith; apart = refl; each = λ i lt. absurd (omega arith) }
no_interstages_legal n stages (w ∷ ws) e = absurd (cc)

no_stages_legal : (n : ℕ) (stages : List Stage) → stages ≡ [] → AreStages n stages
no_stages_legal n [] e = record { at_most = omega arith; names = refl; apart = refl; greens = λ i lt. absurd (omega arith) }
no_stages_legal n (s ∷ ss) e = absurd (cc)

pub empty_draft_legal : Legal empty_draft
empty_draft_legal = record {
  groups = record { at_most = omega arith; names = refl; apart = refl; rising = refl };
  stages = no_stages_legal 0 [] refl;
  start = tt;
  interstages = no_interstages_legal 0 [] [] refl;
  no_stages = λ le. refl;
  no_interstages = λ le. refl;
  current = λ e. absurd (omega arith);
  room = λ e. absurd (omega arith);
}

pub next_line_legal : (g : PlanDraftOf) → Legal g → Legal (at_next_line g)
next_line_legal g legal = record {
  groups = legal.groups;
  stages = legal.stages;
  start = legal.start;
  interstages = legal.interstages;
  no_stages = legal.no_stages;
  no_interstages = legal.no_interstages;
  current = legal.current;
  room = legal.room;
}

-- a row, by the section in which it stands
group_row_legal : (g : PlanDraftOf) (ws : List Text) → g.section ≡ section.Groups → Legal g → group_why g.groups ws ≡ None →
    Legal (record g { groups = groups_with g.groups ws })
group_row_legal g ws here legal none =
    let early : place_in_order g.section ≡ 1 = ap place_in_order here in
    record {
      groups = groups_keep g.groups ws legal.groups none;
      stages = no_stages_legal (length (groups_with g.groups ws)) g.stages (legal.no_stages (omega (arith, early)));
      start = legal.start;
      interstages = no_interstages_legal (length (groups_with g.groups ws)) g.stages g.interstages (legal.no_interstages (omega (arith, early)));
      no_stages = legal.no_stages;
      no_interstages = legal.no_interstages;
      current = λ e. absurd (omega (arith, early, e));
      room = legal.room;
    }

stage_row_legal : (g : PlanDraftOf) (ws : List Text) → g.section ≡ section.Stages → Legal g → stage_row_why g.groups g.stages g.after_stage ws ≡ None →
    Legal (record g { stages = stages_with g.groups g.stages ws; after_stage = is_stage_row ws })
stage_row_legal g ws here legal none =
    let second : place_in_order g.section ≡ 2 = ap place_in_order here in
    record {
      groups = legal.groups;
      stages = stages_keep g.groups g.stages g.after_stage ws legal.stages none;
      start = still_stage g.stages (stages_with g.groups g.stages ws) g.start (stages_grow g.groups g.stages ws) legal.start;
      interstages = no_interstages_legal (length g.groups) (stages_with g.groups g.stages ws) g.interstages (legal.no_interstages (omega (arith, second)));
      no_stages = λ le. absurd (omega (arith, second, le));
      no_interstages = legal.no_interstages;
      current = λ e. absurd (omega (arith, second, e));
      room = legal.room;
    }

start_row_legal : (g : PlanDraftOf) (ws : List Text) → Legal g → Legal (record g { start = start_with g.stages ws })
start_row_legal g ws legal = record {
  groups = legal.groups;
  stages = legal.stages;
  start = start_is g.stages ws;
  interstages = legal.interstages;
  no_stages = legal.no_stages;
  no_interstages = legal.no_interstages;
  current = legal.current;
  room = legal.room;
}

interstage_row_legal : (g : PlanDraftOf) (ws : List Text) → g.section ≡ section.Interstage → Legal g →
    interstage_row_why g.groups g.stages g.current ws ≡ None →
    Legal (record g { current = open_after g.groups g.stages g.current ws })
interstage_row_legal g ws here legal none =
    let fourth : place_in_order g.section ≡ 4 = ap place_in_order here in
    record {
      groups = legal.groups;
      stages = legal.stages;
      start = legal.start;
      interstages = legal.interstages;
      no_stages = legal.no_stages;
      no_interstages = legal.no_interstages;
      current = λ e. open_keeps g.groups g.stages g.current ws (legal.current fourth) none;
      room = legal.room;
    }

row_in_legal : (s : Section) (g : PlanDraftOf) (line : Text) → g.section ≡ s → Legal g → row_why_in s g line ≡ None → Legal (after_row_in s g line)
row_in_legal section.Before g line here legal none = legal
row_in_legal section.Groups g line here legal none = group_row_legal g (words false line) here legal none
row_in_legal section.Stages g line here legal none = stage_row_legal g (words false line) here legal none
row_in_legal section.Start g line here legal none = start_row_legal g (words false line) legal
row_in_legal section.Interstage g line here legal none = interstage_row_legal g (words true line) here legal none
row_in_legal section.End g line here legal none = legal

row_legal : (g : PlanDraftOf) (line : Text) → Legal g → row_why g line ≡ None → Legal (after_row g line)
unfolding row_why after_row
row_legal g line legal none =
    let one = none_first (not (is_text line)) _ _ none in
    row_in_legal g.section g line refl legal (none_next (row_why_in g.section g line) None one.1).0

-- what the end of a section leaves, whatever section is begun next
record IsClosed (g h : PlanDraftOf) : Type 0 where
  pub section : h.section ≡ g.section
  pub groups : h.groups ≡ g.groups
  pub stages : h.stages ≡ g.stages
  pub start : h.start ≡ g.start
  pub interstages : AreInterstages (length h.groups) h.stages h.interstages
  pub same : place_in_order g.section ≤ 3 → h.interstages ≡ g.interstages

whole_of : (g : PlanDraftOf) (o : Option InterstageOf) → interstage_of g.current ≡ o → Legal g → place_in_order g.section ≡ 4 →
    interstage_reasons g.groups g.stages g.interstages o ≡ None →
    AreInterstages (length g.groups) g.stages (interstages_with g.interstages o)
whole_of g None is legal fourth none = legal.interstages
whole_of g (Some w) is legal fourth none =
    one_interstage_more g.groups g.stages g.interstages w legal.interstages (legal.room fourth)
    (whole_interstage (length g.groups) g.stages g.current w (legal.current fourth) is) none

is_fourth : (s : Section) → is_interstage s ≡ true → place_in_order s ≡ 4
is_fourth section.Before e = cc
is_fourth section.Groups e = cc
is_fourth section.Stages e = cc
is_fourth section.Start e = cc
is_fourth section.Interstage e = refl
is_fourth section.End e = cc

ended_by : (b : Bool) (g : PlanDraftOf) → is_interstage g.section ≡ b → Legal g →
    (if b then with_line g.current.line (interstage_reasons g.groups g.stages g.interstages (interstage_of g.current)) else None) ≡ None →
    IsClosed g (if b then record g { interstages = interstages_with g.interstages (interstage_of g.current); current = open_at 0 0 } else g)
ended_by true g is legal none =
    let fourth = is_fourth g.section is in
    record {
      section = refl;
      groups = refl;
      stages = refl;
      start = refl;
      interstages = whole_of g (interstage_of g.current) refl legal fourth (at_none g.current.line _ none);
      same = λ le. absurd (omega (arith, fourth, le));
    }
ended_by false g is legal none = record { section = refl; groups = refl; stages = refl; start = refl; interstages = legal.interstages; same = λ le. refl }

ended_well : (g : PlanDraftOf) → Legal g → interstage_end_why g ≡ None → IsClosed g (after_section_end g)
unfolding interstage_end_why after_section_end
ended_well g legal none = ended_by (is_interstage g.section) g refl legal none

record Follows (a b : Section) : Type 0 where
  pub stages : place_in_order b ≤ 1 → place_in_order a ≤ 1
  pub interstages : place_in_order b ≤ 3 → place_in_order a ≤ 3

follows : (a b : Section) → may_follow a b ≡ true → Follows a b
follows section.Before section.Groups e = record { stages = λ le. omega arith; interstages = λ le. omega arith }
follows section.Groups section.Stages e = record { stages = λ le. omega arith; interstages = λ le. omega arith }
follows section.Stages section.Start e = record { stages = λ le. absurd (omega arith); interstages = λ le. omega arith }
follows section.Start section.Interstage e = record { stages = λ le. absurd (omega arith); interstages = λ le. omega arith }
follows section.Start section.End e = record { stages = λ le. absurd (omega arith); interstages = λ le. omega arith }
follows section.Interstage section.Interstage e = record { stages = λ le. absurd (omega arith); interstages = λ le. absurd (omega arith) }
follows section.Interstage section.End e = record { stages = λ le. absurd (omega arith); interstages = λ le. absurd (omega arith) }
follows _ _ e = cc

not_fourth : (s : Section) → is_interstage s ≡ false → place_in_order s ≡ 4 → ⊥
not_fourth section.Before e is = omega arith
not_fourth section.Groups e is = omega arith
not_fourth section.Stages e is = omega arith
not_fourth section.Start e is = omega arith
not_fourth section.Interstage e is = absurd (cc)
not_fourth section.End e is = omega arith

ended_no_stages : (g h : PlanDraftOf) (s : Section) → Legal g → IsClosed g h → may_follow h.section s ≡ true → place_in_order s ≤ 1 → h.stages ≡ []
ended_no_stages g h s legal is may le =
    let before = (follows h.section s may).stages le in
    is.stages ∙ legal.no_stages (omega (arith, before, ap place_in_order is.section))

ended_no_interstages : (g h : PlanDraftOf) (s : Section) → Legal g → IsClosed g h → may_follow h.section s ≡ true → place_in_order s ≤ 3 → h.interstages ≡ []
ended_no_interstages g h s legal is may le =
    let before = (follows h.section s may).interstages le in
    let early : place_in_order g.section ≤ 3 = omega (arith, before, ap place_in_order is.section) in
    is.same early ∙ legal.no_interstages early

-- a section line that is not refused
section_line_by : (b : Bool) (g h : PlanDraftOf) (s : Section) → is_interstage s ≡ b → Legal g → IsClosed g h → may_follow h.section s ≡ true →
    (b && nat_le 256 (length h.interstages)) ≡ false →
    Legal (if b then record h { section = s; current = open_at h.lines (length h.groups) } else record h { section = s })
section_line_by true g h s here legal is may room =
    let fourth = is_fourth s here in
    record {
      groups = rw is.groups legal.groups;
      stages = rw (is.groups, is.stages) legal.stages;
      start = rw (is.start, is.stages) legal.start;
      interstages = is.interstages;
      no_stages = λ le. absurd (omega (arith, fourth, le));
      no_interstages = λ le. absurd (omega (arith, fourth, le));
      current = λ e. open_begins (length h.groups) h.lines h.stages;
      room = λ e. leb-false 256 (length h.interstages) room;
    }
section_line_by false g h s here legal is may room = record {
  groups = rw is.groups legal.groups;
  stages = rw (is.groups, is.stages) legal.stages;
  start = rw (is.start, is.stages) legal.start;
  interstages = is.interstages;
  no_stages = ended_no_stages g h s legal is may;
  no_interstages = ended_no_interstages g h s legal is may;
  current = λ e. absurd (not_fourth s here e);
  room = λ e. absurd (not_fourth s here e);
}

section_legal : (g : PlanDraftOf) (s : Section) (line : Text) → Legal g → interstage_end_why g ≡ None →
    section_why (after_section_end g) s line ≡ None → Legal (after_section_line (after_section_end g) s)
unfolding section_why after_section_line
section_legal g s line legal ended none =
    let one = none_first (not (is_text line)) _ _ none in
    let two = none_first (not (may_follow (after_section_end g).section s)) _ _ one.1 in
    let three = none_first (is_interstage s && nat_le 256 (length (after_section_end g).interstages)) _ _ two.1 in
    section_line_by (is_interstage s) g (after_section_end g) s refl legal (ended_well g legal ended) (not-false _ two.0) three.0

kind_legal : (k : Kind) (g : PlanDraftOf) (line : Text) → Legal g → kind_why k g line ≡ None → Legal (after_kind k g line)
kind_legal Passed g line legal none = legal
kind_legal (Begins s) g line legal none =
    let both = none_next (interstage_end_why g) (with_line g.lines (section_why (after_section_end g) s line)) none in
    section_legal g s line legal both.0 (at_none g.lines _ both.1)
kind_legal Row g line legal none = row_legal g line legal (at_none g.lines _ none)

line_by : (b : Bool) (g : PlanDraftOf) (line : Text) → Legal g →
    (if b then None else kind_why (kind_of (words false line)) (at_next_line g) line) ≡ None →
    Legal (if b then at_next_line g else after_kind (kind_of (words false line)) (at_next_line g) line)
line_by true g line legal none = next_line_legal g legal
line_by false g line legal none = kind_legal (kind_of (words false line)) (at_next_line g) line (next_line_legal g legal) none

pub line_legal : (g : PlanDraftOf) (line : Text) → Legal g → line_why g line ≡ None → Legal (after_line g line)
unfolding line_why after_line
line_legal g line legal none = line_by (is_over g.section) g line legal none

-- what a file lacks, and its plan
-- nothing is lacking
pub record IsFull (g : PlanDraftOf) : Type 0 where
  pub groups : 1 ≤ length g.groups
  pub stages : 1 ≤ length g.stages
  pub start : is_some g.start ≡ true

some_length : {A : Type 0} (xs : List A) → (length xs == 0) ≡ false → 1 ≤ length xs
some_length [] e = cc
some_length (x ∷ xs) e = omega arith

pub is_full : (g : PlanDraftOf) → None ≡ missing_part g → IsFull g
unfolding missing_part
is_full g none =
    let one = none_first ((length g.groups == 0) || (length g.stages == 0)) _ _ (sym none) in
    let two = none_first (is_none g.start) _ _ one.1 in
    let both = or_parts (length g.groups == 0) (length g.stages == 0) one.0 in
    record { groups = some_length g.groups both.0; stages = some_length g.stages both.1; start = some_of g.start two.0 }

start_there : (stages : List Stage) (o : Option StageNo) → is_some o ≡ true → IfSome o (λ s. IsStage stages s.0) → IsStage stages (start_number o)
start_there stages None e h = cc
start_there stages (Some s) e h = h

greens_there : (stages : List Stage) (i : ℕ) → get_or (map (λ (s : Stage). s.greens) stages) i [] ≡ (get_or stages i (record { name = []; greens = [] })).greens
greens_there [] i = refl
greens_there (s ∷ ss) zero = refl
greens_there (s ∷ ss) (suc i) = greens_there ss i

interstage_there : (groups : List Group) (stages : List Stage) (start : ℕ) (interstages : List InterstageOf) (w : InterstageOf) →
    Leads (length groups) stages w → IsInterstageOf (plan_of groups stages start interstages) w
interstage_there groups stages start interstages w is =
    let size : length (map (λ (g : Group). g.name) groups) ≡ length groups = length-map groups (λ (g : Group). g.name) in
    let count : length (map (λ (s : Stage). s.greens) stages) ≡ length stages = length-map stages (λ (s : Stage). s.greens) in
    record {
      at_least = is.at_least;
      at_most = is.at_most;
      from = (is.from.0, omega (arith, is.from.1, count));
      to = (is.to.0, omega (arith, is.to.1, count));
      apart = is.apart;
      rows = is.rows ∙ sym size;
      ends = λ g lt. is.ends g (omega (arith, lt, size));
      consistent = λ g lt. rw (greens_there stages (w.from - 1), greens_there stages (w.to - 1)) (is.consistent g (omega (arith, lt, size)));
    }

pub plan_is : (g : PlanDraftOf) → AreGroups g.groups → AreStages (length g.groups) g.stages → IfSome g.start (λ s. IsStage g.stages s.0) →
    AreInterstages (length g.groups) g.stages g.interstages →
    IsFull g → IsPlan (plan_in g)
plan_is g groups stages start interstages full =
    let size : length (map (λ (g : Group). g.name) g.groups) ≡ length g.groups = length-map g.groups (λ (g : Group). g.name) in
    let numbers : length (map (λ (g : Group). g.number) g.groups) ≡ length g.groups = length-map g.groups (λ (g : Group). g.number) in
    let count : length (map (λ (s : Stage). s.greens) g.stages) ≡ length g.stages = length-map g.stages (λ (s : Stage). s.greens) in
    let called : length (map (λ (s : Stage). s.name) g.stages) ≡ length g.stages = length-map g.stages (λ (s : Stage). s.name) in
    let first = start_there g.stages g.start full.start start in
    record {
      has_groups = omega (arith, full.groups, size);
      groups_at_most = omega (arith, groups.at_most, size);
      numbered = numbers ∙ sym size;
      names = groups.names;
      apart = groups.apart;
      rising = groups.rising;
      stages_at_most = omega (arith, stages.at_most, count);
      named_stages = called ∙ sym count;
      stages = λ s lt. ap length (greens_there g.stages s) ∙ stages.greens s (omega (arith, lt, count)) ∙ sym size;
      stage_names = stages.names;
      stages_apart = stages.apart;
      start = (first.0, omega (arith, first.1, count));
      interstages_at_most = interstages.at_most;
      pairs_apart = interstages.apart;
      interstages = λ i lt. interstage_there g.groups g.stages (start_number g.start) g.interstages (get_or g.interstages i no_interstage)
          (interstages.each i lt);
    }

-- the plan of a file whose last section ended well, and that lacks nothing
pub ended_plan : (g h : PlanDraftOf) → Legal g → interstage_end_why g ≡ None → h ≡ after_section_end g → None ≡ missing_part h → IsPlan (plan_in h)
    × (is_some h.start ≡ true)
ended_plan g h legal ended is none =
    let well : IsClosed g h = subst (λ (x : PlanDraftOf). IsClosed g x) (sym is) (ended_well g legal ended) in
    let full = is_full h none in (
      plan_is h (rw well.groups legal.groups) (rw (well.groups, well.stages) legal.stages) (rw (well.start, well.stages) legal.start) well.interstages
          full,
      full.start,
    )
