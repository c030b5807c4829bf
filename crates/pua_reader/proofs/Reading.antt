-- Lines that are read one after another.
use Rattle.std.proofs.Common.{◌≡◌, ℕ, suc, zero, ◌+◌, ◌<◌, ◌≤◌, Bool, true, false, List, [], ◌∷◌, length, take, drop, get_or, refl, sym, ap, ◌∙◌, arith, Option, Some, None, add-one, if◌then◌else◌, ne_eqb}
use Rattle.std.specs.Str.Lines.{lines}
use Rattle.std.proofs.Math.Seq.{drop-cons}
use Rattle.std.proofs.Math.ListN.{length-drop}
use Rattle.std.proofs.lemmas.List.{take_all}
use Rattle.std.proofs.lemmas.List.Sums.{fold_more}
use Rattle.std.specs.List.{starts_with}
use Rattle.std.specs.Prelude.{nat_eq, Result, Ok, Err, MatchResult, IfOk, IfErr, ◌==◌}
use Rattle.pua_model.specs.Plan.{PlanOf}
use Rattle.sig_types.specs.FirstRefused.{refused_to, first_refused}
use Rattle.sig_types.proofs.Refusals.{accepted_more, refused_here}
use Rattle.sig_types.specs.Text.{cut_at}
use Rattle.pua_reader.specs.declared.refusal.PuaWhy.{PuaWhy}
use Rattle.pua_reader.specs.declared.refusal.PuaRefusal.{PuaRefusal}
use Rattle.pua_reader.specs.declared.refusal.PuaRefusal.TheVariants.{Memory, At}
use Rattle.pua_reader.specs.declared.section.Section.{Section}
use Rattle.pua_reader.specs.declared.section.Section.TheVariants as section
use Rattle.pua_reader.specs.declared.section.Kind.{Kind}
use Rattle.pua_reader.specs.declared.section.Kind.TheVariants.{Passed, Begins, Row}
use Rattle.pua_reader.specs.Words.{Text, words, kind_of}
use Rattle.pua_reader.specs.Interstages.{open_at}
use Rattle.pua_reader.specs.PlanDraft.{PlanDraftOf, draft_of, judge, line_why, after_line, empty_draft, end_why, after_section_end, at_next_line, after_kind, is_over, after_section_line, is_interstage, after_row, after_row_in}
use Rattle.pua_reader.specs.Accepted.{lines_in, without_mark, refusal_of, plan_of_text, plan_in, RefusedAs}
use Rattle.pua_reader.specs.Legal.{Legal}
use Rattle.pua_reader.proofs.Keeps.{empty_draft_legal, line_legal}
use Rattle.pua_reader.proofs.Sections.{ended_lines}
use Rattle.pua_reader.proofs.TextLines.{next_line, last_line}

-- the lines so far are read and accepted, and these lines are left
pub record Reads (all left : List Text) (g : PlanDraftOf) : Type 0 where
  pub rest : left ≡ drop g.lines all
  pub inside : g.lines ≤ length all
  pub told : g ≡ draft_of (take g.lines all)
  pub none : refused_to judge all [] g.lines ≡ None
  pub legal : Legal g

-- each line is counted once
row_lines : (s : Section) (g : PlanDraftOf) (line : Text) → (after_row_in s g line).lines ≡ g.lines
row_lines section.Before g line = refl
row_lines section.Groups g line = refl
row_lines section.Stages g line = refl
row_lines section.Start g line = refl
row_lines section.Interstage g line = refl
row_lines section.End g line = refl

after_row_lines : (g : PlanDraftOf) (line : Text) → (after_row g line).lines ≡ g.lines
unfolding after_row
after_row_lines g line = row_lines g.section g line

section_line_lines : (b : Bool) (g : PlanDraftOf) (s : Section) →
    (if b then record g { section = s; current = open_at g.lines (length g.groups) } else record g { section = s }).lines ≡ g.lines
section_line_lines true g s = refl
section_line_lines false g s = refl

section_lines : (g : PlanDraftOf) (s : Section) → (after_section_line g s).lines ≡ g.lines
unfolding after_section_line
section_lines g s = section_line_lines (is_interstage s) g s

kind_lines : (k : Kind) (g : PlanDraftOf) (line : Text) → (after_kind k g line).lines ≡ g.lines
kind_lines Passed g line = refl
kind_lines (Begins s) g line = section_lines (after_section_end g) s ∙ ended_lines g
kind_lines Row g line = after_row_lines g line

after_kind_by : (b : Bool) (g : PlanDraftOf) (line : Text) →
    (if b then at_next_line g else after_kind (kind_of (words false line)) (at_next_line g) line).lines ≡ g.lines + 1
after_kind_by true g line = refl
after_kind_by false g line = kind_lines (kind_of (words false line)) (at_next_line g) line

after_line_lines : (g : PlanDraftOf) (line : Text) → (after_line g line).lines ≡ g.lines + 1
unfolding after_line
after_line_lines g line = after_kind_by (is_over g.section) g line

-- a text has at most as many lines as bytes
lines_cut : (n : ℕ) (bs : Text) (o : Option (List ℕ × List ℕ)) → cut_at 10 bs ≡ o → 0 < length bs → length bs ≤ suc n →
    ((r : Text) → length r ≤ n → length (lines r) ≤ length r) → length (lines bs) ≤ length bs
lines_cut n bs None is some le more = omega (arith, ap length (last_line bs is some))
lines_cut n bs (Some p) is some le more =
    let next = next_line bs p.0 p.1 is in
    omega (arith, ap length next.0, next.1, more p.1 (omega (arith, next.1)))

lines_fit : (n : ℕ) (bs : Text) → length bs ≤ n → length (lines bs) ≤ length bs
lines_fit n [] le = omega arith
lines_fit zero (b ∷ bs) le = absurd (omega arith)
lines_fit (suc n) (b ∷ bs) le = lines_cut n (b ∷ bs) (cut_at 10 (b ∷ bs)) refl (omega arith) le (λ r few. lines_fit n r few)

mark_fits : (b : Bool) (bs : Text) → length (if b then drop 3 bs else bs) ≤ length bs
mark_fits true bs = omega (arith, length-drop 3 bs)
mark_fits false bs = omega arith

pub few_lines : (bs : Text) → length (lines_in bs) ≤ length bs
unfolding lines_in
few_lines bs =
    let short = mark_fits (starts_with nat_eq bs (239 ∷ 187 ∷ 191 ∷ [])) bs in
    omega (arith, lines_fit (length (without_mark bs)) (without_mark bs) (omega arith), short)

draft_of_none : empty_draft ≡ draft_of []
unfolding draft_of
draft_of_none = refl

none_yet : (all : List Text) → refused_to judge all [] 0 ≡ None
unfolding refused_to
none_yet all = refl

pub reads_begin : (bs : Text) → Reads (lines_in bs) (lines (without_mark bs)) empty_draft
unfolding lines_in
reads_begin bs = record {
  rest = refl;
  inside = omega arith;
  told = draft_of_none;
  none = none_yet (lines (without_mark bs));
  legal = empty_draft_legal;
}

pub record HeadAt (all : List Text) (k : ℕ) (line : Text) (more : List Text) : Type 0 where
  pub inside : k < length all
  pub here : get_or all k [] ≡ line
  pub after : drop (k + 1) all ≡ more

cons_parts : (x y : Text) (xs ys : List Text) → x ∷ xs ≡ y ∷ ys → (x ≡ y) × (xs ≡ ys)
cons_parts x y xs ys e = (cc, cc)

head_at : (all : List Text) (k : ℕ) (line : Text) (more : List Text) → drop k all ≡ line ∷ more → HeadAt all k line more
head_at all k line more e =
    let long : k < length all = omega (arith, length-drop k all, ap length e) in
    let parts = cons_parts (get_or all k []) line (drop (suc k) all) more (sym (drop-cons all k [] long) ∙ e) in
    record { inside = long; here = parts.0; after = rw add-one parts.1 }

pub head_of : (all left : List Text) (g : PlanDraftOf) (line : Text) (more : List Text) → Reads all left g → left ≡ line ∷ more → HeadAt all g.lines line more
head_of all left g line more reads next = head_at all g.lines line more (sym reads.rest ∙ next)

pub draft_of_more : (all : List Text) (k : ℕ) → k < length all → draft_of (take (k + 1) all) ≡ after_line (draft_of (take k all)) (get_or all k [])
unfolding draft_of
draft_of_more all k lt = fold_more after_line empty_draft all k [] lt

pub reads_more : (all left : List Text) (g : PlanDraftOf) (line : Text) (more : List Text) → Reads all left g → left ≡ line ∷ more → line_why g line ≡ None →
    Reads all more (after_line g line)
reads_more all left g line more reads next none =
    let head = head_of all left g line more reads next in
    let count = after_line_lines g line in
    let same : judge (take g.lines all) (get_or all g.lines []) ≡ None = rw (← reads.told, head.here) none in
    record {
      rest = sym (ap (λ (k : ℕ). drop k all) count ∙ head.after);
      inside = omega (arith, count, head.inside);
      told = ap (λ (h : PlanDraftOf). after_line h line) reads.told ∙ ap (after_line (draft_of (take g.lines all))) (sym head.here)
          ∙ sym (draft_of_more all g.lines head.inside) ∙ ap (λ (k : ℕ). draft_of (take k all)) (sym count);
      none = rw count (accepted_more judge all [] g.lines reads.none same);
      legal = line_legal g line reads.legal none;
    }

refused_at : (bs : Text) (found : ℕ × PuaWhy) → first_refused judge (lines_in bs) [] ≡ Some found → refusal_of bs ≡ Some found
unfolding refusal_of
refused_at bs found e = rw e refl

pub line_refused : (bs : Text) (left : List Text) (g : PlanDraftOf) (line : Text) (more : List Text) (r : PuaRefusal) → Reads (lines_in bs) left g →
    left ≡ line ∷ more →
    RefusedAs r (line_why g line) → RefusedAs r (refusal_of bs)
line_refused bs left g line more Memory reads next is = tt
line_refused bs left g line more (At n why) reads next is =
    let head = head_of (lines_in bs) left g line more reads next in
    let here : judge (take g.lines (lines_in bs)) (get_or (lines_in bs) g.lines []) ≡ Some (n, why) = rw (← reads.told, head.here) is in
    refused_at bs (n, why) (refused_here judge (lines_in bs) [] (n, why) g.lines reads.none head.inside here)

-- all lines are read
record AllRead (all : List Text) (g : PlanDraftOf) : Type 0 where
  pub told : g ≡ draft_of all
  pub none : first_refused judge all [] ≡ None

all_read : (all left : List Text) (g : PlanDraftOf) → Reads all left g → left ≡ [] → AllRead all g
all_read all left g reads none =
    let gone : drop g.lines all ≡ [] = sym reads.rest ∙ none in
    let whole : g.lines ≡ length all = omega (arith, length-drop g.lines all, ap length gone, reads.inside) in
    record {
      told = reads.told ∙ ap draft_of (take_all g.lines all (omega (arith, whole)));
      none = ap (refused_to judge all []) (sym whole) ∙ reads.none;
    }

end_of_text : (bs : Text) (g : PlanDraftOf) → AllRead (lines_in bs) g → refusal_of bs ≡ end_why g
unfolding refusal_of
end_of_text bs g read = rw (read.none, read.told) refl

plan_at_end : (bs : Text) (g : PlanDraftOf) → AllRead (lines_in bs) g → plan_in (after_section_end g) ≡ plan_of_text bs
unfolding plan_of_text
plan_at_end bs g read = ap (λ (h : PlanDraftOf). plan_in (after_section_end h)) read.told

pub text_accepted : (bs : Text) (left : List Text) (g : PlanDraftOf) → Reads (lines_in bs) left g → left ≡ [] → end_why g ≡ None →
    (refusal_of bs ≡ None) × (plan_in (after_section_end g) ≡ plan_of_text bs)
text_accepted bs left g reads none ended =
    let read = all_read (lines_in bs) left g reads none in
    (end_of_text bs g read ∙ ended, plan_at_end bs g read)

pub text_refused : (bs : Text) (left : List Text) (g : PlanDraftOf) (r : PuaRefusal) → Reads (lines_in bs) left g → left ≡ [] →
    RefusedAs r (end_why g) → RefusedAs r (refusal_of bs)
text_refused bs left g Memory reads none is = tt
text_refused bs left g (At n why) reads none is = end_of_text bs g (all_read (lines_in bs) left g reads none) ∙ is

pub nothing_left : (bs : Text) → true ≡ (length bs == 0) → lines bs ≡ []
nothing_left [] e = refl
nothing_left (b ∷ bs) e =
    let ne : (length (b ∷ bs) == 0) ≡ false = ne_eqb (length (b ∷ bs)) 0 (λ z. omega arith) in
    let both : true ≡ false = e ∙ ne in
    absurd (cc)

-- what the reader answers at the end of a text
pub accepted_by : (r : Result PlanOf PuaRefusal) (bs : Text) (left : List Text) (g : PlanDraftOf) → Reads (lines_in bs) left g → left ≡ [] →
    MatchResult r (λ plan. (end_why g ≡ None) × (plan ≡ plan_in (after_section_end g))) (λ e. RefusedAs e (end_why g)) →
    IfOk r (λ plan. (refusal_of bs ≡ None) × (plan ≡ plan_of_text bs))
accepted_by (Ok plan) bs left g reads none told =
    let all = text_accepted bs left g reads none told.0 in
    (all.0, told.1 ∙ all.1)
accepted_by (Err e) bs left g reads none told = tt

pub refused_by : (r : Result PlanOf PuaRefusal) (bs : Text) (left : List Text) (g : PlanDraftOf) → Reads (lines_in bs) left g → left ≡ [] →
    MatchResult r (λ plan. (end_why g ≡ None) × (plan ≡ plan_in (after_section_end g))) (λ e. RefusedAs e (end_why g)) →
    IfErr r (λ e. RefusedAs e (refusal_of bs))
refused_by (Ok plan) bs left g reads none told = tt
refused_by (Err e) bs left g reads none told = text_refused bs left g e reads none told
