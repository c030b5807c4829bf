-- An accepted file's plan is a plan.
use Rattle.std.proofs.Common.{◌≡◌, ℕ, zero, suc, ◌≤◌, List, [], length, take, get_or, None, refl, sym, arith, add-one}
use Rattle.std.proofs.lemmas.List.{take_all}
use Rattle.sig_types.specs.FirstRefused.{refused_to, first_refused, with_line}
use Rattle.pua_model.specs.Plan.{IsPlan}
use Rattle.pua_reader.specs.Words.{Text}
use Rattle.pua_reader.specs.PlanDraft.{draft_of, judge, after_section_end, end_why, interstage_end_why, missing_part}
use Rattle.pua_reader.specs.Accepted.{lines_in, refusal_of, plan_of_text, plan_in}
use Rattle.pua_reader.specs.Laws.{PlansAreWhole}
use Rattle.pua_reader.specs.Legal.{Legal}
use Rattle.pua_reader.proofs.Small.{at_none, none_next}
use Rattle.pua_reader.proofs.Keeps.{empty_draft_legal, line_legal, ended_plan}
use Rattle.pua_reader.proofs.Reading.{draft_of_more}

legal_none : Legal (draft_of [])
unfolding draft_of
legal_none = empty_draft_legal

-- what accepted lines tell is within all limits
legal_to : (all : List Text) (n : ℕ) → n ≤ length all → refused_to judge all [] n ≡ None → Legal (draft_of (take n all))
unfolding refused_to
legal_to all zero le none = legal_none
legal_to all (suc n) le none =
    let parts = none_next (refused_to judge all [] n) (judge (take n all) (get_or all n [])) none in
    let next = line_legal (draft_of (take n all)) (get_or all n []) (legal_to all n (omega (arith, le)) parts.0) parts.1 in
    rw (← add-one, draft_of_more all n (omega (arith, le))) next

draft_ends : (lines : List Text) → first_refused judge lines [] ≡ None → end_why (draft_of lines) ≡ None → IsPlan (plan_in (after_section_end (draft_of lines)))
unfolding end_why
draft_ends lines none ended =
    let legal = rw (take_all (length lines) lines (omega arith)) at (legal_to lines (length lines) (omega arith) none) in
    let parts = none_next (interstage_end_why (draft_of lines)) (with_line 0 (missing_part (after_section_end (draft_of lines)))) ended in
    (ended_plan (draft_of lines) (after_section_end (draft_of lines)) legal parts.0 refl (sym (at_none 0 _ parts.1))).0

pub plans_are_whole : PlansAreWhole
unfolding refusal_of plan_of_text
plans_are_whole bytes none =
    let parts = none_next (first_refused judge (lines_in bytes) []) (end_why (draft_of (lines_in bytes))) none in
    draft_ends (lines_in bytes) parts.0 parts.1
