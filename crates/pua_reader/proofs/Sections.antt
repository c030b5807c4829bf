-- Section lines, and the end of a file.
use Rattle.std.proofs.Common.{◌≡◌, Bool, true, false, Some, None, refl, sym, ap, ◌∙◌, if◌then◌else◌}
use Rattle.std.specs.Option.{option_or}
use Rattle.sig_types.specs.FirstRefused.{with_line}
use Rattle.pua_reader.specs.declared.refusal.PuaWhy.{PuaWhy}
use Rattle.pua_reader.specs.declared.section.Section.{Section}
use Rattle.pua_reader.specs.Words.{Text}
use Rattle.pua_reader.specs.Interstages.{open_at, interstage_of, interstages_with}
use Rattle.pua_reader.specs.PlanDraft.{PlanDraftOf, interstage_end_why, after_section_end, section_why, is_interstage, missing_part, end_why}

lines_by : (b : Bool) (g : PlanDraftOf) →
    (if b then record g { interstages = interstages_with g.interstages (interstage_of g.current); current = open_at 0 0 } else g).lines ≡ g.lines
lines_by true g = refl
lines_by false g = refl

pub ended_lines : (g : PlanDraftOf) → (after_section_end g).lines ≡ g.lines
unfolding after_section_end
ended_lines g = lines_by (is_interstage g.section) g

-- a section line is refused, and the section before it ended well
pub section_refused : (g new : PlanDraftOf) (s : Section) (line : Text) (why : PuaWhy) → interstage_end_why g ≡ None → new ≡ after_section_end g →
    Some why ≡ section_why new s line →
    option_or (interstage_end_why g) (with_line g.lines (section_why (after_section_end g) s line)) ≡ Some (new.lines, why)
section_refused g new s line why ended is refused =
    let here : section_why (after_section_end g) s line ≡ Some why = rw (← is) (sym refused) in
    let count : new.lines ≡ g.lines = ap (λ (h : PlanDraftOf). h.lines) is ∙ ended_lines g in
    rw (ended, here, count) refl

-- a file ends, and its last section ended well
pub end_refused : (g new : PlanDraftOf) (why : PuaWhy) → interstage_end_why g ≡ None → new ≡ after_section_end g → Some why ≡ missing_part new →
    end_why g ≡ Some (0, why)
unfolding end_why
end_refused g new why ended is refused =
    let here : missing_part (after_section_end g) ≡ Some why = rw (← is) (sym refused) in
    rw (ended, here) refl

pub end_accepted : (g new : PlanDraftOf) → interstage_end_why g ≡ None → new ≡ after_section_end g → None ≡ missing_part new → end_why g ≡ None
unfolding end_why
end_accepted g new ended is fits =
    let here : missing_part (after_section_end g) ≡ None = rw (← is) (sym fits) in
    rw (ended, here) refl
