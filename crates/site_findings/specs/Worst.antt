-- The line that tells the worst case of a site.
use Rattle.std.specs.Prelude.{ℕ, List, [], ◌++◌, codes, Option, Some, None}
use Rattle.std.specs.Fmt.{decimal}
use Rattle.sig_types.specs.declared.numbers.GroupNo.{GroupNo}
use Rattle.pua_model.specs.Plan.{PlanOf}
use Rattle.sig_response.specs.declared.worst.Cause.{Cause}
use Rattle.sig_response.specs.declared.worst.Cause.TheVariants as cause
use Rattle.sig_response.specs.declared.worst.WorstCase.{WorstCase}
use Rattle.site_findings.specs.Reasons.{group_text}

-- that a group in conflict holds it back by its minimum green, and by what comes after it
unfoldable pub held_text : Option PlanOf → GroupNo → List ℕ → List ℕ
held_text plan other after = codes "minimum green of " ++ group_text plan other ++ after

-- why a group takes so many seconds
abbrev pub cause_text : Option PlanOf → Cause → List ℕ
cause_text plan cause.MinimumGreen = codes "its minimum green and amber"
cause_text plan cause.MinimumRed = codes "its amber and minimum red"
cause_text plan (cause.Intergreen other) = held_text plan other (codes " and intergreen from it")
cause_text plan (cause.RedAmber other) = held_text plan other (codes " and red-amber after it")

-- the seconds of the worst case, the group that takes them, and why
unfoldable pub case_text : Option PlanOf → WorstCase → List ℕ
case_text plan worst =
    codes "worst case: " ++ decimal worst.seconds ++ codes " s from a wish to what is shown (" ++ group_text plan worst.group
    ++ codes ": " ++ cause_text plan worst.cause ++ codes ")\n"

-- the line of the worst case; none where the site isn't known
abbrev pub worst_text : Option PlanOf → Option WorstCase → List ℕ
worst_text plan None = []
worst_text plan (Some worst) = case_text plan worst
