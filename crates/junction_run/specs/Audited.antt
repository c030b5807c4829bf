-- What is written of a log that is judged.
use Rattle.std.specs.Prelude.{◌≡◌, ◌<◌, ◌+◌, ℕ, List, [], ◌∷◌, ◌++◌, codes, length, replicate, slice_index_or, Option, None, Some}
use Rattle.std.specs.Fmt.{decimal}
use Rattle.sig_types.specs.declared.aspect.Aspect.TheVariants.{Red}
use Rattle.sig_types.specs.declared.numbers.GroupNo.{GroupNo}
use Rattle.sig_types.specs.Rules.{Rules}
use Rattle.sig_types.specs.Turns.{Picture}
use Rattle.pua_model.specs.Plan.{PlanOf, groups_in, interstage_at}
use Rattle.controller.specs.Past.{Site}
use Rattle.sig_audit.specs.declared.trial.InterEnd.{InterEnd}
use Rattle.sig_audit.specs.declared.trial.InterEnd.TheVariants as inter
use Rattle.sig_audit.specs.declared.verdict.Verdict.{Verdict}
use Rattle.sig_audit.specs.declared.verdict.Verdict.TheVariants as verdict
use Rattle.sig_audit.specs.Trial.{IsInterEnd}
use Rattle.sig_audit.specs.Verdict.{IsVerdict}
use Rattle.signal_log.specs.Log.{name_of, rule_name, turn_text}

-- ---- what is judged

-- this becomes of the first n interstages of the plan, in its order
pub record AreEnds (plan : PlanOf) (r : Rules) (n : ℕ) (ends : List InterEnd) : Type 0 where
  pub count : length ends ≡ n
  pub each : (i : ℕ) → i < n → (d : InterEnd) → IsInterEnd plan r i (slice_index_or ends i d)

-- a log at a site is judged so: the verdict on its pictures after the all-red second 0, and what becomes of each interstage
pub record Judged (site : Site) (pictures : List Picture) : Type 0 where
  pub verdict : Verdict
  pub verdict_is : IsVerdict site.rules (replicate (groups_in site.plan) Red ∷ pictures) verdict
  pub ends : List InterEnd
  pub ends_are : AreEnds site.plan site.rules (length site.plan.interstages) ends

-- ---- its text

-- the name of the other group after a space, if there is one
abbrev pub other_name : List (List ℕ) → Option GroupNo → List ℕ
other_name names None = []
other_name names (Some other) = codes " " ++ name_of names other

-- SAFE and the number of records, or BROKEN and the first second, rule and group, and the other group if there is one
abbrev pub verdict_text : List (List ℕ) → Verdict → List ℕ
verdict_text names (verdict.Safe records) = codes "SAFE " ++ decimal records
verdict_text names (verdict.Broken second broken group other) =
    codes "BROKEN " ++ decimal second ++ codes " " ++ rule_name broken ++ codes " " ++ name_of names group ++ other_name names other

-- what becomes of an interstage; a refused turn after the second in which it is refused
abbrev pub end_text : List (List ℕ) → InterEnd → List ℕ
end_text names inter.Clean = codes "clean"
end_text names inter.Unsettled = codes "unsettled"
end_text names (inter.Refused t turn) = decimal t ++ codes " " ++ turn_text names turn

-- the line of interstage i: INTER, its two stages and what becomes of it
abbrev pub inter_text : PlanOf → ℕ → InterEnd → List ℕ
inter_text plan i end =
    codes "INTER " ++ decimal (interstage_at plan i).from ++ codes "-" ++ decimal (interstage_at plan i).to ++ codes " "
    ++ end_text plan.names end ++ codes "\n"

-- the lines of interstage i and of those after it
abbrev pub inters_text : PlanOf → ℕ → List InterEnd → List ℕ
inters_text plan i [] = []
inters_text plan i (end ∷ ends) = inter_text plan i end ++ inters_text plan (i + 1) ends

-- the line of the verdict, and a line for each interstage
unfoldable pub judged_text : PlanOf → Verdict → List InterEnd → List ℕ
judged_text plan verdict ends = verdict_text plan.names verdict ++ codes "\n" ++ inters_text plan 0 ends

-- this is the text of what is judged of a log with these pictures at a site
pub record IsAudit (site : Site) (pictures : List Picture) (text : List ℕ) : Type 0 where
  pub judged : Judged site pictures
  pub text_is : text ≡ judged_text site.plan judged.verdict judged.ends
