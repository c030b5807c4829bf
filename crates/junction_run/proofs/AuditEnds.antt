-- How an audit ends.
use Rattle.std.proofs.Common.{◌≡◌, ◌∙◌, ℕ, List, [], ◌∷◌, ◌++◌, length, replicate, Option, None, Some, Result, Ok, Err, refl, sym, ap, subst, inl}
use Rattle.std.specs.Prelude.{codes}
use Rattle.std.specs.Option.{ForSome}
use Rattle.sig_io.specs.Outside.{Contents}
use Rattle.sig_types.specs.declared.aspect.Aspect.TheVariants.{Red}
use Rattle.sig_types.specs.Rules.{Rules}
use Rattle.sig_types.specs.Turns.{Picture}
use Rattle.pua_model.specs.Plan.{PlanOf, groups_in}
use Rattle.controller.specs.Past.{Site}
use Rattle.log_read.specs.declared.pictures.LogPictures.{LogPictures}
use Rattle.log_read.specs.Answers.{Reads}
use Rattle.sig_audit.specs.declared.auditor.Auditor.{Auditor}
use Rattle.sig_audit.specs.declared.trial.InterEnd.{InterEnd}
use Rattle.sig_audit.specs.declared.verdict.Verdict.{Verdict}
use Rattle.sig_audit.specs.Judged.{StandsFor}
use Rattle.sig_audit.specs.Verdict.{IsVerdict}
use Rattle.sig_tables.specs.declared.times.TimesRow.{TimesRow}
use Rattle.sig_tables.specs.Pairs.{Pairs}
use Rattle.sig_tables.specs.SiteRules.{rules_of}
use Rattle.junction_run.specs.declared.stop.LineReason.TheVariants.{Frame, Record}
use Rattle.junction_run.specs.declared.stop.LoadStop.{LoadStop}
use Rattle.junction_run.specs.declared.stop.PlayStop.{PlayStop}
use Rattle.junction_run.specs.declared.stop.PlayStop.TheVariants.{ReadFault, WriteFault, RefusedLine}
use Rattle.junction_run.specs.declared.stop.Stop.{Stop}
use Rattle.junction_run.specs.declared.stop.Stop.TheVariants.{Load, Play}
use Rattle.junction_run.specs.Answer.{line_note}
use Rattle.junction_run.specs.Audited.{AreEnds, IsAudit, verdict_text, inters_text, judged_text}
use Rattle.junction_run.specs.Ended.{IsEnded}
use Rattle.junction_run.specs.Form.{SiteWords, Audit}
use Rattle.junction_run.specs.Loading.{Logged, IsLogged, Loads, LogAfterSite, Reached, ReachedAfterSite, ReachedInSite, site_of}
use Rattle.junction_run.specs.LogJudged.{IsAudited, IsJudgedLog}
use Rattle.log_read.specs.Whys.{why_name}
use Rattle.junction_run.specs.Stop.{IsLoadStop, IsUnloadedBy}
use Rattle.junction_run.proofs.Ends.{append_known-nil}
use Rattle.junction_run.proofs.Texts.{unloaded_later}

-- these pictures of a log were read, and judged
pub record SoFar (auditor : Auditor) (lines : LogPictures) (told : Option Contents) (name : List ℕ) (plan : PlanOf) (r : Rules) : Type 0 where
  pub pictures : List Picture
  pub stands : StandsFor auditor r (replicate (groups_in plan) Red ∷ pictures)
  pub reads : ForSome told (λ file. Reads lines plan.names (file name) pictures)

-- at the start
pub none_read : (auditor : Auditor) (lines : LogPictures) (told : Option Contents) (name : List ℕ) (plan : PlanOf) (r : Rules) →
    StandsFor auditor r (replicate (groups_in plan) Red ∷ []) → ((names : List (List ℕ)) (bytes : List ℕ) → Reads lines names bytes []) →
    SoFar auditor lines told name plan r
none_read auditor lines told name plan r stands reads = record { pictures = []; stands = stands; reads = λ file e. reads plan.names (file name) }

-- a log that wasn't judged to its end brings nothing to out
pub judged_stop : (A : Type 0) (site : Site) (name bytes : List ℕ) (stop : PlayStop) (out : Option (List ℕ)) → IsJudgedLog site name bytes (Err stop) →
    IsAudited {A = A} site name bytes (Err (Play stop)) out out
judged_stop A site name bytes (ReadFault w) out is = (is, refl)
judged_stop A site name bytes WriteFault out is = absurd is
judged_stop A site name bytes (RefusedLine w line (Frame why)) out is = absurd is
judged_stop A site name bytes (RefusedLine w line (Record why)) out is = (is.0, refl, is.1, is.2)

-- the same at the tables that a guard keeps
pub judged_at : (plan : PlanOf) (times times' : List TimesRow) (pairs pairs' : Pairs) (name read : List ℕ) (file : Contents) (r : Result Verdict PlayStop) →
    times ≡ times' → pairs ≡ pairs' → read ≡ name → IsJudgedLog (record { plan = plan; rules = rules_of times pairs }) name (file read) r →
    IsJudgedLog (record { plan = plan; rules = rules_of times' pairs' }) name (file name) r
judged_at plan times times' pairs pairs' name read file r same both named is =
    subst (λ n. IsJudgedLog (record { plan = plan; rules = rules_of times' pairs' }) name (file n) r) named
    (subst (λ rules. IsJudgedLog (record { plan = plan; rules = rules }) name (file read) r) (λ j. rules_of (same j) (both j)) is)

-- what is judged has its text
pub audit_is : (site : Site) (pictures : List Picture) (verdict : Verdict) (ends : List InterEnd) →
    IsVerdict site.rules (replicate (groups_in site.plan) Red ∷ pictures) verdict →
    AreEnds site.plan site.rules (length site.plan.interstages) ends → IsAudit site pictures (judged_text site.plan verdict ends)
audit_is site pictures verdict ends is are = record { judged = record { verdict = verdict; verdict_is = is; ends = ends; ends_are = are }; text_is = refl }

-- the pieces of the text
pub judged_text-is : (plan : PlanOf) (verdict : Verdict) (ends : List InterEnd) →
    (verdict_text plan.names verdict ++ codes "\n") ++ inters_text plan 0 ends ≡ judged_text plan verdict ends
unfolding judged_text
judged_text-is plan verdict ends = refl

-- ---- the command

-- where the site isn't taken, no log is
pub no_log : (log : List ℕ) (words : SiteWords) (file : Contents) (stop : LoadStop) → IsLoadStop (λ w. ReachedInSite words file w) stop (site_of words file) →
    IsUnloadedBy (Loads (Audit log words) file) (Reached (Audit log words) file) stop
no_log log words file stop is =
    unloaded_later (λ r. site_of words file ≡ r) (Loads (Audit log words) file) (λ w. ReachedInSite words file w) (Reached (Audit log words) file)
    (λ u at. subst (λ r. LogAfterSite r (file log) (Err u)) (sym at) refl) (λ w reached. ReachedAfterSite.at_site w reached) stop is

loads_log : (log : List ℕ) (words : SiteWords) (file : Contents) (site : Site) (logged : Logged) → site_of words file ≡ Ok site →
    IsLogged site (file log) logged →
    Loads (Audit log words) file (Ok logged)
loads_log log words file site logged at is = subst (λ r. LogAfterSite r (file log) (Ok logged)) (sym at) (logged, is, refl)

pub audit_ended : {A : Type 0} (log : List ℕ) (words : SiteWords) (file : Contents) (site : Site) (r : Result A Stop) (old new : Option (List ℕ)) →
    site_of words file ≡ Ok site →
    IsAudited site log (file log) r old new → IsEnded (Audit log words) file r old new
audit_ended log words file site (Ok x) old new at is =
    let logged : Logged = record { site = site; pictures = is.0; refusal = None } in
    (Ok logged, loads_log log words file site logged at (refl, is.1), refl, (is.2, is.3, is.4))
audit_ended {A} log words file site (Err (Load stop)) old new at is =
    subst (λ s. IsEnded {B = A} (Audit log words) file (Err (Load s)) old new) (sym is.0) (is.1, tt)
audit_ended log words file site (Err (Play (ReadFault w))) old new at is =
    (inl is.1, (w.now, subst (λ n. ReachedAfterSite log words file n) (sym is.0) (ReachedAfterSite.at_last site at), refl))
audit_ended log words file site (Err (Play WriteFault)) old new at is =
    let logged : Logged = record { site = site; pictures = is.0; refusal = None } in
    ((Ok logged, loads_log log words file site logged at (refl, is.1), is.2, is.3, is.4, is.5), tt)
audit_ended log words file site (Err (Play (RefusedLine w line (Frame why)))) old new at is = absurd is
audit_ended log words file site (Err (Play (RefusedLine w line (Record why)))) old new at is =
    let logged : Logged = record { site = site; pictures = is.2; refusal = Some (line, why) } in
    let loads = loads_log log words file site logged at (refl, is.3) in (
      (Ok logged, loads, refl, ([], refl, is.1 ∙ sym (append_known-nil old))),
      (Ok logged, loads, refl, ap (λ v. line_note v line (why_name why)) is.0),
    )
