-- What is known of the plan of a site that was loaded.
use Rattle.std.proofs.Common.{◌≡◌, ◌∙◌, ℕ, Bool, true, false, List, length, Option, None, Some, Result, Ok, Err, refl, ap, subst}
use Rattle.std.specs.Prelude.{if◌then◌else◌, nat_lt}
use Rattle.sig_io.specs.Outside.{Contents}
use Rattle.pua_model.specs.Plan.{PlanOf, are_names}
use Rattle.pua_reader.specs.declared.refusal.PuaWhy.{PuaWhy}
use Rattle.pua_reader.specs.Accepted.{refusal_of, plan_of_text}
use Rattle.pua_lines.specs.StageWords.{stage_words}
use Rattle.pua_lines.proofs.StageLines.{stage_words_are_names}
use Rattle.site_load.specs.declared.stop.SiteStop.{SiteStop}
use Rattle.site_load.specs.Loading.{Refusal, ReachedInSite, Site, SiteFiles, TooLong, Unloaded, ◌>>=◌, intergreens_at, plan_at, plan_refusal, site_of, text_limit, times_at, unless_refused}
use Rattle.site_load.specs.Stop.{IsAt, IsLoadStop, IsUnread}
use Rattle.site_load.proofs.Loads.{judged_unread, no_plan}
use Rattle.pua_reader.proofs.PlansKept.{plans_are_whole}
use Rattle.report_judged.specs.SiteParts.{short_names}
use Rattle.report_judged.proofs.SiteMore.{short_names_same}

-- what goes on has a value
goes : {A B : Type 0} (r : Result A Unloaded) (f : A → Result B Unloaded) (y : B) → (r >>= f) ≡ Ok y → (x : A) × ((r ≡ Ok x) × (f x ≡ Ok y))
goes (Ok x) f y is = (x, (refl, is))
goes (Err e) f y is = absurd (cc)

accepted : {A : Type 0} (b : Bool) (word : List ℕ) (refusal : Option Refusal) (value x : A) →
    (if b then Err (TooLong word) else unless_refused word refusal value) ≡ Ok x → (refusal ≡ None) × (value ≡ x)
accepted true word refusal value x is = absurd (cc)
accepted false word None value x is = (refl, cc)
accepted false word (Some at) value x is = absurd (cc)

no_refusal : (refusal : Option (ℕ × PuaWhy)) → plan_refusal refusal ≡ None → refusal ≡ None
no_refusal None is = refl
no_refusal (Some at) is = absurd (cc)

abbrev plan_or : PlanOf → Result Site Unloaded → PlanOf
plan_or plan (Ok s) = s.plan
plan_or plan (Err e) = plan

-- the plan is that of its file, which is accepted
plan_is : (words : SiteFiles) (file : Contents) (site : Site) → site_of words file ≡ Ok site →
    (refusal_of (file words.plan) ≡ None) × (plan_of_text (file words.plan) ≡ site.plan)
plan_is words file site is =
    let first = goes (plan_at file words.plan) _ site is in
    let second = goes (times_at file words.times first.0) _ site first.1.1 in
    let third = goes (intergreens_at file words.intergreens first.0) _ site second.1.1 in
    let same : first.0 ≡ site.plan = ap (plan_or first.0) third.1.1 in
    let of = accepted (nat_lt text_limit (length (file words.plan))) words.plan (plan_refusal (refusal_of (file words.plan))) (plan_of_text (file words.plan))
    first.0 first.1.0 in
    (no_refusal (refusal_of (file words.plan)) of.0, of.1 ∙ same)

-- the first words of the lines that give a stage are the names of its stages
pub words_are : (words : SiteFiles) (file : Contents) (site : Site) → site_of words file ≡ Ok site → stage_words (file words.plan) ≡ site.plan.stage_names
words_are words file site is =
    let plan = plan_is words file site is in
    stage_words_are_names (file words.plan) plan.0 ∙ ap (λ (p : PlanOf). p.stage_names) plan.1

-- and they are no other as names
pub names_are : (words : SiteFiles) (file : Contents) (site : Site) → site_of words file ≡ Ok site → short_names (stage_words (file words.plan)) ≡ site.plan.stage_names
names_are words file site is =
    let plan = plan_is words file site is in
    ap short_names (words_are words file site is)
    ∙ short_names_same site.plan.stage_names (subst (λ (p : PlanOf). are_names p.stage_names ≡ true) plan.1 (plans_are_whole (file words.plan) plan.0).stage_names)

-- the file of the plan can't be read again
pub names_unread : (words : SiteFiles) (file : Contents) (stop : SiteStop) → IsUnread (file words.plan) stop → IsAt words.plan stop →
    IsLoadStop (λ w. ReachedInSite words file w) stop (site_of words file)
names_unread words file stop is at =
    no_plan words file stop (judged_unread stop words.plan (file words.plan) (plan_refusal (refusal_of (file words.plan))) (plan_of_text (file words.plan)) is at)
