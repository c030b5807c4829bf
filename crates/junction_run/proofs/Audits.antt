-- What is judged of a log, and its text.
use Rattle.std.proofs.Common.{◌≡◌, ◌∙◌, ℕ, zero, suc, ◌+◌, ◌-◌, ◌<◌, Bool, true, false, List, [], ◌∷◌, ◌++◌, length, get_or, replicate, codes, Option, None, Some, Result, Ok, Err, refl, sym, ap, subst, arith, inl, inr, length-append, append_assoc}
use Rattle.std.proofs.lemmas.Bool.{cases_eq}
use Rattle.std.proofs.lemmas.List.{append-nil, ext_get_or, get_or-append_right, get_or_append_left, get_or-replicate, length-replicate}
use Rattle.std.specs.Fmt.{decimal}
use Rattle.std.specs.Prelude.{is_some}
use Rattle.sig_types.specs.declared.aspect.Aspect.TheVariants.{Red}
use Rattle.sig_types.specs.declared.refused.TurnRefusal.{TurnRefusal}
use Rattle.sig_types.specs.Rules.{Rules}
use Rattle.sig_types.specs.Text.{fed_lines}
use Rattle.sig_types.specs.Turns.{Picture}
use Rattle.sig_types.specs.Words.{least_below}
use Rattle.sig_types.proofs.LastBelow.{least_below-some}
use Rattle.pua_model.specs.Plan.{PlanOf, groups_in, interstage_at}
use Rattle.sig_guard.specs.Safety.{IsHistory}
use Rattle.controller.specs.Past.{Site}
use Rattle.log_read.specs.declared.refusal.LogWhy.{LogWhy}
use Rattle.log_read.specs.Log.{HasEntries, line_at}
use Rattle.log_read.specs.Readings.{IsPictures, pictures_by}
use Rattle.log_read.specs.declared.begin.Begin.TheVariants.{AtOne}
use Rattle.log_read.proofs.LogLaws.{one_pictures, some_pictures}
use Rattle.log_read.proofs.RecordForms.{record_parts}
use Rattle.sig_audit.specs.declared.trial.InterEnd.{InterEnd}
use Rattle.sig_audit.specs.declared.trial.InterEnd.TheVariants as inter
use Rattle.sig_audit.specs.Trial.{EndsAs, IsInterEnd, first_turn, is_settled, refused_in}
use Rattle.sig_audit.proofs.EachJudged.{each_has_verdict}
use Rattle.sig_audit.proofs.VerdictLaws.{one_verdict}
use Rattle.junction_run.specs.Audited.{AreEnds, Judged, end_text, inter_text, inters_text, judged_text, IsAudit}
use Rattle.junction_run.specs.Laws.{LogsHaveOneAnswer, LogsHaveOneAudit}
use Rattle.junction_run.specs.Loading.{Unloaded, Logged, IsLogged, LogAfterSite, site_of}
use Rattle.junction_run.proofs.LoadedRuns.{IsSound, site_sound}

-- ---- the answer of a log

-- two answers of a log are the same
logged_so : (site : Site) (a b : Logged) → a.site ≡ site → b.site ≡ site → a.pictures ≡ b.pictures → a.refusal ≡ b.refusal → a ≡ b
logged_so site a b at at' pictures refusal = λ j. record { site = (at ∙ sym at') j; pictures = pictures j; refusal = refusal j }

pub one_log : (site : Site) (bytes : List ℕ) (a b : Logged) → IsLogged site bytes a → IsLogged site bytes b → a ≡ b
one_log site bytes a b p q =
    let same = one_pictures AtOne site.plan.names bytes a.pictures b.pictures a.refusal b.refusal p.1 q.1 in
    logged_so site a b p.0 q.0 same.0 same.1

pub logs_have_one_answer : LogsHaveOneAnswer
logs_have_one_answer site bytes =
    let some = some_pictures AtOne site.plan.names bytes in
    let logged : Logged = record { site = site; pictures = some.0; refusal = some.1.0 } in
    (logged, (refl, some.1.1), λ other is. one_log site bytes other logged is (refl, some.1.1))

-- ---- what becomes of the interstages

-- an interstage ends in one way
one_end_by : (settled : Bool) (refused : ℕ → List TurnRefusal) (first : Option ℕ) (a b : InterEnd) → EndsAs settled refused first a →
    EndsAs settled refused first b → a ≡ b
one_end_by false refused first a b p q = p ∙ sym q
one_end_by true refused None a b p q = p ∙ sym q
one_end_by true refused (Some t) a b p q =
    let same : Some p.0 ≡ Some q.0 = sym p.1 ∙ q.1 in
    p.2 ∙ ap (λ o. at o) same ∙ sym q.2
  where
    at : Option TurnRefusal → InterEnd
    at (Some turn) = inter.Refused t turn
    at None = inter.Clean

-- and ends in some way
turn_there : (o : Option TurnRefusal) → is_some o ≡ true → (turn : TurnRefusal) × (o ≡ Some turn)
turn_there (Some turn) is = (turn, refl)
turn_there None is = absurd (cc)

some_end_by : (settled : Bool) (refused : ℕ → List TurnRefusal) (n : ℕ) (first : Option ℕ) → least_below (λ t. is_some (first_turn (refused t))) n ≡ first →
    (end : InterEnd) × EndsAs settled refused first end
some_end_by false refused n first is = (inter.Unsettled, refl)
some_end_by true refused n None is = (inter.Clean, refl)
some_end_by true refused n (Some t) is =
    let least = least_below-some (λ t. is_some (first_turn (refused t))) n t is in
    let turn = turn_there (first_turn (refused t)) least.here in
    (inter.Refused t turn.0, (turn.0, turn.1, refl))

some_end : (plan : PlanOf) (r : Rules) (i : ℕ) → (end : InterEnd) × IsInterEnd plan r i end
some_end plan r i = some_end_by (is_settled plan r i) (refused_in plan r i) ((interstage_at plan i).length + 1) _ refl

-- none of no interstage
pub no_ends : (plan : PlanOf) (r : Rules) → AreEnds plan r 0 []
no_ends plan r = record { count = refl; each = λ i lt d. absurd (omega (arith, lt)) }

-- one interstage more
pub one_more_end : (plan : PlanOf) (r : Rules) (n : ℕ) (ends : List InterEnd) (end : InterEnd) → AreEnds plan r n ends → IsInterEnd plan r n end →
    AreEnds plan r (n + 1) (ends ++ end ∷ [])
one_more_end plan r n ends end are is = record {
  count = omega (arith, length-append ends (end ∷ []), are.count);
  each = λ i lt d. elim (cases_eq i n) [
    | inl same ↦ subst (λ (e : InterEnd). IsInterEnd plan r i e) (sym (last i d same)) (subst (λ (k : ℕ). IsInterEnd plan r k end) (sym same) is)
    | inr other ↦ (
        let before : i < n = omega (arith, lt, other) in
        subst (λ (e : InterEnd). IsInterEnd plan r i e) (sym (get_or_append_left ends (end ∷ []) d i (omega (arith, before, are.count)))) (are.each i before d))
  ];
}
  where
    last : (i : ℕ) (d : InterEnd) → i ≡ n → get_or (ends ++ end ∷ []) i d ≡ end
    last i d same =
        let zeroth : i - n ≡ 0 = omega (arith, same) in
        get_or-append_right ends (end ∷ []) n i d are.count (omega (arith, same)) ∙ ap (λ k. get_or (end ∷ []) k d) zeroth

some_ends : (plan : PlanOf) (r : Rules) (n : ℕ) → (ends : List InterEnd) × AreEnds plan r n ends
some_ends plan r zero = ([], no_ends plan r)
some_ends plan r (suc n) =
    let before = some_ends plan r n in
    let end = some_end plan r n in
    let count : n + 1 ≡ suc n = omega arith in
    (before.0 ++ end.0 ∷ [], subst (λ k. AreEnds plan r k (before.0 ++ end.0 ∷ [])) count (one_more_end plan r n before.0 end.0 before.1 end.1))

one_list : (plan : PlanOf) (r : Rules) (n : ℕ) (xs ys : List InterEnd) → AreEnds plan r n xs → AreEnds plan r n ys → xs ≡ ys
one_list plan r n xs ys a b =
    ext_get_or inter.Clean xs ys (a.count ∙ sym b.count)
    (λ i lt. one_end_by (is_settled plan r i) (refused_in plan r i) _ _ _ (a.each i (omega (arith, lt, a.count)) inter.Clean)
    (b.each i (omega (arith, lt, a.count)) inter.Clean))

-- their lines, one interstage more
pub inters_text-more : (plan : PlanOf) (i : ℕ) (ends : List InterEnd) (end : InterEnd) →
    inters_text plan i (ends ++ end ∷ []) ≡ inters_text plan i ends ++ inter_text plan (i + length ends) end
inters_text-more plan i [] end =
    let same : i ≡ i + 0 = omega arith in
    append-nil (inter_text plan i end) ∙ ap (λ k. inter_text plan k end) same
inters_text-more plan i (e ∷ es) end =
    let last : ℕ = i + length (e ∷ es) in
    let same : (i + 1) + length es ≡ last = omega arith in
    ap (λ t. inter_text plan i e ++ t) (inters_text-more plan (i + 1) es end ∙ ap (λ k. inters_text plan (i + 1) es ++ inter_text plan k end) same)
    ∙ sym (append_assoc (inter_text plan i e) (inters_text plan (i + 1) es) (inter_text plan last end))

pub more_lines : (plan : PlanOf) (n : ℕ) (ends : List InterEnd) (end : InterEnd) → length ends ≡ n →
    inters_text plan 0 ends ++ inter_text plan n end ≡ inters_text plan 0 (ends ++ end ∷ [])
more_lines plan n ends end count =
    let last : n ≡ 0 + length ends = omega (arith, count) in
    ap (λ k. inters_text plan 0 ends ++ inter_text plan k end) last ∙ sym (inters_text-more plan 0 ends end)

-- the line of an interstage, in its pieces
pub inter_is : (plan : PlanOf) (i : ℕ) (end : InterEnd) (from to : ℕ) → from ≡ (interstage_at plan i).from → to ≡ (interstage_at plan i).to →
    codes "INTER " ++ decimal from ++ codes "-" ++ decimal to ++ codes " " ++ end_text plan.names end ++ codes "\n" ≡ inter_text plan i end
inter_is plan i end from to first last =
    λ j. codes "INTER " ++ decimal (first j) ++ codes "-" ++ decimal (last j) ++ codes " " ++ end_text plan.names end ++ codes "\n"

-- ---- the verdict

-- the pictures of a log have the groups of the plan
sized : (names lines : List (List ℕ)) (n : ℕ) (pictures : List Picture) → HasEntries (pictures_by names) 1 lines n pictures → (k : ℕ) → k < length pictures →
    length (get_or pictures k []) ≡ length names
sized names lines n pictures has k lt = (record_parts (length names) (1 + k) (line_at lines (k + 1)) (get_or pictures k []) (has.entries_are k [] lt)).groups_are

log_sized : (names : List (List ℕ)) (bytes : List ℕ) (pictures : List Picture) (refusal : Option (ℕ × LogWhy)) → IsPictures AtOne names bytes pictures refusal →
    (k : ℕ) → k < length pictures → length (get_or pictures k []) ≡ length names
log_sized names bytes pictures None is k lt = sized names (fed_lines bytes) _ pictures is.0 k lt
log_sized names bytes pictures (Some at) is k lt = sized names (fed_lines bytes) _ pictures is.0 k lt

-- so they make a history after the all-red second
log_history : (n : ℕ) (pictures : List Picture) → ((k : ℕ) → k < length pictures → length (get_or pictures k []) ≡ n) → IsHistory n (replicate n Red ∷ pictures)
log_history n pictures all = record {
  begun = omega arith;
  sizes = λ t lt. size t lt;
  all_red = λ g lt. get_or-replicate n g Red Red lt;
}
  where
    size : (t : ℕ) → t < length (replicate n Red ∷ pictures) → length (get_or (replicate n Red ∷ pictures) t []) ≡ n
    size zero lt = length-replicate n Red
    size (suc t) lt = all t (omega (arith, lt))

-- ---- the audit

-- what is judged is judged once
judged_once : (site : Site) (pictures : List Picture) (a b : Judged site pictures) →
    judged_text site.plan a.verdict a.ends ≡ judged_text site.plan b.verdict b.ends
judged_once site pictures a b =
    let verdicts = one_verdict site.rules (replicate (groups_in site.plan) Red ∷ pictures) a.verdict b.verdict a.verdict_is b.verdict_is in
    let ends = one_list site.plan site.rules (length site.plan.interstages) a.ends b.ends a.ends_are b.ends_are in
    (λ j. judged_text site.plan (verdicts j) (ends j))

one_audit : (site : Site) (pictures : List Picture) (a b : List ℕ) → IsAudit site pictures a → IsAudit site pictures b → a ≡ b
one_audit site pictures a b p q = p.text_is ∙ judged_once site pictures p.judged q.judged ∙ sym q.text_is

some_audit : (site : Site) (bytes : List ℕ) (pictures : List Picture) (refusal : Option (ℕ × LogWhy)) → IsSound site →
    IsPictures AtOne site.plan.names bytes pictures refusal →
    (text : List ℕ) × IsAudit site pictures text
some_audit site bytes pictures refusal sound is =
    let history = log_history (groups_in site.plan) pictures (log_sized site.plan.names bytes pictures refusal is) in
    let verdict = each_has_verdict site.rules (replicate (groups_in site.plan) Red ∷ pictures)
    (subst (λ n. IsHistory n (replicate (groups_in site.plan) Red ∷ pictures)) (sym sound.count) history) in
    let ends = some_ends site.plan site.rules (length site.plan.interstages) in (
      judged_text site.plan verdict.0 ends.0,
      record { judged = record { verdict = verdict.0; verdict_is = verdict.1; ends = ends.0; ends_are = ends.1 }; text_is = refl },
    )

-- the log that files give is one at the site that they give
log_at : (r : Result Site Unloaded) (bytes : List ℕ) (logged : Logged) → LogAfterSite r bytes (Ok logged) → (site : Site) × (r ≡ Ok site)
    × IsLogged site bytes logged
log_at (Err u) bytes logged is = absurd (let e : Ok logged ≡ Err u = is in cc)
log_at (Ok site) bytes logged is = (site, refl, subst (λ l. IsLogged site bytes l) (sym same) is.1)
  where
    log_or : Result Logged Unloaded → Logged
    log_or (Ok x) = x
    log_or (Err u) = logged

    same : logged ≡ is.0
    same = ap log_or is.2

pub logs_have_one_audit : LogsHaveOneAudit
logs_have_one_audit log words file logged loads =
    let at = log_at (site_of words file) (file log) logged loads in
    let sound : IsSound logged.site = subst IsSound (sym at.2.0) (site_sound words file at.0 at.1) in
    let is : IsPictures AtOne logged.site.plan.names (file log) logged.pictures logged.refusal
    = subst (λ s. IsPictures AtOne s.plan.names (file log) logged.pictures logged.refusal) (sym at.2.0) at.2.1 in
    let audit = some_audit logged.site (file log) logged.pictures logged.refusal sound is in
    (audit.0, audit.1, λ other that. one_audit logged.site logged.pictures other audit.0 that audit.1)
