-- Files in which no refusal is found are loaded.
use Rattle.std.proofs.Common.{◌≡◌, ◌∙◌, ℕ, ◌≤◌, Bool, true, false, ◌||◌, List, [], ◌∷◌, ◌++◌, length, Option, None, Some, Result, Ok, Err, refl, sym, ap, subst, le-ltb}
use Rattle.std.specs.List.{list_any}
use Rattle.std.proofs.lemmas.List.Folds.{list_any-append}
use Rattle.sig_io.specs.Outside.{Contents}
use Rattle.sig_types.specs.Counts.{Counts}
use Rattle.sig_tables.specs.declared.times.TimesRow.{TimesRow}
use Rattle.sig_tables.specs.Pairs.{Pairs}
use Rattle.sig_tables.specs.SiteRules.{rules_by}
use Rattle.sig_tables.specs.TimesTable.{times_of}
use Rattle.sig_tables.specs.IntergreenTable.{intergreen_of}
use Rattle.pua_model.specs.Plan.{PlanOf}
use Rattle.pua_reader.specs.Accepted.{plan_of_text}
use Rattle.table_check.specs.declared.table.Table.TheVariants as table
use Rattle.vap_ast.specs.Syntax.{Program}
use Rattle.vap_check.specs.Accepted.{Accepted}
use Rattle.vap_check.specs.Readings.{with_readings}
use Rattle.site_load.specs.Loading.{intergreens_at, plan_at, times_at}
use Rattle.controller.specs.Past.{Site}
use Rattle.junction_run.specs.Form.{ProgramFile}
use Rattle.junction_run.specs.Loading.{AfterSite, IsSource, Playing, accepted, played_at, site_of}
use Rattle.junction_run.specs.Programs.{is_program}
use Rattle.site_findings.specs.declared.finding.Examined.{Examined}
use Rattle.site_findings.specs.declared.finding.FileKind.{FileKind}
use Rattle.site_findings.specs.declared.finding.FileKind.TheVariants as kind
use Rattle.site_findings.specs.declared.finding.Finding.{Finding}
use Rattle.site_check.specs.declared.judge.Judgements.{Judgements}
use Rattle.site_check.specs.declared.program.Judged.{Judged}
use Rattle.site_check.specs.declared.reading.Reading.{Reading}
use Rattle.site_check.specs.declared.reading.Reading.TheVariants as reading
use Rattle.site_check.specs.declared.reading.Texts.{Texts}
use Rattle.site_check.specs.declared.untaken.Untaken.{Untaken}
use Rattle.site_check.specs.declared.untaken.Untaken.TheVariants.{NotJudged, Refused, Unread}
use Rattle.site_check.specs.Call.{is_refused_told}
use Rattle.site_check.specs.Examined.{IsExamined, all_warnings, found_in, frames_in, is_unread_told, rest_refusals, site_refusals, told_of_frames}
use Rattle.site_check.specs.Files.{SiteFiles}
use Rattle.site_check.specs.Found.{told_of}
use Rattle.site_check.specs.Further.{behind_of, further_part, table_part}
use Rattle.site_check.specs.Judged.{AreFramesOf, AreIntergreensOf, AreTimesOf, IsHeeded, IsPlanOf, IsProgramOf, JudgedBy, JudgedWith, taken_in, text_in}
use Rattle.site_check.specs.Readings.{IsReading, text_limit}
use Rattle.site_check.specs.Warned.{section_part}
use Rattle.laws.specs.CheckAndRun.{AcceptsFrames, CheckedIsLoaded, site_named}

-- ---- where nothing is told

abbrev refused : Finding → Bool
refused f = is_refused_told f.told

abbrev unread : Finding → Bool
unread f = is_unread_told f.told

-- neither is found among these
abbrev None_in : List Finding → Type 0
None_in fs = (list_any refused fs ≡ false) × (list_any unread fs ≡ false)

or_left : (a b : Bool) → (a || b) ≡ false → a ≡ false
or_left true b is = is
or_left false b is = refl

or_right : (a b : Bool) → (a || b) ≡ false → b ≡ false
or_right true b is = absurd (true_false is)
  where
    true_false : true ≡ false → ⊥
    true_false same = cc
or_right false b is = is

left : (xs ys : List Finding) → None_in (xs ++ ys) → None_in xs
left xs ys is = (
  or_left (list_any refused xs) (list_any refused ys) (sym (list_any-append refused xs ys) ∙ is.0),
  or_left (list_any unread xs) (list_any unread ys) (sym (list_any-append unread xs ys) ∙ is.1),
)

right : (xs ys : List Finding) → None_in (xs ++ ys) → None_in ys
right xs ys is = (
  or_right (list_any refused xs) (list_any refused ys) (sym (list_any-append refused xs ys) ∙ is.0),
  or_right (list_any unread xs) (list_any unread ys) (sym (list_any-append unread xs ys) ∙ is.1),
)

-- a file of which nothing is told was taken
taken_of : {A : Type 0} (file : FileKind) (r : Result A Untaken) → None_in (told_of file r) → (x : A) × (r ≡ Ok x)
unfolding told_of
taken_of file (Ok x) none = (x, refl)
taken_of file (Err Unread) none = absurd (let same : true ≡ false = none.1 in cc)
taken_of file (Err NotJudged) none = absurd (let same : true ≡ false = none.0 in cc)
taken_of file (Err (Refused spot why)) none = absurd (let same : true ≡ false = none.0 in cc)

untaken : {A : Type 0} (why : Untaken) (x : A) → ◌≡◌ {A = Result A Untaken} (Err why) (Ok x) → ⊥
untaken why x same = cc

-- what was taken of a file is what its bytes give, and they are few enough
judged_by : {A : Type 0} (Is : List ℕ → Result A Untaken → Type 0) (bytes : List ℕ) (r : Reading) (j : Result A Untaken) (x : A) → IsReading bytes r →
    JudgedBy Is (text_in r) j → j ≡ Ok x → Is bytes (Ok x) × (length bytes ≤ text_limit)
judged_by Is bytes (reading.Whole v) j x is judged ok = (subst (λ b. Is b (Ok x)) is.0 (subst (λ k. Is v.items k) ok judged), is.1)
judged_by Is bytes reading.Unread j x is judged ok = absurd (untaken Unread x (sym judged ∙ ok))
judged_by Is bytes reading.TooLong j x is judged ok = absurd (untaken _ x (sym judged ∙ ok))

-- ---- the parts of what is found

module _ (t : Texts) (j : Judgements) (none : None_in (found_in t j)) where
  of_site : None_in (site_refusals t j.site)
  unfolding found_in
  of_site = left (site_refusals t j.site) (rest_refusals j.program j.frames ++ all_warnings t j.site j.program j.frames) none

  of_rest : None_in (rest_refusals j.program j.frames)
  unfolding found_in
  of_rest = left (rest_refusals j.program j.frames) (all_warnings t j.site j.program j.frames)
      (right (site_refusals t j.site) (rest_refusals j.program j.frames ++ all_warnings t j.site j.program j.frames) none)

  abbrev times_part : List Finding
  times_part = table_part table.Times (taken_in j.site.plan) (text_in t.times) j.site.times

  abbrev pairs_part : List Finding
  pairs_part = table_part table.Intergreens (taken_in j.site.plan) (text_in t.intergreens) j.site.intergreens

  of_plan : None_in (told_of kind.Pua j.site.plan)
  unfolding site_refusals
  of_plan = left (told_of kind.Pua j.site.plan) (section_part (text_in t.pua) ++ (times_part ++ pairs_part)) of_site

  of_tables : None_in (times_part ++ pairs_part)
  unfolding site_refusals
  of_tables = right (section_part (text_in t.pua)) (times_part ++ pairs_part)
      (right (told_of kind.Pua j.site.plan) (section_part (text_in t.pua) ++ (times_part ++ pairs_part)) of_site)

  of_times : None_in (told_of kind.Times j.site.times)
  unfolding table_part
  of_times = left (told_of kind.Times j.site.times) (further_part table.Times (taken_in j.site.plan) (text_in t.times) (behind_of j.site.times))
      (left times_part pairs_part of_tables)

  of_pairs : None_in (told_of kind.Intergreens j.site.intergreens)
  unfolding table_part
  of_pairs = left (told_of kind.Intergreens j.site.intergreens)
      (further_part table.Intergreens (taken_in j.site.plan) (text_in t.intergreens) (behind_of j.site.intergreens)) (right times_part pairs_part of_tables)

  of_program : None_in (told_of kind.Program j.program)
  unfolding rest_refusals
  of_program = left (told_of kind.Program j.program) (told_of_frames j.frames) of_rest

  of_frames : None_in (told_of_frames j.frames)
  unfolding rest_refusals
  of_frames = right (told_of kind.Program j.program) (told_of_frames j.frames) of_rest

-- ---- what is loaded

heeded : (detectors : Option (List ℕ)) (file : Contents) (r : Option (Result (List Counts) Untaken)) → IsHeeded detectors file r →
    None_in (told_of_frames r) → AcceptsFrames detectors file
unfolding told_of_frames
heeded None file r is none = tt
heeded (Some name) file None is none = absurd is
heeded (Some name) file (Some r) is none =
    let taken = taken_of kind.Detectors r none in (taken.0, subst (λ k. AreFramesOf (file name) k) taken.1 is)

-- the site of files that were taken
sited : (names : SiteFiles) (file : Contents) (plan : PlanOf) (times : List TimesRow) (between : ℕ → ℕ → Option ℕ) →
    plan_at file names.pua ≡ Ok plan → times_at file names.times plan ≡ Ok times → intergreens_at file names.intergreens plan ≡ Ok between →
    site_of (site_named names) file ≡ Ok (record { plan = plan; rules = rules_by times between })
sited names file plan times between p t g = rw (p, t, g) refl

checked_text : (word bytes : List ℕ) (judged : Judged) → length bytes ≤ text_limit → IsProgramOf bytes (Ok judged) →
    (tree : Program) × IsSource (ProgramFile word) bytes (Ok tree)
checked_text word bytes judged short is =
    (with_readings is.0, accepted (with_readings is.0) short (is_program judged.tokens is.0 is.1 is.2 (subst Accepted is.3 is.4)))

pub checked_is_loaded : CheckedIsLoaded
checked_is_loaded names file e is none =
    let t = is.texts in
    let j = is.judged in
    let nothing : None_in (found_in t j) = subst (λ fs. None_in fs) is.found.findings none in
    let plan = taken_of kind.Pua j.site.plan (of_plan t j nothing) in
    let of_text = judged_by IsPlanOf (file names.pua) t.pua j.site.plan plan.0 is.texts_are.pua is.judged_are.site.plan plan.1 in
    let p : PlanOf = plan_of_text (file names.pua) in
    let plan_is : j.site.plan ≡ Ok p = plan.1 ∙ ap Ok of_text.0.1 in
    let planned : plan_at file names.pua ≡ Ok p = rw (of_text.0.0, le-ltb 1048576 (length (file names.pua)) of_text.1) refl in
    let times = taken_of kind.Times j.site.times (of_times t j nothing) in
    let of_times_text = judged_by (JudgedWith AreTimesOf (Ok p)) (file names.times) t.times j.site.times times.0 is.texts_are.times
    (subst (λ q. JudgedBy (JudgedWith AreTimesOf q) (text_in t.times) j.site.times) plan_is is.judged_are.site.times) times.1 in
    let timed : times_at file names.times p ≡ Ok (times_of p (file names.times)) =
    rw (of_times_text.0.0, le-ltb 1048576 (length (file names.times)) of_times_text.1) refl in
    let pairs = taken_of kind.Intergreens j.site.intergreens (of_pairs t j nothing) in
    let of_pairs_text = judged_by (JudgedWith AreIntergreensOf (Ok p)) (file names.intergreens) t.intergreens j.site.intergreens pairs.0
    is.texts_are.intergreens
    (subst (λ q. JudgedBy (JudgedWith AreIntergreensOf q) (text_in t.intergreens) j.site.intergreens) plan_is is.judged_are.site.intergreens) pairs.1 in
    let paired : intergreens_at file names.intergreens p ≡ Ok (intergreen_of p (file names.intergreens)) =
    rw (of_pairs_text.0.0, le-ltb 1048576 (length (file names.intergreens)) of_pairs_text.1) refl in
    let site : Site = record { plan = p; rules = rules_by (times_of p (file names.times)) (intergreen_of p (file names.intergreens)) } in
    let at_site : site_of (site_named names) file ≡ Ok site =
    sited names file p (times_of p (file names.times)) (intergreen_of p (file names.intergreens)) planned timed paired in
    let program = taken_of kind.Program j.program (of_program t j nothing) in
    let of_program_text = judged_by IsProgramOf (file names.program) t.program j.program program.0 is.texts_are.program is.judged_are.program program.1 in
    let text = checked_text names.program (file names.program) program.0 of_program_text.1 of_program_text.0 in
    let playing : Playing = played_at (ProgramFile names.program) site text.0 in (
      (
        playing,
        subst (λ o. AfterSite (played_at (ProgramFile names.program)) o (IsSource (ProgramFile names.program) (file names.program)) (Ok playing))
            (sym at_site) (Ok text.0, text.1, refl),
      ),
      heeded names.detectors file j.frames is.frames_are (of_frames t j nothing),
    )
