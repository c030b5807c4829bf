-- What is safe has no breach.
use Rattle.std.proofs.Common.{◌≡◌, ◌∙◌, ℕ, zero, suc, ◌+◌, ◌<◌, List, [], ◌∷◌, ◌++◌, codes, length, map, take, drop, get_or, replicate, None, Result, Ok, Err, refl, sym, ap, subst, arith, take_all}
use Rattle.std.proofs.lemmas.List.{get_or-replicate, length-replicate}
use Rattle.std.proofs.lemmas.Fmt.{decimal_digit}
use Rattle.std.specs.Fmt.{decimal}
use Rattle.sig_types.specs.declared.aspect.Aspect.TheVariants.{Red}
use Rattle.sig_types.specs.LogForm.{letter}
use Rattle.sig_types.specs.Text.{fed_lines}
use Rattle.sig_types.specs.Turns.{Picture}
use Rattle.pua_model.specs.Plan.{groups_in}
use Rattle.sig_guard.specs.Safety.{IsHistory}
use Rattle.controller.specs.Past.{Site}
use Rattle.controller.specs.Second.{record_pictures}
use Rattle.det_stream.specs.Stream.{stream_of}
use Rattle.log_read.specs.Form.{BeginsRecord}
use Rattle.log_read.specs.Laws.{PicturesFromOne, RecordForm}
use Rattle.log_read.specs.Log.{HasEntries, line_at}
use Rattle.log_read.specs.Readings.{pictures_by}
use Rattle.log_read.specs.Seconds.{first_told}
use Rattle.log_judge.specs.Breaches.{breaches}
use Rattle.log_judge.specs.Laws.{PartsHaveNone}
use Rattle.junction_run.specs.Form.{Source, word_of}
use Rattle.junction_run.specs.Loading.{AfterSite, IsSource, Playing, Unloaded, played_at, site_of}
use Rattle.junction_run.specs.Records.{records_of}
use Rattle.junction_run.specs.SafeLogs.{WrittenLogsAreJudgedSafe}
use Rattle.junction_run.proofs.LoadedRuns.{at_site, site_sound, there}
use Rattle.log_protocol.specs.Came.{unknown_past}
use Rattle.laws.specs.AuditAndBreaches.{BothReadTheSame, RunsHaveNoBreach, SafeLogsHaveNoBreach}

-- ---- the first second

-- a line of second 1 tells second 1
tells_digit : (a b c d e : List ℕ) → first_told (49 ∷ codes "|" ++ a ++ b ++ c ++ d ++ e) ≡ 1
unfolding first_told
tells_digit a b c d e = refl

tells_one : (a b c d e : List ℕ) → first_told (decimal 1 ++ codes "|" ++ a ++ b ++ c ++ d ++ e) ≡ 1
tells_one a b c d e =
    ap (λ digits. first_told (digits ++ codes "|" ++ a ++ b ++ c ++ d ++ e)) (decimal_digit 1 (omega arith)) ∙ tells_digit a b c d e

no_line : first_told [] ≡ 1
unfolding first_told
no_line = refl

-- a log that says pictures from second 1 on begins with it
first_is_one : RecordForm → (names lines : List (List ℕ)) (pictures : List Picture) →
    HasEntries (pictures_by names) 1 lines (length lines) pictures → first_told (line_at lines 1) ≡ 1
first_is_one form names [] pictures has = no_line
first_is_one form names (line ∷ []) pictures has = no_line
first_is_one form names (line ∷ next ∷ lines) [] has = absurd (omega (arith, has.count))
first_is_one form names (line ∷ next ∷ lines) (p ∷ ps) has =
    let says = has.entries_are 0 p (omega arith) in
    let begins : BeginsRecord (length names) 1 next p = (form (length names) 1 next p).0 says in
    ap first_told begins.text ∙ tells_one begins.x (codes "|") (map letter p) (codes "|") begins.rest

pub both_read_the_same : RecordForm → PicturesFromOne → BothReadTheSame
both_read_the_same form from_one names bytes pictures is =
    (from_one names bytes pictures None (first_is_one form names (fed_lines bytes) pictures is.0)).1 is

-- ---- a safe log

-- a picture that is read has as many groups as there are names
sized : RecordForm → (names lines : List (List ℕ)) (pictures : List Picture) → HasEntries (pictures_by names) 1 lines (length lines) pictures →
    (k : ℕ) → k < length pictures → length (get_or pictures k []) ≡ length names
sized form names lines pictures has k lt =
    ((form (length names) (1 + k) (line_at lines (k + 1)) (get_or pictures k [])).0 (has.entries_are k [] lt)).groups_are

-- so they make a history after the all-red second
log_history : (n : ℕ) (pictures : List Picture) → ((k : ℕ) → k < length pictures → length (get_or pictures k []) ≡ n) → IsHistory n (replicate n Red ∷ pictures)
log_history n pictures all = record {
  begun = omega arith;
  sizes = λ t lt. size t lt;
  all_red = λ g lt. get_or-replicate n g Red Red lt;
}
  where
    size : (t : ℕ) → t < length (replicate n Red ∷ pictures) → length (get_or (replicate n Red ∷ pictures) t []) ≡ n
    size zero lt = length-replicate n Red
    size (suc t) lt = all t (omega (arith, lt))

pub safe_logs_have_no_breach : RecordForm → PartsHaveNone → SafeLogsHaveNoBreach
safe_logs_have_no_breach form none words file site bytes pictures seconds tolerance site_is is safe =
    let groups : ℕ = groups_in site.plan in
    let h : List Picture = replicate groups Red ∷ pictures in
    let sound = site_sound words file site site_is in
    let history : IsHistory site.rules.count h =
    subst (λ n. IsHistory n h) (sym sound.count) (log_history groups pictures (sized form site.plan.names (fed_lines bytes) pictures is.0)) in
    let part : drop 1 (take (length h) h) ≡ pictures = ap (drop 1) (take_all (length h) h (omega arith)) in
    ap (breaches site.rules (unknown_past tolerance)) (sym part) ∙ none site.rules h 1 (length h) tolerance history safe.0

-- ---- a run

loaded_site : (source : Source) (bytes : List ℕ) (playing : Playing) (o : Result Site Unloaded) →
    AfterSite (played_at source) o (IsSource source bytes) (Ok playing) → o ≡ Ok playing.site
loaded_site source bytes playing (Err u) loads = absurd (let e : Ok playing ≡ Err u = loads in cc)
loaded_site source bytes playing (Ok site) (v, is, same) = ap Ok (at_site (played_at source) (there source) site v playing same)

pub runs_have_no_breach : RecordForm → PicturesFromOne → PartsHaveNone → WrittenLogsAreJudgedSafe → RunsHaveNoBreach
runs_have_no_breach form from_one none judged source words detectors file end old new tolerance came meets =
    let is = judged source words detectors file end old new came meets in
    let playing : Playing = is.0 in
    let site_is : site_of words file ≡ Ok playing.site = loaded_site source (file (word_of source)) playing (site_of words file) is.1 in (
      playing,
      is.1,
      (
        is.2.0,
        is.2.1,
        (
          record_pictures (records_of playing (stream_of (file detectors)).frames),
          both_read_the_same form from_one playing.site.plan.names is.2.0 _ is.2.2.is_log,
          safe_logs_have_no_breach form none words file playing.site is.2.0 _ _ tolerance site_is is.2.2.is_log is.2.2.is_safe,
        ),
      ),
    )
