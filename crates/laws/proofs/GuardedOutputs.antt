-- What is written is of guarded runs.
use Rattle.std.proofs.Common.{false, ◌≡◌, ◌∙◌, ℕ, List, [], ◌∷◌, length, take, Option, Some, Result, Ok, Err, sym, ap, arith, take_all}
use Rattle.std.specs.Io.KnownBytes.{append_known}
use Rattle.std.proofs.lemmas.List.{length-map}
use Rattle.sig_io.specs.Outside.{Contents}
use Rattle.sig_types.specs.Counts.{Counts}
use Rattle.sig_types.specs.declared.record.Record.{Record}
use Rattle.controller.specs.Guarded.{IsGuardedRun}
use Rattle.controller.specs.Past.{opening}
use Rattle.controller.specs.Second.{picture_of, record_pictures}
use Rattle.det_stream.specs.Stream.{stream_of}
use Rattle.log_read.specs.declared.begin.Begin.TheVariants.{AtOne}
use Rattle.junction_run.specs.declared.status.Status.TheVariants.{Done}
use Rattle.junction_run.specs.Answer.{Gains, GainedBy, answer_to, answered}
use Rattle.junction_run.specs.Drawn.{drawn}
use Rattle.junction_run.specs.Form.{Play, ProgramFile, Sample, SiteWords}
use Rattle.junction_run.specs.Guarded.{IsGuardedLogOf, unwritten_of, written_of}
use Rattle.junction_run.specs.Laws.{LoadedRunsAreGuarded}
use Rattle.junction_run.specs.Loading.{Loads, LoadsProgram, Playing, Unloaded}
use Rattle.junction_run.specs.Loading as loading
use Rattle.junction_run.specs.Records.{log_of, records_of}
use Rattle.junction_run.specs.Sampled.{sample_text}
use Rattle.junction_net.specs.List.{JobWords}
use Rattle.junction_net.specs.Net.{GivesResults, jobs_at, net_answer}
use Rattle.junction_net.specs.Results.{AreResults, JobResult, net_text, run_of, site_words}
use Rattle.laws.specs.GuardedOutputs.{AreGuardedLogs, LiveTextsAreJudgedSafe, NetLogsAreGuarded, SamplesAreGuarded}
use Rattle.laws.specs.LiveLogs.{LiveTextsAreReadWhole}
use Rattle.laws.specs.PicturesOfRecords.{PicturesAgree}
use Rattle.laws.proofs.WrittenLogs.{run_count}

-- ---- `sample`

-- what was written of a sample
abbrev IsGuardedSample : List ℕ → SiteWords → (seed seconds : ℕ) → Contents → Option (List ℕ) → Option (List ℕ) → Type 0
IsGuardedSample program words seed seconds file old new =
    (playing : Playing) × LoadsProgram program words file (Ok playing) × (new ≡ append_known old (sample_text seed seconds playing))
    × IsGuardedRun playing.logic playing.site playing.store (drawn seed seconds)

sample_by : LoadedRunsAreGuarded → (program : List ℕ) (words : SiteWords) (seed seconds : ℕ) (file : Contents) (old new : Option (List ℕ))
    (r : Result Playing Unloaded) → Loads (Sample program words seed seconds) file r →
    (answer_to (Sample program words seed seconds) file r).status ≡ Done →
    Gains (answer_to (Sample program words seed seconds) file r) (answer_to (Sample program words seed seconds) file r).pieces old new →
    IsGuardedSample program words seed seconds file old new
sample_by guarded program words seed seconds file old new (Ok playing) loads done gains = (
  playing,
  loads,
  gains.2 ∙ ap (append_known old) gains.1,
  guarded (Sample program words seed seconds) file playing (drawn seed seconds) loads,
)
sample_by guarded program words seed seconds file old new (Err (loading.TooLong word)) loads done gains = absurd cc
sample_by guarded program words seed seconds file old new (Err (loading.Refused word line reason)) loads done gains = absurd cc

pub samples_are_guarded : LoadedRunsAreGuarded → SamplesAreGuarded
samples_are_guarded guarded program words seed seconds file old new meets =
    sample_by guarded program words seed seconds file old new meets.0 meets.1 meets.2 meets.3

-- ---- `net`

-- the log of a junction
log_guarded : LoadedRunsAreGuarded → (job : JobWords) (file : Contents) (log : List ℕ) (r : Result Playing Unloaded) → Loads (run_of job) file r →
    GainedBy (answer_to (run_of job) file r).Gained (answer_to (run_of job) file r).pieces log →
    IsGuardedLogOf (λ playing. LoadsProgram job.program (site_words job) file (Ok playing)) (Some []) (Some log)
log_guarded guarded job file log (Ok playing) loads gained =
    let stream = stream_of (file job.detectors) in
    let frames : List Counts = take (length stream.frames) stream.frames in
    let text : List ℕ = log_of playing frames in
    written_of playing frames (length text) loads (guarded (run_of job) file playing frames loads)
    (ap (λ t. Some t) (gained ∙ sym (take_all (length text) text (omega arith))))
log_guarded guarded job file log (Err (loading.TooLong word)) loads gained = unwritten_of (ap (λ t. Some t) gained)
log_guarded guarded job file log (Err (loading.Refused word line reason)) loads gained = unwritten_of (ap (λ t. Some t) gained)

logs_guarded : LoadedRunsAreGuarded → (file : Contents) (jobs : List JobWords) (rs : List JobResult) → AreResults file jobs rs → AreGuardedLogs file jobs rs
logs_guarded guarded file [] [] are = tt
logs_guarded guarded file [] (r ∷ rs) are = are
logs_guarded guarded file (job ∷ jobs) [] are = are
logs_guarded guarded file (job ∷ jobs) (r ∷ rs) are =
    (log_guarded guarded job file r.log are.0.given are.0.gives are.0.log, logs_guarded guarded file jobs rs are.1)

-- what was written of a list
abbrev AreGuardedOf : List ℕ → Contents → Option (List ℕ) → Option (List ℕ) → Type 0
AreGuardedOf word file old new =
    (jobs : List JobWords) × (jobs_at file word ≡ Ok jobs) × (rs : List JobResult) × AreResults file jobs rs
    × (new ≡ append_known old (net_text rs)) × AreGuardedLogs file jobs rs

list_by : LoadedRunsAreGuarded → (word : List ℕ) (file : Contents) (old new : Option (List ℕ)) (r : Result (List JobResult) Unloaded) →
    GivesResults word file r → (answered net_answer r).status ≡ Done → Gains (answered net_answer r) (answered net_answer r).pieces old new →
    AreGuardedOf word file old new
list_by guarded word file old new (Ok rs) gives done gains =
    (gives.0, gives.1, rs, gives.2, gains.2 ∙ ap (append_known old) gains.1, logs_guarded guarded file gives.0 rs gives.2)
list_by guarded word file old new (Err (loading.TooLong name)) gives done gains = absurd cc
list_by guarded word file old new (Err (loading.Refused name line reason)) gives done gains = absurd cc

pub net_logs_are_guarded : LoadedRunsAreGuarded → NetLogsAreGuarded
net_logs_are_guarded guarded word file old new meets = list_by guarded word file old new meets.0 meets.1 meets.2 meets.3

-- ---- `live`

pub live_texts_are_judged_safe : LoadedRunsAreGuarded → LiveTextsAreReadWhole → PicturesAgree → LiveTextsAreJudgedSafe
unfolding records_of
live_texts_are_judged_safe guarded read agree form file old new meets =
    let is = read form file old new meets in
    let playing : Playing = is.0 in
    let whole = is.2.2.0 in
    let made : List Counts = whole.whole.made in
    let records : List Record = records_of playing made in
    let run = guarded (Play (ProgramFile form.program) form.site []) file playing made is.1 in
    let size : length (record_pictures records) ≡ length made =
    length-map records picture_of ∙ run_count playing.logic playing.site (opening playing.site playing.store) made in (
      playing,
      is.1,
      (
        is.2.0,
        is.2.1,
        (
          whole,
          record {
            is_log = agree false AtOne playing.site.plan.names is.2.0 records is.2.2.1.is_log;
            is_safe = (run.safe, omega (arith, size));
          },
        ),
      ),
    )
