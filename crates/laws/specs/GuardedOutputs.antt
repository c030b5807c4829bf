-- What `sample`, `net` and `live` write is of runs that the guard kept.
use Rattle.std.specs.Prelude.{◌≡◌, ℕ, List, [], ◌∷◌, length, replicate, Option, None, Some, Ok}
use Rattle.std.specs.Io.KnownBytes.{append_known}
use Rattle.sig_io.specs.Outside.{Contents}
use Rattle.sig_types.specs.declared.aspect.Aspect.TheVariants.{Red}
use Rattle.sig_types.specs.Counts.{Counts}
use Rattle.pua_model.specs.Plan.{groups_in}
use Rattle.det_stream.specs.Stream.{stream_of}
use Rattle.controller.specs.Guarded.{IsGuardedRun}
use Rattle.controller.specs.Second.{record_pictures}
use Rattle.log_read.specs.declared.begin.Begin.TheVariants.{AtOne}
use Rattle.log_read.specs.Log.{Tells}
use Rattle.log_read.specs.Readings.{pictures_by}
use Rattle.log_read.specs.Watchers.{told_lines}
use Rattle.sig_audit.specs.declared.verdict.Verdict.TheVariants.{Safe}
use Rattle.sig_audit.specs.Verdict.{IsVerdict}
use Rattle.junction_run.specs.declared.status.Status.TheVariants.{Done}
use Rattle.junction_run.specs.Answer.{Meets}
use Rattle.junction_run.specs.Drawn.{drawn}
use Rattle.junction_run.specs.Form.{Sample, SiteWords}
use Rattle.junction_run.specs.Guarded.{IsGuardedLogOf}
use Rattle.junction_run.specs.Loading.{LoadsProgram, Playing}
use Rattle.junction_run.specs.Records.{records_of}
use Rattle.junction_run.specs.Sampled.{sample_text}
use Rattle.junction_live.specs.Answer.{IsWholeText}
use Rattle.junction_live.specs.Answer as live
use Rattle.junction_live.specs.Form.{LiveWords}
use Rattle.junction_net.specs.List.{JobWords}
use Rattle.junction_net.specs.Net.{jobs_at}
use Rattle.junction_net.specs.Net as net
use Rattle.junction_net.specs.Results.{AreResults, JobResult, net_text, site_words}

-- ---- `sample`

-- A summary that `sample` writes with status 0 is that of the run of the file's program over the drawn frames, at the site of the
-- files, and each second of that run is guarded: its pictures are safe, and each refusal names the rule that would be broken.
abbrev pub SamplesAreGuarded : Type 0
SamplesAreGuarded =
    (program : List ℕ) (words : SiteWords) (seed seconds : ℕ) (file : Contents) (old new : Option (List ℕ)) →
    Meets (Sample program words seed seconds) file Done old new →
    (playing : Playing) × LoadsProgram program words file (Ok playing) × (new ≡ append_known old (sample_text seed seconds playing))
    × IsGuardedRun playing.logic playing.site playing.store (drawn seed seconds)

-- ---- `net`

-- the log of each of these junctions is one of a guarded run of what its own files give
abbrev pub AreGuardedLogs : Contents → List JobWords → List JobResult → Type 0
AreGuardedLogs file [] [] = Unit {0}
AreGuardedLogs file [] (r ∷ rs) = ⊥
AreGuardedLogs file (job ∷ jobs) [] = ⊥
AreGuardedLogs file (job ∷ jobs) (r ∷ rs) =
    IsGuardedLogOf (λ playing. LoadsProgram job.program (site_words job) file (Ok playing)) (Some []) (Some r.log)
    × AreGuardedLogs file jobs rs

-- What `net` writes with status 0 are the results of the junctions of its list, and the log of each of them keeps the guard's rules
-- at the junction's own site.
abbrev pub NetLogsAreGuarded : Type 0
NetLogsAreGuarded =
    (word : List ℕ) (file : Contents) (old new : Option (List ℕ)) → net.Meets word file Done old new →
    (jobs : List JobWords) × (jobs_at file word ≡ Ok jobs) × (rs : List JobResult) × AreResults file jobs rs
    × (new ≡ append_known old (net_text rs)) × AreGuardedLogs file jobs rs

-- ---- `live`

-- the lines of a text before the first watcher's line are read, as pictures of the plan's groups, to their end, as exactly those of
-- the run over these frames; and these pictures are judged safe, with the number of the run's seconds
pub record IsToldSafe (playing : Playing) (frames : List Counts) (text : List ℕ) : Type 0 where
  pub is_log : Tells (pictures_by playing.site.plan.names) AtOne (told_lines text) (record_pictures (records_of playing frames)) None
  pub is_safe : IsVerdict playing.site.rules (replicate (groups_in playing.site.plan) Red ∷ record_pictures (records_of playing frames))
      (Safe (length frames))

-- What a live run writes with status 0 is judged safe up to its watchers' lines, with one second more than the detector file has:
-- also with events in whatever seconds.
abbrev pub LiveTextsAreJudgedSafe : Type 0
LiveTextsAreJudgedSafe =
    (form : LiveWords) (file : Contents) (old new : Option (List ℕ)) → live.Meets form file Done old new →
    (playing : Playing) × live.Loads form file (Ok playing)
    × ((text : List ℕ) × (new ≡ append_known old text)
    × ((whole : IsWholeText form.watchers playing (stream_of (file form.detectors)).frames text)
    × IsToldSafe playing whole.whole.made text))
