-- What is judged of the logs that runs write.
use Rattle.std.specs.Prelude.{◌≡◌, ◌⊎◌, ℕ, List, [], ◌∷◌, ◌++◌, codes, length, replicate, Option, None, Some, IfSome, Result, Ok}
use Rattle.std.specs.Fmt.{decimal}
use Rattle.std.specs.Io.KnownBytes.{append_known}
use Rattle.sig_io.specs.Outside.{Contents}
use Rattle.sig_types.specs.declared.aspect.Aspect.TheVariants.{Red}
use Rattle.sig_types.specs.Counts.{Counts}
use Rattle.pua_model.specs.Plan.{IsPlan, groups_in}
use Rattle.controller.specs.Bounds.{AreBoundedFrom}
use Rattle.controller.specs.Second.{record_pictures}
use Rattle.det_stream.specs.Stream.{stream_of}
use Rattle.log_read.specs.Readings.{IsPictures}
use Rattle.log_read.specs.declared.begin.Begin.TheVariants.{AtOne}
use Rattle.sig_audit.specs.declared.verdict.Verdict.TheVariants as verdict
use Rattle.sig_audit.specs.Verdict.{IsVerdict}
use Rattle.junction_run.specs.declared.status.Status.{Status}
use Rattle.junction_run.specs.declared.status.Status.TheVariants as status
use Rattle.junction_run.specs.Answer.{Answer, GainedBy, Meets, answer_to}
use Rattle.junction_run.specs.Form.{Audit, Form, Play, SiteWords, Source}
use Rattle.junction_run.specs.Loading.{Loaded, Loads, LoadsSource, Playing, Unloaded, plays}
use Rattle.junction_run.specs.Records.{records_of}

-- a run within all limits: its plan is a plan, and the records of its seconds, which count from 1, are bounded
pub record IsWithinLimits (playing : Playing) (frames : List Counts) : Type 0 where
  pub plan : IsPlan playing.site.plan
  pub records : AreBoundedFrom playing.site 1 frames (records_of playing frames)

-- whatever a form plays of what its files give, it is within all limits, for all frames
abbrev pub LoadedRunsAreWithinLimits : Type 0
LoadedRunsAreWithinLimits =
    (form : Form) (file : Contents) (loaded : Loaded form) (frames : List Counts) → Loads form file (Ok loaded) →
    IfSome (plays form loaded) (λ playing. IsWithinLimits playing frames)

-- Who reads this text line by line finds exactly the pictures of the run over these frames, and no line to refuse; and these
-- pictures are judged safe, with the number of the run's seconds.
pub record IsJudgedSafe (playing : Playing) (frames : List Counts) (text : List ℕ) : Type 0 where
  pub is_log : IsPictures AtOne playing.site.plan.names text (record_pictures (records_of playing frames)) None
  pub is_safe : IsVerdict playing.site.rules (replicate (groups_in playing.site.plan) Red ∷ record_pictures (records_of playing frames))
      (verdict.Safe (length frames))

-- a run came to the end of its detector file, or to its first refused line
abbrev pub CameToAnEnd : Status → Type 0
CameToAnEnd end = (end ≡ status.Done) ⊎ (end ≡ status.RefusedLine)

-- what `run` and `exec` write is judged safe, where they came to an end: it is a log of a run of what their files give
abbrev pub WrittenLogsAreJudgedSafe : Type 0
WrittenLogsAreJudgedSafe =
    (source : Source) (words : SiteWords) (detectors : List ℕ) (file : Contents) (end : Status) (old new : Option (List ℕ)) →
    CameToAnEnd end → Meets (Play source words detectors) file end old new →
    (playing : Playing) × LoadsSource source words file (Ok playing)
    × ((text : List ℕ) × (new ≡ append_known old text) × IsJudgedSafe playing (stream_of (file detectors)).frames text)

-- an answer that tells SAFE and a number of seconds in its first line
pub record SaysSafe (answer : Answer) (seconds : ℕ) : Type 0 where
  pub done : answer.status ≡ status.Done
  pub line : (text : List ℕ) → GainedBy answer.Gained answer.pieces text →
      (rest : List ℕ) × (text ≡ codes "SAFE " ++ decimal seconds ++ codes "\n" ++ rest)

-- where a file holds all that such a run wrote, `audit` with the same plan and the same tables answers SAFE and the number of
-- the run's seconds
abbrev pub AuditsSaySafe : Type 0
AuditsSaySafe =
    (source : Source) (words : SiteWords) (detectors log : List ℕ) (file audited : Contents) (end : Status) →
    CameToAnEnd end → Meets (Play source words detectors) file end (Some []) (Some (audited log)) →
    audited words.plan ≡ file words.plan → audited words.times ≡ file words.times → audited words.intergreens ≡ file words.intergreens →
    (r : Result (Loaded (Audit log words)) Unloaded) → Loads (Audit log words) audited r →
    SaysSafe (answer_to (Audit log words) audited r) (length (stream_of (file detectors)).frames)
