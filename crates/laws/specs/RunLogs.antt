-- What is read of the logs that runs write.
use Rattle.std.specs.Prelude.{false, ◌≡◌, ℕ, ◌<◌, ◌≤◌, ◌^◌, List, length, All, Option, None, IfSome, Ok}
use Rattle.std.specs.Io.KnownBytes.{append_known}
use Rattle.sig_io.specs.Outside.{Contents}
use Rattle.sig_types.specs.declared.record.Record.{Record}
use Rattle.sig_types.specs.Counts.{Counts}
use Rattle.det_stream.specs.Stream.{stream_of}
use Rattle.junction_run.specs.declared.status.Status.{Status}
use Rattle.junction_run.specs.Answer.{Meets}
use Rattle.junction_run.specs.Form.{Form, Play, SiteWords, Source}
use Rattle.junction_run.specs.Loading.{Loaded, Loads, LoadsSource, Playing, plays}
use Rattle.junction_run.specs.Records.{records_of}
use Rattle.junction_run.specs.SafeLogs.{CameToAnEnd}
use Rattle.log_read.specs.declared.refusal.LogWhy.{LogWhy}
use Rattle.log_read.specs.Readings.{IsRecords}
use Rattle.log_read.specs.declared.begin.Begin.TheVariants.{AtOne}
use Rattle.report_seen.specs.WrittenLogs.{IsLoggedRun}

-- the counts of 64 detectors, each of 32 bits
pub record IsLoggable (frame : Counts) : Type 0 where
  pub size : length frame ≡ 64
  pub counts : All (λ c. (c.0 < 2 ^ 32) × (c.1 < 2 ^ 32)) frame

-- such frames, of at most 604,801 seconds
pub record AreLoggable (frames : List Counts) : Type 0 where
  pub few : length frames ≤ 604801
  pub frames_are : All IsLoggable frames

-- whatever a form plays of what its files give: the records of its seconds with such frames have values as those of a run
abbrev pub LoadedRunsAreLogged : Type 0
LoadedRunsAreLogged =
    (form : Form) (file : Contents) (loaded : Loaded form) (frames : List Counts) → AreLoggable frames → Loads form file (Ok loaded) →
    IfSome (plays form loaded) (λ playing. IsLoggedRun playing.site.plan.names (records_of playing frames))

-- Who reads this text line by line finds, under the names of the plan's groups, exactly the records of the run over these frames,
-- and no line to refuse; and nothing else is an answer to it.
pub record IsReadWhole (playing : Playing) (frames : List Counts) (text : List ℕ) : Type 0 where
  pub is_log : IsRecords false AtOne playing.site.plan.names text (records_of playing frames) None
  pub alone : (names : List (List ℕ)) (read : List Record) (refused : Option (ℕ × LogWhy)) → IsRecords false AtOne names text read refused →
      (names ≡ playing.site.plan.names) × (read ≡ records_of playing frames) × (refused ≡ None)

-- what `run` and `exec` write is read whole, where they came to an end: it is a log of a run of what their files give
abbrev pub WrittenLogsAreReadWhole : Type 0
WrittenLogsAreReadWhole =
    (source : Source) (words : SiteWords) (detectors : List ℕ) (file : Contents) (end : Status) (old new : Option (List ℕ)) →
    CameToAnEnd end → Meets (Play source words detectors) file end old new →
    (playing : Playing) × LoadsSource source words file (Ok playing)
    × ((text : List ℕ) × (new ≡ append_known old text) × IsReadWhole playing (stream_of (file detectors)).frames text)
