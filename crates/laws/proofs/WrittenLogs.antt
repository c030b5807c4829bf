-- The logs of runs are read back whole.
use Rattle.std.proofs.Common.{◌≡◌, ◌∙◌, ℕ, suc, ◌+◌, ◌-◌, ◌<◌, ◌≤◌, List, [], ◌∷◌, length, get_or, Option, Result, Ok, Err, refl, sym, ap, subst, arith, inl, inr}
use Rattle.std.specs.Io.KnownBytes.{append_known}
use Rattle.std.proofs.lemmas.List.{take_all}
use Rattle.std.proofs.lemmas.List.Elements.{All-from_get_or}
use Rattle.sig_io.specs.Outside.{Contents}
use Rattle.sig_types.specs.Counts.{AreFrames, Counts, count_in, fronts, rears}
use Rattle.sig_types.specs.Pass.{Logic}
use Rattle.det_stream.specs.Stream.{stream_of}
use Rattle.det_stream.proofs.FramesKept.{streams_are_frames}
use Rattle.vap_check.specs.KeptTrees.{KeepsParsed}
use Rattle.controller.specs.Past.{Past, Site, opening}
use Rattle.controller.specs.Second.{past_after_second, run_from}
use Rattle.junction_run.specs.declared.status.Status.{Status}
use Rattle.junction_run.specs.declared.status.Status.TheVariants as status
use Rattle.junction_run.specs.Answer.{Gains, IsAnswered, Meets, answer_to}
use Rattle.junction_run.specs.Form.{Audit, Compile, Form, Play, ProgramFile, Sample, SiteWords, Source, word_of}
use Rattle.junction_run.specs.Loading.{Loads, LoadsSource, Playing, Refused, TooLong, Unloaded, site_of}
use Rattle.junction_run.specs.Records.{log_of, records_of}
use Rattle.junction_run.specs.SafeLogs.{CameToAnEnd, IsWithinLimits}
use Rattle.junction_run.proofs.SafeLogs.{loaded_runs_are_within_limits}
use Rattle.report_seen.specs.WrittenLogs.{IsLoggedRun}
use Rattle.report_seen.proofs.CountsBack.{IsCount}
use Rattle.report_seen.proofs.LogsBack.{only_written_is_read, written_is_read}
use Rattle.laws.specs.RunLogs.{AreLoggable, IsLoggable, IsReadWhole, LoadedRunsAreLogged, WrittenLogsAreReadWhole}
use Rattle.laws.proofs.LoadedLines.{loaded_lined}
use Rattle.laws.proofs.RunRecords.{run_is_of_run}

-- ---- frames

-- a count of a detector file has 32 bits
module _ (frames : List Counts) (are : AreFrames frames) (n : ℕ) (lt : n < length frames) where
  abbrev frame : Counts
  frame = get_or frames n []

  fits : (p : ℕ) → p < length frame → ((get_or frame p (0, 0)).0 ≤ 99) × ((get_or frame p (0, 0)).1 ≤ 99)
  fits p inside =
      let size : length frame ≡ 64 = are.sizes n lt in
      let place : p + 1 - 1 ≡ p = omega arith in
      let front : count_in fronts (p + 1) frame ≤ 99 = are.fronts_fit n (p + 1) lt (omega arith) (omega (arith, inside, size)) in
      let rear : count_in rears (p + 1) frame ≤ 99 = are.rears_fit n (p + 1) lt (omega arith) (omega (arith, inside, size)) in
      (rw place at front, rw place at rear)

  frame_loggable : IsLoggable frame
  frame_loggable = record {
    size = are.sizes n lt;
    counts = All-from_get_or IsCount frame (0, 0) (λ p inside. (omega (arith, (fits p inside).0), omega (arith, (fits p inside).1)));
  }

frames_loggable : (frames : List Counts) → AreFrames frames → AreLoggable frames
frames_loggable frames are =
    record { few = omega (arith, are.few); frames_are = All-from_get_or IsLoggable frames [] (λ n lt. frame_loggable frames are n lt) }

-- ---- a run of what the files give

pub run_count : (logic : Logic) (site : Site) (past : Past) (fs : List Counts) → length (run_from logic site past fs) ≡ length fs
run_count logic site past [] = refl
run_count logic site past (f ∷ fs) = ap suc (run_count logic site (past_after_second logic site past f) fs)

-- the log of such a run is read whole
pub log_read : (playing : Playing) (frames : List Counts) → IsLoggedRun playing.site.plan.names (records_of playing frames) →
    IsReadWhole playing frames (log_of playing frames)
unfolding log_of
log_read playing frames run = record {
  is_log = written_is_read playing.site.plan.names (records_of playing frames) run;
  alone = λ names read refused said. only_written_is_read playing.site.plan.names names (records_of playing frames) read refused run said;
}

module _ (keeps : KeepsParsed) where
  pub source_logged : (source : Source) (words : SiteWords) (file : Contents) (playing : Playing) (frames : List Counts) → AreLoggable frames →
      LoadsSource source words file (Ok playing) → IsLoggedRun playing.site.plan.names (records_of playing frames)
  unfolding records_of
  source_logged source words file playing frames are loads =
      let limits : IsWithinLimits playing frames = loaded_runs_are_within_limits (Play source words []) file playing frames loads in
      let plan = limits.plan in
      record {
        groups = record { some = plan.has_groups; few = plan.groups_at_most; names_are = plan.names; apart = plan.apart };
        few = omega (arith, run_count playing.logic playing.site (opening playing.site playing.store) frames, are.few);
        records_are = run_is_of_run playing.logic playing.site playing.store frames plan
            (loaded_lined keeps source (file (word_of source)) playing (site_of words file) loads) are.frames_are limits.records;
      }

  pub loaded_runs_are_logged : LoadedRunsAreLogged
  loaded_runs_are_logged (Play source words detectors) file playing frames are loads = source_logged source words file playing frames are loads
  loaded_runs_are_logged (Compile program) file tree frames are loads = tt
  loaded_runs_are_logged (Sample program words seed seconds) file playing frames are loads =
      source_logged (ProgramFile program) words file playing frames are loads
  loaded_runs_are_logged (Audit log words) file logged frames are loads = tt

  -- ---- what out gained

  -- what was written, where the answer came to an end
  abbrev WritesWhole : Source → SiteWords → List ℕ → Contents → Option (List ℕ) → Option (List ℕ) → Type 0
  WritesWhole source words detectors file old new =
      (playing : Playing) × LoadsSource source words file (Ok playing)
      × ((text : List ℕ) × (new ≡ append_known old text) × IsReadWhole playing (stream_of (file detectors)).frames text)

  module _ (source : Source) (words : SiteWords) (detectors : List ℕ) (file : Contents) (old new : Option (List ℕ)) where
    abbrev form : Form
    form = Play source words detectors

    written_by : (r : Result Playing Unloaded) → LoadsSource source words file r → CameToAnEnd (answer_to form file r).status →
        Gains (answer_to form file r) (answer_to form file r).pieces old new → WritesWhole source words detectors file old new
    written_by (Ok playing) loads came gains =
        let frames : List Counts = (stream_of (file detectors)).frames in
        let whole : gains.0 ≡ log_of playing frames = gains.1 ∙ ap (log_of playing) (take_all (length frames) frames (omega arith)) in
        let run = source_logged source words file playing frames (frames_loggable frames (streams_are_frames (file detectors))) loads in
        (playing, loads, (gains.0, gains.2, subst (IsReadWhole playing frames) (sym whole) (log_read playing frames run)))
    written_by (Err (TooLong w)) loads (inl is) gains = cc
    written_by (Err (TooLong w)) loads (inr is) gains = cc
    written_by (Err (Refused w line reason)) loads (inl is) gains = cc
    written_by (Err (Refused w line reason)) loads (inr is) gains = cc

    answered_written : (end : Status) → CameToAnEnd end → IsAnswered (Loads form file) (answer_to form file) end old new →
        WritesWhole source words detectors file old new
    answered_written end came is = written_by is.0 is.1 (subst CameToAnEnd (sym is.2) came) is.3

  pub written_logs_are_read_whole : WrittenLogsAreReadWhole
  written_logs_are_read_whole source words detectors file end old new (inl is) meets =
      answered_written source words detectors file old new status.Done (inl refl)
      (subst (λ s. Meets (Play source words detectors) file s old new) is meets)
  written_logs_are_read_whole source words detectors file end old new (inr is) meets =
      answered_written source words detectors file old new status.RefusedLine (inr refl)
      (subst (λ s. Meets (Play source words detectors) file s old new) is meets)
