-- The log of a live run is read back whole.
use Rattle.std.proofs.Common.{◌≡◌, ℕ, List, Option, None, Some, Result, Ok, Err, sym, subst}
use Rattle.std.specs.Io.KnownBytes.{append_known}
use Rattle.sig_io.specs.Outside.{Contents}
use Rattle.sig_types.specs.Counts.{AreFrames, Counts}
use Rattle.det_stream.specs.declared.refusal.StreamWhy.{StreamWhy}
use Rattle.det_stream.specs.Stream.{Stream, stream_of}
use Rattle.det_stream.proofs.FramesKept.{streams_are_frames}
use Rattle.vap_check.specs.KeptTrees.{KeepsParsed}
use Rattle.junction_run.specs.declared.status.Status.TheVariants as status
use Rattle.junction_run.specs.Answer.{Gains, answered, unloaded_answer}
use Rattle.junction_run.specs.Form.{ProgramFile, SiteWords}
use Rattle.junction_run.specs.Loading.{LoadsProgram, Playing, Refused, TooLong, Unloaded}
use Rattle.junction_run.specs.Records.{records_of}
use Rattle.junction_live.specs.Answer.{IsWholeText, Meets, frames_answer, live_answer}
use Rattle.junction_live.specs.Form.{LiveWords}
use Rattle.report_seen.specs.WrittenLogs.{IsLoggedRun}
use Rattle.laws.specs.RunLogs.{IsReadWhole}
use Rattle.laws.specs.LiveLogs.{LiveLogsAreReadWhole, LiveTextsAreReadWhole}
use Rattle.laws.proofs.LiveFrames.{live_frames_loggable}
use Rattle.laws.proofs.WatchedTexts.{read_as, whole_told}
use Rattle.laws.proofs.WrittenLogs.{log_read, source_logged}

-- ---- what out gained

refused_is_not_done : (watchers : ℕ) (detectors : List ℕ) (playing : Playing) (frames : List Counts) (at : ℕ × StreamWhy) →
    (frames_answer watchers detectors playing frames (Some at)).status ≡ status.Done → ⊥
refused_is_not_done watchers detectors playing frames at done = cc

-- what it gained with status 0 is a whole text
whole_gained : (watchers : ℕ) (detectors : List ℕ) (playing : Playing) (frames : List Counts) (refusal : Option (ℕ × StreamWhy))
    (old new : Option (List ℕ)) → (frames_answer watchers detectors playing frames refusal).status ≡ status.Done →
    Gains (frames_answer watchers detectors playing frames refusal) (frames_answer watchers detectors playing frames refusal).pieces old new →
    (text : List ℕ) × IsWholeText watchers playing frames text × (new ≡ append_known old text)
whole_gained watchers detectors playing frames None old new done gains = gains
whole_gained watchers detectors playing frames (Some at) old new done gains =
    absurd (refused_is_not_done watchers detectors playing frames at done)

unloaded_is_not_done : (u : Unloaded) → (unloaded_answer u).status ≡ status.Done → ⊥
unloaded_is_not_done (TooLong w) done = cc
unloaded_is_not_done (Refused w line reason) done = cc

module _ (keeps : KeepsParsed) (program : List ℕ) (words : SiteWords) (file : Contents) (watchers : ℕ) where
  -- the log in a whole text is that of a run
  whole_run : (playing : Playing) (frames : List Counts) (text : List ℕ) → AreFrames frames → LoadsProgram program words file (Ok playing) →
      (whole : IsWholeText watchers playing frames text) → IsLoggedRun playing.site.plan.names (records_of playing whole.whole.made)
  whole_run playing frames text are loads whole =
      let log = whole.whole in
      let loggable = live_frames_loggable frames are log.made log.sums log.printable log.count in
      source_logged keeps (ProgramFile program) words file playing log.made loggable loads

  -- it is read whole
  whole_read : (playing : Playing) (frames : List Counts) (text : List ℕ) → AreFrames frames → LoadsProgram program words file (Ok playing) →
      (whole : IsWholeText watchers playing frames text) → IsReadWhole playing whole.whole.made whole.log
  whole_read playing frames text are loads whole =
      let log = whole.whole in
      subst (IsReadWhole playing log.made) (sym log.text_is) (log_read playing log.made (whole_run playing frames text are loads whole))

  -- and so is the text as it
  text_read : (playing : Playing) (frames : List Counts) (text : List ℕ) → AreFrames frames → LoadsProgram program words file (Ok playing) →
      (whole : IsWholeText watchers playing frames text) → IsReadWhole playing whole.whole.made text
  text_read playing frames text are loads whole =
      read_as playing whole.whole.made whole.log text
      (whole_told watchers playing frames text whole (whole_run playing frames text are loads whole))
      (whole_read playing frames text are loads whole)

  -- what was written, over these frames
  abbrev WritesWhole : List Counts → Option (List ℕ) → Option (List ℕ) → Type 0
  WritesWhole frames old new =
      (playing : Playing) × LoadsProgram program words file (Ok playing)
      × ((text : List ℕ) × (new ≡ append_known old text)
      × ((whole : IsWholeText watchers playing frames text)
      × IsReadWhole playing whole.whole.made whole.log × IsReadWhole playing whole.whole.made text))

  written_of : (playing : Playing) (frames : List Counts) (old new : Option (List ℕ)) → AreFrames frames →
      LoadsProgram program words file (Ok playing) → (text : List ℕ) × IsWholeText watchers playing frames text × (new ≡ append_known old text) →
      WritesWhole frames old new
  written_of playing frames old new are loads (text, whole, gained) =
      (playing, loads, (text, gained, (whole, whole_read playing frames text are loads whole, text_read playing frames text are loads whole)))

  written_by : (detectors : List ℕ) (stream : Stream) (r : Result Playing Unloaded) (old new : Option (List ℕ)) → AreFrames stream.frames →
      LoadsProgram program words file r → (answered (live_answer watchers detectors stream) r).status ≡ status.Done →
      Gains (answered (live_answer watchers detectors stream) r) (answered (live_answer watchers detectors stream) r).pieces old new →
      WritesWhole stream.frames old new
  written_by detectors stream (Ok playing) old new are loads done gains =
      written_of playing stream.frames old new are loads
      (whole_gained watchers detectors playing stream.frames stream.refusal old new done gains)
  written_by detectors stream (Err u) old new are loads done gains = absurd (unloaded_is_not_done u done)

written_whole : (keeps : KeepsParsed) (form : LiveWords) (file : Contents) (old new : Option (List ℕ)) → Meets form file status.Done old new →
    WritesWhole keeps form.program form.site file form.watchers (stream_of (file form.detectors)).frames old new
written_whole keeps form file old new meets =
    written_by keeps form.program form.site file form.watchers form.detectors (stream_of (file form.detectors)) meets.0 old new
    (streams_are_frames (file form.detectors)) meets.1 meets.2 meets.3

pub live_logs_are_read_whole : KeepsParsed → LiveLogsAreReadWhole
live_logs_are_read_whole keeps form file old new meets =
    let written = written_whole keeps form file old new meets in
    (written.0, written.1, (written.2.0, written.2.1, (written.2.2.0, written.2.2.1)))

pub live_texts_are_read_whole : KeepsParsed → LiveTextsAreReadWhole
live_texts_are_read_whole keeps form file old new meets =
    let written = written_whole keeps form file old new meets in
    (written.0, written.1, (written.2.0, written.2.1, (written.2.2.0, written.2.2.2)))
