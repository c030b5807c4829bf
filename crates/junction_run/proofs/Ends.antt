-- How a command ends.
use Rattle.std.proofs.Common.{
  ◌≡◌,
  ◌∙◌,
  ℕ,
  suc,
  List,
  [],
  ◌++◌,
  length,
  take,
  Option,
  None,
  Some,
  Result,
  Ok,
  Err,
  refl,
  sym,
  ap,
  subst,
  arith,
  inl,
  inr,
  ◌⊎◌,
  length-append,
}
use Rattle.std.proofs.lemmas.List.{append-nil}
use Rattle.std.proofs.lemmas.List.Elements.{Contains-append_left}
use Rattle.std.specs.Prelude.{Contains, IfErr, OnErr, Bool, IsTrue, true, false, MatchBool}
use Rattle.std.specs.Io.KnownBytes.{append_known}
use Rattle.sig_io.specs.Outside.{Contents, Rose}
use Rattle.sig_io.specs.Draft.{IsCut, IsCutAt, IsWhole, IsDraft, Held, FailsOnly}
use Rattle.sig_io.specs.declared.whole.PutFault.{PutFault}
use Rattle.sig_io.proofs.Drafts.{cut_more}
use Rattle.sig_types.specs.Counts.{Counts}
use Rattle.det_stream.specs.Stream.{Stream, stream_of}
use Rattle.junction_run.specs.declared.status.Status.TheVariants as status
use Rattle.junction_run.specs.declared.stop.LineReason.TheVariants.{Frame, Record}
use Rattle.junction_run.specs.declared.stop.LoadStop.{LoadStop}
use Rattle.junction_run.specs.declared.stop.LoadStop.TheVariants as load
use Rattle.junction_run.specs.declared.stop.PlayStop.{PlayStop}
use Rattle.junction_run.specs.declared.stop.PlayStop.TheVariants as play
use Rattle.junction_run.specs.declared.stop.Stop.{Stop}
use Rattle.junction_run.specs.declared.stop.Stop.TheVariants.{Load, Play}
use Rattle.junction_run.specs.Answers.{may_write}
use Rattle.junction_run.specs.Answer.{Answer, answered, log_answer, MeetsBy, stream_status, stream_note}
use Rattle.junction_run.specs.Ended.{IsEndedBy}
use Rattle.junction_run.specs.Form.{SiteWords, ProgramFile}
use Rattle.junction_run.specs.Loading.{Unloaded, Playing, ReachedInPlay, ReachedAfterSite}
use Rattle.junction_run.specs.Loading as loading
use Rattle.junction_run.specs.Notes.{IsNote, NoteMeetsBy, load_note, play_note, stop_note}
use Rattle.run_seconds.specs.Told.{BeginsWith}
use Rattle.junction_run.specs.Played.{IsPlayed, IsPlayedAt, IsWritten, WasPlayed}
use Rattle.junction_run.specs.Reasons.{reason_text, line_reason}
use Rattle.junction_run.specs.Records.{log_of}
use Rattle.junction_run.specs.SiteAnswer.{IsLoadStatus, IsSiteLoad, IsSiteNote}
use Rattle.junction_run.specs.Sites.{IsSourceLoad}
use Rattle.junction_run.specs.Stop.{load_status, play_status, status_of, IsAt, IsAmong, PlaysAt, StopsAt, StopsAmong, IsUnloadedBy}
use Rattle.junction_run.proofs.Logs.{log_of-front, taken_whole, taken_front}
use Rattle.junction_run.proofs.Texts.{unloaded_later}

pub append_known-nil : (o : Option (List ℕ)) → append_known o [] ≡ o
append_known-nil None = refl
append_known-nil (Some xs) = ap Some (append-nil xs)

nothing_gained : (old new : Option (List ℕ)) → new ≡ old → new ≡ append_known old []
nothing_gained old new same = same ∙ sym (append_known-nil old)

-- ---- names

-- a stop at one of these files
pub among : (files : List (List ℕ)) (word : List ℕ) (stop : LoadStop) → Contains files word → IsAt word stop → IsAmong files stop
among files word load.Memory is at = tt
among files word (load.ReadFault w) is at = subst (λ n. Contains files n) (sym at) is
among files word (load.Refused w line reason) is at = subst (λ n. Contains files n) (sym at) is
among files word (load.TooLong w) is at = subst (λ n. Contains files n) (sym at) is

-- and at one of more files
pub among_more : (files more : List (List ℕ)) (stop : LoadStop) → IsAmong files stop → IsAmong (files ++ more) stop
among_more files more load.Memory is = tt
among_more files more (load.ReadFault w) is = Contains-append_left files more w.now is
among_more files more (load.Refused w line reason) is = Contains-append_left files more w.now is
among_more files more (load.TooLong w) is = Contains-append_left files more w.now is

plays_among : (files : List (List ℕ)) (word : List ℕ) (stop : PlayStop) → Contains files word → PlaysAt word stop → StopsAmong files (Play stop)
plays_among files word (play.ReadFault w) is at = subst (λ n. Contains files n) (sym at) is
plays_among files word play.WriteFault is at = tt
plays_among files word (play.RefusedLine w line reason) is at = subst (λ n. Contains files n) (sym at) is

stops_at : (files : List (List ℕ)) (word : List ℕ) (stop : Stop) → Contains files word → StopsAt word stop → StopsAmong files stop
stops_at files word (Load stop) is at = among files word stop is at
stops_at files word (Play stop) is at = plays_among files word stop is at

-- or where it plays
pub stops_playing : {A : Type 0} (files : List (List ℕ)) (word : List ℕ) (r : Result A Stop) → Contains files word → IfErr r (λ stop. StopsAt word stop) →
    IfErr r (λ stop. StopsAmong files stop)
stops_playing files word (Ok x) is at = tt
stops_playing files word (Err stop) is at = stops_at files word stop is at

-- loading ends with few statuses
pub load_status_is : (stop : LoadStop) → IsLoadStatus (load_status stop)
load_status_is load.Memory = tt
load_status_is (load.ReadFault w) = tt
load_status_is (load.Refused w line reason) = tt
load_status_is (load.TooLong w) = tt

-- it writes nothing
pub no_write : (stop : LoadStop) → load_status stop ≡ status.WriteFault → ⊥
no_write load.Memory e = cc
no_write (load.ReadFault w) e = cc
no_write (load.Refused w line reason) e = cc
no_write (load.TooLong w) e = cc

-- and reads no lines
pub no_line : (stop : LoadStop) → load_status stop ≡ status.RefusedLine → ⊥
no_line load.Memory e = cc
no_line (load.ReadFault w) e = cc
no_line (load.Refused w line reason) e = cc
no_line (load.TooLong w) e = cc

-- whatever stops playing, something may have been written
pub plays_may_write : (stop : PlayStop) → may_write true (play_status stop) ≡ false → ⊥
plays_may_write (play.ReadFault w) e = cc
plays_may_write play.WriteFault e = cc
plays_may_write (play.RefusedLine w line reason) e = cc

-- no stop is for the words
pub no_words : (stop : Stop) → status_of stop ≡ status.Words → ⊥
no_words (Load load.Memory) e = cc
no_words (Load (load.ReadFault w)) e = cc
no_words (Load (load.Refused w line reason)) e = cc
no_words (Load (load.TooLong w)) e = cc
no_words (Play (play.ReadFault w)) e = cc
no_words (Play play.WriteFault) e = cc
no_words (Play (play.RefusedLine w line reason)) e = cc

-- the note of a stop is that of its status
pub note_among : (files : List (List ℕ)) (stop : LoadStop) → IsAmong files stop → IsNote files (load_status stop) (load_note stop)
note_among files load.Memory is = refl
note_among files (load.ReadFault w) is = (w.now, is, refl)
note_among files (load.Refused w line reason) is = (w.now, line, reason_text reason, is, refl)
note_among files (load.TooLong w) is = (w.now, is, refl)

note_played : (files : List (List ℕ)) (stop : PlayStop) → StopsAmong files (Play stop) → IsNote files (play_status stop) (play_note stop)
note_played files (play.ReadFault w) is = (w.now, is, refl)
note_played files play.WriteFault is = refl
note_played files (play.RefusedLine w line reason) is = (w.now, line, line_reason reason, is, refl)

pub note_is : (files : List (List ℕ)) (stop : Stop) → StopsAmong files stop → IsNote files (status_of stop) (stop_note stop)
note_is files (Load stop) is = note_among files stop is
note_is files (Play stop) is = note_played files stop is

-- ---- a site with its program

-- the status of a stop is that of the files
pub site_stop : (name : List ℕ) (words : SiteWords) (file : Contents) (stop : LoadStop) → IsSourceLoad (ProgramFile name) words file (Err stop) →
    IsSiteLoad name words file (Err (load_status stop))
site_stop name words file load.Memory is = tt
site_stop name words file (load.ReadFault w) is = tt
site_stop name words file (load.Refused w line reason) is = (loading.Refused w.now line (reason_text reason), is, refl)
site_stop name words file (load.TooLong w) is = (loading.TooLong w.now, is, refl)

-- and so is its note
pub site_note : (name : List ℕ) (words : SiteWords) (file : Contents) (stop : LoadStop) → IsSourceLoad (ProgramFile name) words file (Err stop) →
    IsSiteNote name words file (load_status stop) (load_note stop)
site_note name words file load.Memory is = tt
site_note name words file (load.ReadFault w) is = (w.now, is, refl)
site_note name words file (load.Refused w line reason) is = (loading.Refused w.now line (reason_text reason), is, refl, refl)
site_note name words file (load.TooLong w) is = (loading.TooLong w.now, is, refl, refl)

-- ---- a command

-- it stopped while it loaded
pub stopped_loading : {A : Type 0} (Gives : Result A Unloaded → Type 0) (loaded_to : A → Answer) (Reached : List ℕ → Type 0) (stop : LoadStop)
    (old new : Option (List ℕ)) →
    IsUnloadedBy Gives Reached stop → new ≡ old →
    MeetsBy Gives (answered loaded_to) (load_status stop) old new × NoteMeetsBy Gives (answered loaded_to) Reached (load_status stop) (load_note stop)
stopped_loading Gives loaded_to Reached load.Memory old new is same = (same, tt)
stopped_loading Gives loaded_to Reached (load.ReadFault w) old new is same = (inl same, (w.now, is, refl))
stopped_loading Gives loaded_to Reached (load.Refused w line reason) old new is same = (
  (Err (loading.Refused w.now line (reason_text reason)), is, refl, ([], refl, nothing_gained old new same)),
  (Err (loading.Refused w.now line (reason_text reason)), is, refl, refl),
)
stopped_loading Gives loaded_to Reached (load.TooLong w) old new is same =
    ((Err (loading.TooLong w.now), is, refl, ([], refl, nothing_gained old new same)), (Err (loading.TooLong w.now), is, refl, refl))

-- the file after a site is read before the detector file
pub stopped_before : (name : List ℕ) (words : SiteWords) (detectors : List ℕ) (file : Contents) (Gives : Result Playing Unloaded → Type 0) (stop : LoadStop) →
    IsUnloadedBy Gives (λ w. ReachedAfterSite name words file w) stop →
    IsUnloadedBy Gives (λ w. ReachedInPlay name words detectors file (λ playing. Gives (Ok playing)) w) stop
stopped_before name words detectors file Gives stop is =
    unloaded_later Gives Gives (λ w. ReachedAfterSite name words file w)
    (λ w. ReachedInPlay name words detectors file (λ playing. Gives (Ok playing)) w) (λ u h. h)
    (λ w reached. ReachedInPlay.at_load w reached) stop is

-- the log of all frames of a stream
whole_log : (playing : Playing) (stream : Stream) (frames : List Counts) → stream.frames ≡ frames →
    log_of playing frames ≡ log_of playing (take (length stream.frames) stream.frames)
whole_log playing stream frames is = ap (λ fs. log_of playing fs) (sym (taken_whole stream.frames ∙ is))

-- and of its first frames
front_log : (playing : Playing) (stream : Stream) (frames : List Counts) → BeginsWith stream frames →
    log_of playing frames ≡ log_of playing (take (length frames) stream.frames)
front_log playing stream frames is =
    ap (λ fs. log_of playing fs) (sym (ap (λ fs. take (length frames) fs) is.1 ∙ taken_front frames is.0))

-- a cut of the log of the first frames is one of the whole log
cut_whole : (playing : Playing) (stream : Stream) (frames : List Counts) (old new : Option (List ℕ)) (n : ℕ) → BeginsWith stream frames →
    IsCut old new n (log_of playing frames) → IsCut old new n (log_of playing (take (length stream.frames) stream.frames))
cut_whole playing stream frames old new n is cut =
    let more = log_of-front playing frames is.0 in
    let whole : log_of playing (take (length stream.frames) stream.frames) ≡ log_of playing frames ++ more.0
    = ap (λ fs. log_of playing fs) (taken_whole stream.frames ∙ is.1) ∙ more.1 in
    subst (λ t. IsCut old new n t) (sym whole) (cut_more old new n (log_of playing frames) more.0 cut)

-- it stopped so while it played these frames
stopped_playing : (A : Type 0) (Gives : Result Playing Unloaded → Type 0) (Reached : List ℕ → Type 0) (detectors : List ℕ) (stream : Stream)
    (playing : Playing) (frames : List Counts)
    (stop : PlayStop) (old new : Option (List ℕ)) → Gives (Ok playing) → Reached detectors → IsWritten {A = A} (Err stop) (log_of playing frames) old new →
    IsPlayed {A = A} detectors (Err stop) stream frames →
    MeetsBy Gives (answered (λ p. log_answer detectors p stream)) (play_status stop) old new
    × NoteMeetsBy Gives (answered (λ p. log_answer detectors p stream)) Reached (play_status stop) (play_note stop)
stopped_playing A Gives Reached detectors stream playing frames (play.ReadFault w) old new loads reached written is = (
  inr (
    Ok playing,
    loads,
    suc (length frames),
    omega (arith, ap length is.1.1, length-append frames is.1.0),
    (log_of playing frames, front_log playing stream frames is.1, written),
  ),
  (w.now, subst Reached (sym is.0) reached, refl),
)
stopped_playing A Gives Reached detectors stream playing frames play.WriteFault old new loads reached written is =
    ((Ok playing, loads, _, refl, written.0, cut_whole playing stream frames old new written.0 is written.1), tt)
stopped_playing A Gives Reached detectors stream playing frames (play.RefusedLine w line (Record why)) old new loads reached written is = absurd is.2
stopped_playing A Gives Reached detectors stream playing frames (play.RefusedLine w line (Frame why)) old new loads reached written is =
    let at : stream_status stream.refusal ≡ status.RefusedLine = ap stream_status is.2 in
    let note : play_note (play.RefusedLine w line (Frame why)) ≡ stream_note detectors stream.refusal
    = ap (λ v. stream_note v (Some (line, why))) is.0 ∙ ap (λ o. stream_note detectors o) (sym is.2) in (
      (Ok playing, loads, at, (log_of playing frames, whole_log playing stream frames is.1, written)),
      (Ok playing, loads, at, note),
    )

-- it played so
pub ended_at : {A : Type 0} (Gives : Result Playing Unloaded → Type 0) (Reached : List ℕ → Type 0) (detectors : List ℕ) (stream : Stream) (playing : Playing)
    (r : Result A Stop) (old new : Option (List ℕ)) → Gives (Ok playing) → Reached detectors → IsPlayedAt playing detectors stream r old new →
    IsEndedBy Gives (answered (λ p. log_answer detectors p stream)) Reached r old new
ended_at Gives Reached detectors stream playing (Ok x) old new loads reached is =
    (Ok playing, loads, ap stream_status is.given.1, (log_of playing is.frames, whole_log playing stream is.frames is.given.0, is.written))
ended_at {A} Gives Reached detectors stream playing (Err (Load stop)) old new loads reached is =
    subst (λ s. IsEndedBy {B = A} Gives (answered (λ p. log_answer detectors p stream)) Reached (Err (Load s)) old new) (sym is.0) (is.1, tt)
ended_at {A} Gives Reached detectors stream playing (Err (Play stop)) old new loads reached is =
    stopped_playing A Gives Reached detectors stream playing is.frames stop old new loads reached is.written is.given

-- what a controller played with this log
pub was_played : {A : Type 0} (p q : Playing) (name read : List ℕ) (file : Contents) (r : Result A PlayStop) (frames : List Counts)
    (old new : Option (List ℕ)) →
    log_of p frames ≡ log_of q frames → read ≡ name → IsWritten r (log_of p frames) old new → IsPlayed name r (stream_of (file read)) frames →
    WasPlayed q name (stream_of (file name)) r old new
was_played p q name read file r frames old new same named written is = record {
  frames = frames;
  written = subst (λ t. IsWritten r t old new) same written;
  given = subst (λ n. IsPlayed name r (stream_of (file n)) frames) named is;
}

-- what makes the same log was played alike
was_alike : {A : Type 0} (p q : Playing) (name : List ℕ) (stream : Stream) (r : Result A PlayStop) (old new : Option (List ℕ)) →
    ((frames : List Counts) → log_of p frames ≡ log_of q frames) → WasPlayed p name stream r old new → WasPlayed q name stream r old new
was_alike p q name stream r old new same is =
    record { frames = is.frames; written = subst (λ t. IsWritten r t old new) (same is.frames) is.written; given = is.given }

-- and is played alike
pub played_alike : {A : Type 0} (p q : Playing) (name : List ℕ) (stream : Stream) (r : Result A Stop) (old new : Option (List ℕ)) →
    ((frames : List Counts) → log_of p frames ≡ log_of q frames) → IsPlayedAt p name stream r old new → IsPlayedAt q name stream r old new
played_alike p q name stream (Ok x) old new same is = was_alike p q name stream (Ok x) old new same is
played_alike p q name stream (Err (Load stop)) old new same is = is
played_alike p q name stream (Err (Play stop)) old new same is = was_alike p q name stream (Err stop) old new same is

-- ---- the draft of a log

-- a draft that failed was cut
pub is_cut : (start now : Option (List ℕ)) (draft : Held) (text : List ℕ) → draft.failed ≡ true → IsDraft start now draft text →
    (n : ℕ) × IsCut start now n text
is_cut start now draft text failed is =
    let at = subst (λ b. MatchBool b (IsCutAt start now draft.gone text) (IsWhole start now draft.gone draft.bytes text)) failed is in
    (at.n, at.cut)

-- a text that was not taken whole was cut
pub some_cut : (r : Result (Unit {0}) PutFault) (start now : Option (List ℕ)) (text : List ℕ) → IfErr r (λ f. IsCutAt start now f.taken text) →
    OnErr r ((n : ℕ) × IsCut start now n text)
some_cut (Ok u) start now text is = tt
some_cut (Err f) start now text is = (is.n, is.cut)

-- causes, one after the other
pub fails_on : (a b c : ℕ) (x y z : Bool) → FailsOnly a b x y → FailsOnly b c y z → FailsOnly a c x z
fails_on a b c x y z one two = record { later = omega (arith, one.later, two.later); failed = λ h. second (two.failed h) }
  where
    first : IsTrue x ⊎ Rose a b → IsTrue x ⊎ Rose a c
    first (inl t) = inl t
    first (inr r) = inr (omega (arith, r, two.later))

    second : IsTrue y ⊎ Rose b c → IsTrue x ⊎ Rose a c
    second (inl t) = first (one.failed t)
    second (inr r) = inr (omega (arith, r, one.later))
