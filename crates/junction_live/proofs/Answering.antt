-- How a live run answers.
use Rattle.std.proofs.Common.{◌≡◌, ◌∙◌, ℕ, List, [], ◌++◌, Option, None, Some, Result, Ok, Err, refl, sym, ap, subst, inl, inr, ◌⊎◌}
use Rattle.std.proofs.lemmas.List.Elements.{Contains-append_left}
use Rattle.sig_io.specs.Outside.{Contents}
use Rattle.sig_types.specs.Counts.{Counts}
use Rattle.det_stream.specs.declared.refusal.StreamWhy.{StreamWhy}
use Rattle.det_stream.specs.Answers.{IsStream}
use Rattle.det_stream.specs.Stream.{Stream, stream_of}
use Rattle.junction_run.specs.declared.status.Status.{Status}
use Rattle.junction_run.specs.declared.status.Status.TheVariants as status
use Rattle.junction_run.specs.declared.stop.LineReason.TheVariants.{Frame, Record}
use Rattle.junction_run.specs.declared.stop.PlayStop.TheVariants.{ReadFault, WriteFault, RefusedLine}
use Rattle.junction_run.specs.declared.stop.Stop.{Stop}
use Rattle.junction_run.specs.declared.stop.Stop.TheVariants.{Load, Play}
use Rattle.junction_run.specs.Answer.{IsAnswered, Gains, answered, unloaded_answer, stream_note}
use Rattle.junction_run.specs.Ended.{IsEndedBy}
use Rattle.junction_run.specs.Form as forms
use Rattle.junction_run.specs.Laws.{LoadsOnce}
use Rattle.junction_run.specs.Loading.{Playing, Unloaded, ReachedInPlay}
use Rattle.junction_run.specs.Loading.{TooLong as LongFile, Refused as RefusedFile}
use Rattle.junction_run.specs.Notes.{IsNote}
use Rattle.junction_run.specs.SiteAnswer.{IsLoadStatus, IsSiteLoad, IsSiteNote, IsRefusedLoad}
use Rattle.junction_run.proofs.Ends.{append_known-nil}
use Rattle.junction_live.specs.Form.{LiveWords}
use Rattle.junction_live.specs.Answer.{frames_answer, Loads, Meets, NoteMeets, answer_to}
use Rattle.junction_live.specs.Ended.{GainedText, GainedBegun, IsTaken, IsPlayed}
use Rattle.junction_live.specs.Laws.{IsComplete}

-- ---- the detector file

-- it wasn't taken, and nothing was written
pub taken_played : (A : Type 0) (n : ℕ) (name bytes : List ℕ) (playing : Playing) (stop : Stop) (out : Option (List ℕ)) → IsTaken name bytes (Err stop) →
    IsPlayed {A = A} n name (stream_of bytes) playing (Err stop) out out
taken_played A n name bytes playing (Load stop) out is = (is, refl)
taken_played A n name bytes playing (Play (ReadFault word)) out is = (is, refl)
taken_played A n name bytes playing (Play WriteFault) out is = absurd is
taken_played A n name bytes playing (Play (RefusedLine word line reason)) out is = (is.0, is.1, refl)

-- it was played to its end
pub played_done : {A : Type 0} (n : ℕ) (name bytes : List ℕ) (frames : List Counts) (playing : Playing) (x : A) (old new : Option (List ℕ)) →
    IsStream bytes frames None → GainedText n playing frames old new → IsPlayed n name (stream_of bytes) playing (Ok x) old new
played_done n name bytes frames playing x old new stream is =
    (stream.refusal_is, subst (λ fs. GainedText n playing fs old new) (sym stream.frames_are) is)

-- or the sink failed
pub played_cut : (A : Type 0) (n : ℕ) (name bytes : List ℕ) (frames : List Counts) (playing : Playing) (old new : Option (List ℕ)) →
    IsStream bytes frames None → GainedBegun n playing frames old new → IsPlayed {A = A} n name (stream_of bytes) playing (Err (Play WriteFault)) old new
played_cut A n name bytes frames playing old new stream is =
    (stream.refusal_is, subst (λ fs. GainedBegun n playing fs old new) (sym stream.frames_are) is)

-- ---- the answer to a form

-- how a live run with so many watchers ended at what the files give, where its stream has this refusal
abbrev EndsWith : {A : Type 0} → ℕ → (Result Playing Unloaded → Type 0) → (List ℕ → Type 0) → List ℕ → List Counts → Result A Stop → Option (List ℕ) →
    Option (List ℕ) → Option (ℕ × StreamWhy) → Type 0
EndsWith n Gives Reached detectors frames r old new refusal = IsEndedBy Gives (answered (λ p. frames_answer n detectors p frames refusal)) Reached r old new

-- it played so
pub ended : {A : Type 0} (n : ℕ) (Gives : Result Playing Unloaded → Type 0) (Reached : List ℕ → Type 0) (detectors : List ℕ) (stream : Stream)
    (playing : Playing) (r : Result A Stop) (old new : Option (List ℕ)) → Gives (Ok playing) → Reached detectors →
    IsPlayed n detectors stream playing r old new → EndsWith n Gives Reached detectors stream.frames r old new stream.refusal
ended n Gives Reached detectors stream playing (Ok x) old new loads reached is =
    subst (EndsWith n Gives Reached detectors stream.frames (Ok x) old new) (sym is.0) (Ok playing, loads, refl, (is.1.0, is.1.1, is.1.2))
ended {A} n Gives Reached detectors stream playing (Err (Load stop)) old new loads reached is =
    subst (λ s. EndsWith {A = A} n Gives Reached detectors stream.frames (Err (Load s)) old new stream.refusal) (sym is.0) (is.1, tt)
ended n Gives Reached detectors stream playing (Err (Play (ReadFault word))) old new loads reached is =
    (inl is.1, (word.now, subst Reached (sym is.0) reached, refl))
ended {A} n Gives Reached detectors stream playing (Err (Play WriteFault)) old new loads reached is =
    subst (EndsWith {A = A} n Gives Reached detectors stream.frames (Err (Play WriteFault)) old new) (sym is.0)
    ((Ok playing, loads, is.1.0, is.1.1, is.1.2, is.1.3), tt)
ended {A} n Gives Reached detectors stream playing (Err (Play (RefusedLine word line (Frame why)))) old new loads reached is =
    subst (EndsWith {A = A} n Gives Reached detectors stream.frames (Err (Play (RefusedLine word line (Frame why)))) old new) (sym is.1)
    ((Ok playing, loads, refl, ([], refl, is.2 ∙ sym (append_known-nil old))), (Ok playing, loads, refl, ap (λ v. stream_note v (Some (line, why))) is.0))
ended n Gives Reached detectors stream playing (Err (Play (RefusedLine word line (Record why)))) old new loads reached is = absurd is.1

-- where a file is refused, out gains nothing
no_text : (u : Unloaded) (out : Option (List ℕ)) → Gains (unloaded_answer u) (unloaded_answer u).pieces out out
no_text (LongFile word) out = ([], refl, sym (append_known-nil out))
no_text (RefusedFile word line reason) out = ([], refl, sym (append_known-nil out))

refused : (form : LiveWords) (file : Contents) (s : Status) (out : Option (List ℕ)) → IsRefusedLoad form.program form.site file s →
    IsAnswered (Loads form file) (answer_to form file) s out out
refused form file s out is = (Err is.0, is.1, is.2, no_text is.0 out)

-- the site wasn't loaded
pub site_meets : (form : LiveWords) (file : Contents) (s : Status) (out : Option (List ℕ)) → IsSiteLoad form.program form.site file (Err s) →
    Meets form file s out out
site_meets form file status.Done out is = absurd is
site_meets form file status.Memory out is = refl
site_meets form file status.Words out is = is
site_meets form file status.ReadFault out is = inl refl
site_meets form file status.WriteFault out is = absurd is
site_meets form file status.RefusedFile out is = refused form file status.RefusedFile out is
site_meets form file status.RefusedLine out is = absurd is
site_meets form file status.TooLong out is = refused form file status.TooLong out is

pub site_note_meets : (form : LiveWords) (file : Contents) (s : Status) (note : List ℕ) → IsSiteNote form.program form.site file s note →
    NoteMeets form file s note
site_note_meets form file status.Done note is = tt
site_note_meets form file status.Memory note is = tt
site_note_meets form file status.Words note is = tt
site_note_meets form file status.ReadFault note is = (is.0, ReachedInPlay.at_load is.0 is.1, is.2)
site_note_meets form file status.WriteFault note is = tt
site_note_meets form file status.RefusedFile note is = (Err is.0, is.1, is.2, is.3)
site_note_meets form file status.RefusedLine note is = absurd is
site_note_meets form file status.TooLong note is = (Err is.0, is.1, is.2, is.3)

-- loading ends with few statuses
pub site_ends : (s : Status) → IsLoadStatus s → (s ≡ status.Words → ⊥) × (s ≡ status.WriteFault → ⊥)
site_ends status.Done is = absurd is
site_ends status.Memory is = (λ at. cc, λ at. cc)
site_ends status.Words is = absurd is
site_ends status.ReadFault is = (λ at. cc, λ at. cc)
site_ends status.WriteFault is = absurd is
site_ends status.RefusedFile is = (λ at. cc, λ at. cc)
site_ends status.RefusedLine is = absurd is
site_ends status.TooLong is = (λ at. cc, λ at. cc)

-- a note that names one of these files names one of more
pub note_more : (files more : List (List ℕ)) (s : Status) (note : List ℕ) → IsNote files s note → IsNote (files ++ more) s note
note_more files more status.Done note is = is
note_more files more status.Memory note is = is
note_more files more status.Words note is = is
note_more files more status.ReadFault note is = (is.0, Contains-append_left files more is.0 is.1, is.2)
note_more files more status.WriteFault note is = is
note_more files more status.RefusedFile note is = (is.0, is.1, is.2, Contains-append_left files more is.0 is.3, is.4)
note_more files more status.RefusedLine note is = (is.0, is.1, is.2, Contains-append_left files more is.0 is.3, is.4)
note_more files more status.TooLong note is = (is.0, Contains-append_left files more is.0 is.1, is.2)

-- ---- completeness

-- the answer's own status is that of the files
status_is : LoadsOnce → (form : LiveWords) (file : Contents) (r : Result Playing Unloaded) (s : Status) (old new : Option (List ℕ)) → Loads form file r →
    IsAnswered (Loads form file) (answer_to form file) s old new → s ≡ (answer_to form file r).status
status_is once form file r s old new loads is =
    sym is.2 ∙ ap (λ r. (answer_to form file r).status) (once (forms.Play (forms.ProgramFile form.program) form.site form.detectors) file is.0 r is.1 loads)

complete_so : LoadsOnce → (form : LiveWords) (file : Contents) (r : Result Playing Unloaded) (s : Status) (old new : Option (List ℕ)) → Loads form file r →
    (s ≡ status.ReadFault → ⊥) → (s ≡ status.WriteFault → ⊥) → Meets form file s old new → (s ≡ (answer_to form file r).status) ⊎ (s ≡ status.Memory)
complete_so once form file r status.Done old new loads read write is = inl (status_is once form file r status.Done old new loads is)
complete_so once form file r status.Memory old new loads read write is = inr refl
complete_so once form file r status.Words old new loads read write is = absurd is
complete_so once form file r status.ReadFault old new loads read write is = absurd (read refl)
complete_so once form file r status.WriteFault old new loads read write is = absurd (write refl)
complete_so once form file r status.RefusedFile old new loads read write is = inl (status_is once form file r status.RefusedFile old new loads is)
complete_so once form file r status.RefusedLine old new loads read write is = inl (status_is once form file r status.RefusedLine old new loads is)
complete_so once form file r status.TooLong old new loads read write is = inl (status_is once form file r status.TooLong old new loads is)

pub complete : LoadsOnce → IsComplete
complete once form file r files out notes s told loads no_read no_write is =
    complete_so once form file r s out.old out.new loads (λ at. no_read (is.read_fault at)) (λ at. no_write (is.write_fault at)) (is.answer file told)
