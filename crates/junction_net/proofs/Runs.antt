-- What the run of a junction answers over its own files.
use Rattle.std.proofs.Common.{◌≡◌, ◌∙◌, ℕ, suc, List, [], ◌∷◌, length, map, Option, None, Some, Result, Ok, Err, refl, sym, ap, subst, arith}
use Rattle.std.proofs.lemmas.List.Elements.{All-head, All-tail}
use Rattle.std.specs.Prelude.{All}
use Rattle.std.specs.Io.KnownBytes.{append_known}
use Rattle.sig_io.specs.Memory.{contents_of}
use Rattle.sig_io.specs.Outside.{Contents, Rose}
use Rattle.sig_io.specs.Seen.{seen}
use Rattle.det_stream.specs.declared.refusal.StreamWhy.{StreamWhy}
use Rattle.det_stream.specs.Stream.{stream_of}
use Rattle.junction_run.specs.declared.status.Status.{Status}
use Rattle.junction_run.specs.declared.status.Status.TheVariants.{Done, Memory, Words, ReadFault, WriteFault, RefusedFile, RefusedLine}
use Rattle.junction_run.specs.declared.status.Status.TheVariants as status
use Rattle.junction_run.specs.Answer.{Meets, answer_to, answered, log_answer, GainedBy, stream_status, stream_note}
use Rattle.junction_run.specs.Answers.{FormAnswer, JunctionAnswers}
use Rattle.junction_run.specs.Form.{SiteWords, ProgramFile, files_of}
use Rattle.junction_run.specs.Laws.{LoadsOnce}
use Rattle.junction_run.specs.Loading.{Unloaded, Playing, Loads, site_of, AfterSite, IsSource, played_at}
use Rattle.junction_run.specs.Loading as loading
use Rattle.junction_run.specs.Notes.{IsNote, NoteMeets}
use Rattle.junction_net.specs.declared.jobs.Job.{Job}
use Rattle.junction_net.specs.Jobs.{IsReady, AreReady, Ran, HaveRun, IsEnd, HasAnswered, result_of}
use Rattle.junction_net.specs.List.{JobWords}
use Rattle.junction_net.specs.Load.{IsHeld, AreHeld}
use Rattle.junction_net.specs.Results.{JobResult, IsResult, AreResults, run_of, site_words}

some_is : {A : Type 0} {a b : A} → Some a ≡ Some b → a ≡ b
some_is e = cc

-- a sink that had taken nothing has taken this text
taken_is : (log text : List ℕ) → Some log ≡ append_known (Some []) text → log ≡ text
taken_is log text e = some_is e

-- a run that is done has no note
no_stream_note : (word : List ℕ) (o : Option (ℕ × StreamWhy)) → stream_status o ≡ Done → stream_note word o ≡ []
no_stream_note word None e = refl
no_stream_note word (Some at) e = absurd (cc)

done_no_note : (job : JobWords) (file : Contents) (r : Result Playing Unloaded) → (answer_to (run_of job) file r).status ≡ Done →
    (answer_to (run_of job) file r).note ≡ []
done_no_note job file (Ok playing) e = no_stream_note job.detectors (stream_of (file job.detectors)).refusal e
done_no_note job file (Err (loading.TooLong word)) e = absurd (cc)
done_no_note job file (Err (loading.Refused word line reason)) e = absurd (cc)

-- the run's answer is a result, where it came to its end
pub is_result : LoadsOnce → (job : JobWords) (file : Contents) (s : Status) (log note : List ℕ) → IsEnd s → Meets (run_of job) file s (Some []) (Some log) →
    IsNote (files_of (run_of job)) s note → NoteMeets (run_of job) file s note → IsResult (run_of job) file (record { status = s; log = log; note = note })
is_result once job file Done log note ends is named told =
    let text = is.3 in
    record {
      given = is.0;
      gives = is.1;
      status = is.2;
      log = subst (λ t. GainedBy (answer_to (run_of job) file is.0).Gained (answer_to (run_of job) file is.0).pieces t)
          (sym (taken_is log text.0 text.2)) text.1;
      note = named ∙ sym (done_no_note job file is.0 is.2);
    }
is_result once job file Memory log note ends is named told = absurd ends
is_result once job file Words log note ends is named told = absurd ends
is_result once job file ReadFault log note ends is named told = absurd ends
is_result once job file WriteFault log note ends is named told = absurd ends
is_result once job file RefusedFile log note ends is named told =
    let text = is.3 in
    let same : told.0 ≡ is.0 = once (run_of job) file told.0 is.0 told.1 is.1 in
    record {
      given = is.0;
      gives = is.1;
      status = is.2;
      log = subst (λ t. GainedBy (answer_to (run_of job) file is.0).Gained (answer_to (run_of job) file is.0).pieces t)
          (sym (taken_is log text.0 text.2)) text.1;
      note = told.3 ∙ ap (λ r. (answer_to (run_of job) file r).note) same;
    }
is_result once job file RefusedLine log note ends is named told =
    let text = is.3 in
    let same : told.0 ≡ is.0 = once (run_of job) file told.0 is.0 told.1 is.1 in
    record {
      given = is.0;
      gives = is.1;
      status = is.2;
      log = subst (λ t. GainedBy (answer_to (run_of job) file is.0).Gained (answer_to (run_of job) file is.0).pieces t)
          (sym (taken_is log text.0 text.2)) text.1;
      note = told.3 ∙ ap (λ r. (answer_to (run_of job) file r).note) same;
    }
is_result once job file status.TooLong log note ends is named told = absurd ends

-- ---- files that hold the same

site_alike : (words : SiteWords) (f g : Contents) → f words.plan ≡ g words.plan → f words.times ≡ g words.times → f words.intergreens ≡ g words.intergreens →
    site_of words f ≡ site_of words g
site_alike words f g p t i = rw (p, t, i) refl

loads_alike : (job : JobWords) (f g : Contents) (r : Result Playing Unloaded) → IsHeld g job f → Loads (run_of job) f r → Loads (run_of job) g r
loads_alike job f g r held is =
    subst (λ s. AfterSite (played_at (ProgramFile job.program)) s (IsSource (ProgramFile job.program) (g job.program)) r)
    (site_alike (site_words job) f g held.plan held.times held.intergreens)
    (subst (λ b. AfterSite (played_at (ProgramFile job.program)) (site_of (site_words job) f) (IsSource (ProgramFile job.program) b) r) held.program is)

-- a result over files that hold the same is one
result_alike : (job : JobWords) (f g : Contents) (result : JobResult) → IsHeld g job f → IsResult (run_of job) f result → IsResult (run_of job) g result
result_alike job f g result held is = record {
  given = is.given;
  gives = loads_alike job f g is.given held is.gives;
  status = subst (λ b. (answered (λ playing. log_answer job.detectors playing (stream_of b)) is.given).status ≡ result.status) held.detectors is.status;
  log = subst (λ b. GainedBy (answered (λ playing. log_answer job.detectors playing (stream_of b)) is.given).Gained
      (answered (λ playing. log_answer job.detectors playing (stream_of b)) is.given).pieces result.log) held.detectors is.log;
  note = subst (λ b. result.note ≡ (answered (λ playing. log_answer job.detectors playing (stream_of b)) is.given).note) held.detectors is.note;
}

-- ---- a job

never_zero : Rose 0 0 → ⊥
never_zero rose = omega (arith, rose)

never_rose : (a b : ℕ) → a ≡ 0 → b ≡ 0 → Rose a b → ⊥
never_rose a b p q rose = never_zero (subst (λ n. Rose 0 n) q (subst (λ n. Rose n b) p rose))

-- its run answers what that of the junction answers over the files
job_result : LoadsOnce → (file : Contents) (words : JobWords) (old new : Job) → IsReady words old →
    IsHeld file words (contents_of old.files.files.items) → Ran old new → HasAnswered new →
    IsResult (run_of words) file (result_of new)
job_result once file words old new ready held ran ended =
    let own : Contents = contents_of old.files.files.items in
    let answer : FormAnswer (run_of words) (seen (Some own) (Some (contents_of new.files.files.items)) 0 0)
    (seen (Some old.log.bytes.items) (Some new.log.bytes.items) old.log.faults new.log.faults)
    (seen (Some old.note.bytes.items) (Some new.note.bytes.items) old.note.faults new.note.faults) new.status
    = subst (λ ws. JunctionAnswers ws (seen (Some own) (Some (contents_of new.files.files.items)) 0 0)
    (seen (Some old.log.bytes.items) (Some new.log.bytes.items) old.log.faults new.log.faults)
    (seen (Some old.note.bytes.items) (Some new.note.bytes.items) old.note.faults new.note.faults) new.status) ready.words_are ran.answers in
    let note = answer.note (λ rose. never_rose old.note.faults new.note.faults ready.faults ended.faults rose) in
    let meets = subst (λ l. Meets (run_of words) own new.status (Some l) (Some new.log.bytes.items)) ready.log (answer.answer own refl) in
    let whole : new.note.bytes.items ≡ note.0
    = taken_is new.note.bytes.items note.0 (note.1 ∙ ap (λ (l : List ℕ). append_known (Some l) note.0) ready.note) in
    result_alike words own file (result_of new) held
    (subst (λ n. IsResult (run_of words) own (record { status = new.status; log = new.log.bytes.items; note = n })) (sym whole)
    (is_result once words own new.status new.log.bytes.items note.0 ended.ends meets note.2 (note.3 own refl)))

-- and so in the order of the list
pub are_results : LoadsOnce → (file : Contents) (list : List JobWords) (olds news : List Job) → AreReady list olds →
    AreHeld file list (map (λ job. Some (contents_of job.files.files.items)) olds) → HaveRun olds news → length news ≡ length olds → All HasAnswered news →
    AreResults file list (map result_of news)
are_results once file [] [] [] ready held ran count answered = tt
are_results once file [] [] (n ∷ ns) ready held ran count answered = absurd (omega (arith, count))
are_results once file [] (o ∷ os) news ready held ran count answered = absurd ready
are_results once file (w ∷ ws) [] news ready held ran count answered = absurd ready
are_results once file (w ∷ ws) (o ∷ os) [] ready held ran count answered = absurd (omega (arith, count))
are_results once file (w ∷ ws) (o ∷ os) (n ∷ ns) ready held ran count answered = (
  job_result once file w o n ready.0 held.0 (ran 0 o (omega arith)) (All-head HasAnswered n ns answered),
  are_results once file ws os ns ready.1 held.1 (λ k d low. ran (suc k) d (omega (arith, low))) (omega (arith, count)) (All-tail HasAnswered n ns answered),
)
