-- How a run of several junctions ends.
use Rattle.std.proofs.Common.{◌≡◌, ◌∙◌, ℕ, List, [], Option, Ok, Err, refl, sym, subst, arith, inl}
use Rattle.std.specs.Prelude.{false}
use Rattle.std.specs.Io.KnownBytes.{append_known}
use Rattle.sig_io.specs.Outside.{Contents}
use Rattle.junction_run.specs.declared.status.Status.TheVariants as status
use Rattle.junction_run.specs.Answers.{may_write}
use Rattle.junction_run.specs.Loading.{Unloaded}
use Rattle.junction_run.specs.Loading as loading
use Rattle.junction_run.proofs.Ends.{append_known-nil}
use Rattle.junction_net.specs.declared.load.Unread.TheVariants as unread
use Rattle.junction_net.specs.declared.stop.NetStop.{NetStop}
use Rattle.junction_net.specs.declared.stop.NetStop.TheVariants.{Unread, Refused, WriteFault}
use Rattle.junction_net.specs.List.{JobWords}
use Rattle.junction_net.specs.Load.{ReachedIn, files_of_jobs}
use Rattle.junction_net.specs.Net.{list_at, list_reason, measured, jobs_at, ResultsOf, GivesResults, Reached, Meets, IsNetNote, NoteMeets}
use Rattle.junction_net.specs.Results.{JobResult, net_text}
use Rattle.junction_net.specs.Runs.{IsCutRun}
use Rattle.junction_net.specs.Stop.{IsStop, RefusesAt, stop_status, stop_note}

nothing_gained : (old new : Option (List ℕ)) → new ≡ old → new ≡ append_known old []
nothing_gained old new same = same ∙ sym (append_known-nil old)

-- ---- statuses

pub no_words : (stop : NetStop) → stop_status stop ≡ status.Words → ⊥
no_words (Unread unread.Memory) e = cc
no_words (Unread (unread.Fault name)) e = cc
no_words (Unread (unread.TooLong name)) e = cc
no_words (Refused word line why) e = cc
no_words WriteFault e = cc

pub no_line : (stop : NetStop) → stop_status stop ≡ status.RefusedLine → ⊥
no_line (Unread unread.Memory) e = cc
no_line (Unread (unread.Fault name)) e = cc
no_line (Unread (unread.TooLong name)) e = cc
no_line (Refused word line why) e = cc
no_line WriteFault e = cc

-- the note of a stop is that of its status
pub note_is : (word : List ℕ) (stop : NetStop) → RefusesAt word stop → IsNetNote word (stop_status stop) (stop_note stop)
note_is word (Unread unread.Memory) at = refl
note_is word (Unread (unread.Fault name)) at = (name.now, refl)
note_is word (Unread (unread.TooLong name)) at = (name.now, refl)
note_is word (Refused name line why) at = (name.now, line, list_reason why, (0, omega arith, sym at), refl)
note_is word WriteFault at = refl

pub refuses_none : (word : List ℕ) (stop : NetStop) → (stop_status stop ≡ status.RefusedFile → ⊥) → RefusesAt word stop
refuses_none word (Unread why) never = tt
refuses_none word (Refused name line why) never = absurd (never refl)
refuses_none word WriteFault never = tt

-- ---- over files that tell

-- a stop before out gained anything, or by a fault of it
pub stop_meets : (word : List ℕ) (file : Contents) (stop : NetStop) (old new : Option (List ℕ)) →
    IsStop (λ u. jobs_at file word ≡ Err u) (Reached word file) stop →
    (may_write false (stop_status stop) ≡ false → new ≡ old) → (stop_status stop ≡ status.WriteFault → IsCutRun file (jobs_at file word) old new) →
    Meets word file (stop_status stop) old new × NoteMeets word file (stop_status stop) (stop_note stop)
stop_meets word file (Unread unread.Memory) old new is unwritten cut = (unwritten refl, tt)
stop_meets word file (Unread (unread.Fault name)) old new is unwritten cut = (inl (unwritten refl), (name.now, is, refl))
stop_meets word file (Unread (unread.TooLong name)) old new is unwritten cut =
    ((Err (loading.TooLong name.now), is, refl, ([], refl, nothing_gained old new (unwritten refl))), (Err (loading.TooLong name.now), is, refl, refl))
stop_meets word file (Refused name line why) old new is unwritten cut = (
  (Err (loading.Refused name.now line (list_reason why)), is, refl, ([], refl, nothing_gained old new (unwritten refl))),
  (Err (loading.Refused name.now line (list_reason why)), is, refl, refl),
)
stop_meets word file WriteFault old new is unwritten cut = let c = cut refl in ((Ok c.0, c.1, net_text c.0, refl, c.2, c.3), tt)

-- the list was not taken
pub list_stop : (word : List ℕ) (file : Contents) (stop : NetStop) → IsStop (λ u. list_at file word ≡ Err u) (λ name. name ≡ word) stop →
    IsStop (λ u. jobs_at file word ≡ Err u) (Reached word file) stop
list_stop word file (Unread unread.Memory) is = tt
list_stop word file (Unread (unread.Fault name)) is = subst (λ n. Reached word file n) (sym is) Reached.at_list
list_stop word file (Unread (unread.TooLong name)) is = rw is refl
list_stop word file (Refused name line why) is = rw is refl
list_stop word file WriteFault is = tt

-- a list that was taken is measured
pub jobs_are : (word : List ℕ) (file : Contents) (list : List JobWords) → list_at file word ≡ Ok list → jobs_at file word ≡ measured file list
jobs_are word file list is = rw is refl

-- its files were not all read, or what the junctions answer was not written
pub files_stop : (word : List ℕ) (file : Contents) (list : List JobWords) (stop : NetStop) → list_at file word ≡ Ok list →
    IsStop (λ u. measured file list ≡ Err u) (ReachedIn file (files_of_jobs list)) stop → IsStop (λ u. jobs_at file word ≡ Err u) (Reached word file) stop
files_stop word file list (Unread unread.Memory) taken is = tt
files_stop word file list (Unread (unread.Fault name)) taken is = Reached.at_file list name.now taken is
files_stop word file list (Unread (unread.TooLong name)) taken is = jobs_are word file list taken ∙ is
files_stop word file list (Refused name line why) taken is = jobs_are word file list taken ∙ is
files_stop word file list WriteFault taken is = tt

-- all was done
pub done_gives : (word : List ℕ) (file : Contents) (list : List JobWords) (rs : List JobResult) → list_at file word ≡ Ok list →
    ResultsOf file (measured file list) (Ok rs) →
    GivesResults word file (Ok rs)
done_gives word file list rs taken are = subst (λ r. ResultsOf file r (Ok rs)) (sym (jobs_are word file list taken)) are

pub done_meets : (word : List ℕ) (file : Contents) (list : List JobWords) (rs : List JobResult) (old new : Option (List ℕ)) → list_at file word ≡ Ok list →
    ResultsOf file (measured file list) (Ok rs) → new ≡ append_known old (net_text rs) → Meets word file status.Done old new
done_meets word file list rs old new taken are text = (Ok rs, done_gives word file list rs taken are, refl, (net_text rs, refl, text))
