-- The files of a list that are measured, and the jobs that are made of them.
use Rattle.std.proofs.Common.{◌≡◌, ℕ, List, [], ◌∷◌, ◌++◌, Option, None, Ok, Err, refl}
use Rattle.sig_io.specs.Outside.{Contents}
use Rattle.junction_net.specs.declared.load.Unread.{Unread}
use Rattle.junction_net.specs.declared.load.Unread.TheVariants as unread
use Rattle.junction_net.specs.declared.stop.NetStop.TheVariants as stop
use Rattle.junction_net.specs.declared.jobs.Job.{Job}
use Rattle.junction_net.specs.Jobs.{IsReady, AreReady}
use Rattle.junction_net.specs.List.{JobWords}
use Rattle.junction_net.specs.Load.{StopsIn, ReachedIn, files_of_jobs}
use Rattle.junction_net.specs.Net.{measured, unless_long}
use Rattle.junction_net.specs.Stop.{IsStop}

pub measured_ok : (file : Contents) (list : List JobWords) (o : Option (List ℕ)) → o ≡ None → unless_long list o ≡ Ok list
measured_ok file list o short = rw short refl

pub files_unread : (file : Contents) (list : List JobWords) (u : Unread) → StopsIn file (files_of_jobs list) u →
    IsStop (λ v. measured file list ≡ Err v) (ReachedIn file (files_of_jobs list)) (stop.Unread u)
files_unread file list unread.Memory is = tt
files_unread file list (unread.Fault name) is = is
files_unread file list (unread.TooLong name) is = rw is refl

-- one job more is ready
pub ready_more : (list : List JobWords) (words : JobWords) (jobs : List Job) (job : Job) → AreReady list jobs → IsReady words job →
    AreReady (list ++ words ∷ []) (jobs ++ job ∷ [])
ready_more [] words [] job are is = (is, tt)
ready_more [] words (g ∷ gs) job are is = absurd are
ready_more (j ∷ js) words [] job are is = absurd are
ready_more (j ∷ js) words (g ∷ gs) job are is = (are.0, ready_more js words gs job are.1 is)
