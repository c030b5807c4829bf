-- What is written of what is asked for.
use Rattle.std.proofs.Common.{◌≡◌, ℕ, List, Option, Result, Ok, Err, sym, subst}
use Rattle.sig_io.specs.Outside.{Contents}
use Rattle.report_words.specs.declared.stop.JudgeStop.{JudgeStop}
use Rattle.report_words.specs.declared.stop.JudgeStop.TheVariants as stop
use Rattle.site_load.specs.declared.stop.SiteStop.{SiteStop}
use Rattle.site_load.specs.declared.stop.SiteStop.TheVariants as site
use Rattle.site_load.specs.Loading.{Site, site_of}
use Rattle.site_load.specs.Stop as loading
use Rattle.report_judged.specs.RefusalForm.{Asked}
use Rattle.report_judged.specs.RefusalCall.{IsAnswered, IsReadFault, IsStopped, IsTextOf, IsWriteFault, IsWritten}
use Rattle.report_judged.specs.RefusalsFound.{IsLogFault, IsOfLog, IsUnread}

-- a text that is asked for, and is written
pub answered : (asked : Asked) (file : Contents) (text : List ℕ) (given : Result (Unit {0}) JudgeStop) (old new : Option (List ℕ)) →
    IsTextOf asked file text → IsWritten text given old new → IsAnswered asked file given old new
answered asked file text (Ok x) old new of written = (text, of, written)
answered asked file text (Err why) old new of written = subst (λ s. IsStopped asked file s old new) (sym written.0) (text, of, written.1)

-- a log that is not read to its end
pub unread : (asked : Asked) (file : Contents) (site : Site) (why : JudgeStop) (old new : Option (List ℕ)) → site_of asked.site file ≡ Ok site →
    IsUnread site.plan.names asked.log (file asked.log) why → new ≡ old → IsStopped asked file why old new
unread asked file site stop.Words old new loaded is same = is
unread asked file site stop.Memory old new loaded is same = same
unread asked file site (stop.Site at) old new loaded is same = absurd is
unread asked file site (stop.ReadFault word) old new loaded is same = (same, (site, loaded, is))
unread asked file site (stop.RefusedLine word line reason) old new loaded is same = (same, (site, loaded, is))
unread asked file site stop.WriteFault old new loaded is same = absurd is

-- a site whose read failed, whatever was to be read
pub site_fault : (A : Type 0) (why : SiteStop) → loading.IsReadFault {A = Unit {0}} (Err why) → loading.IsReadFault {A = A} (Err why)
site_fault A site.Memory fault = fault
site_fault A (site.ReadFault word) fault = fault
site_fault A (site.Refused word line reason) fault = fault
site_fault A (site.TooLong word) fault = fault

-- a log whose read failed, whatever was to be given
pub log_fault : (A B : Type 0) (why : JudgeStop) → IsOfLog why → IsReadFault {A = A} (Err why) → IsLogFault {A = B} (Err why)
log_fault A B stop.Words of fault = absurd of
log_fault A B stop.Memory of fault = fault
log_fault A B (stop.Site at) of fault = absurd of
log_fault A B (stop.ReadFault word) of fault = fault
log_fault A B (stop.RefusedLine word line reason) of fault = fault
log_fault A B stop.WriteFault of fault = absurd of

-- and no write failed
pub no_write : (A : Type 0) (why : JudgeStop) → IsOfLog why → IsWriteFault {A = A} (Err why) → ⊥
no_write A stop.Words of fault = fault
no_write A stop.Memory of fault = fault
no_write A (stop.Site at) of fault = fault
no_write A (stop.ReadFault word) of fault = fault
no_write A (stop.RefusedLine word line reason) of fault = fault
no_write A stop.WriteFault of fault = of
