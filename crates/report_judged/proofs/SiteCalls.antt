-- What is written of what is asked for.
use Rattle.std.proofs.Common.{◌≡◌, ◌∙◌, ℕ, List, Option, Result, Ok, Err, sym, subst}
use Rattle.sig_io.specs.Outside.{Contents}
use Rattle.site_load.specs.declared.stop.SiteStop.{SiteStop}
use Rattle.site_load.specs.declared.stop.SiteStop.TheVariants as site
use Rattle.site_load.specs.Loading.{Site, site_of}
use Rattle.site_load.specs.Stop as loading
use Rattle.report_seen.specs.declared.stop.Stop.{Stop}
use Rattle.report_seen.specs.declared.stop.Stop.TheVariants as view
use Rattle.report_seen.specs.Answers.{IsOfReading, IsUndrawn}
use Rattle.report_seen.specs.DiagramCall as viewed
use Rattle.report_judged.specs.declared.site_stop.DiagramStop.{DiagramStop}
use Rattle.report_judged.specs.declared.site_stop.DiagramStop.TheVariants.{Log, Judged}
use Rattle.report_judged.specs.SiteForm.{Asked}
use Rattle.report_judged.specs.SiteCall.{IsAnswered, IsPut, IsStopped, IsTextOf}

-- a text that is asked for, and is put
pub answered : (asked : Asked) (file : Contents) (text : List ℕ) (given : Result (Unit {0}) DiagramStop) (old new : Option (List ℕ)) →
    IsTextOf asked file text → IsPut text given old new → IsAnswered asked file given old new
answered asked file text (Ok x) old new of put = (text, of, put)
answered asked file text (Err (Log view.Memory)) old new of put = put
answered asked file text (Err (Log view.Words)) old new of put = put
answered asked file text (Err (Log view.TooManySeconds)) old new of put = put
answered asked file text (Err (Log view.ReadFault)) old new of put = absurd put
answered asked file text (Err (Log view.WriteFault)) old new of put = (text, of, put)
answered asked file text (Err (Log (view.Line line why))) old new of put = absurd put
answered asked file text (Err (Log (view.LogEnds last))) old new of put = absurd put
answered asked file text (Err (Judged why)) old new of put = absurd put

-- what was written without a site
pub put_by : (text : List ℕ) (stop : Stop) (old new : Option (List ℕ)) → viewed.IsWritten text (Err stop) old new → IsPut text (Err (Log stop)) old new
put_by text stop old new written = subst (λ s. IsPut text (Err (Log s)) old new) (sym written.0) written.1

-- a log that isn't drawn
pub undrawn : (asked : Asked) (file : Contents) (site : Site) (stop : Stop) (old new : Option (List ℕ)) → site_of asked.site file ≡ Ok site →
    IsUndrawn (file asked.log) asked.window.to stop → new ≡ old → IsStopped asked file (Log stop) old new
undrawn asked file site view.Memory old new loaded is same = same
undrawn asked file site view.Words old new loaded is same = is
undrawn asked file site view.TooManySeconds old new loaded is same = is
undrawn asked file site view.ReadFault old new loaded is same = (same, (site, loaded, is))
undrawn asked file site view.WriteFault old new loaded is same = absurd is
undrawn asked file site (view.Line line why) old new loaded is same = (same, (site, loaded, is))
undrawn asked file site (view.LogEnds last) old new loaded is same = (same, (site, loaded, is))

-- the stop of a reading is no fault of a write
pub no_write : (stop : Stop) → IsOfReading stop → stop ≡ view.WriteFault → ⊥
no_write stop of is = subst IsOfReading is of

-- nor is that of a write one of a read
pub no_read : (stop : Stop) → stop ≡ view.WriteFault → stop ≡ view.ReadFault → ⊥
no_read stop write read = let both : view.WriteFault ≡ view.ReadFault = sym write ∙ read in cc

-- a site whose read failed, whatever was to be read
pub site_fault : (A : Type 0) (why : SiteStop) → loading.IsReadFault {A = Unit {0}} (Err why) → loading.IsReadFault {A = A} (Err why)
site_fault A site.Memory fault = fault
site_fault A (site.ReadFault word) fault = fault
site_fault A (site.Refused word line reason) fault = fault
site_fault A (site.TooLong word) fault = fault
