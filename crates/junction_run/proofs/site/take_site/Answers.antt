use Rattle.std.proofs.Common.{◌∙◌, ap, sym, subst}
use Rattle.site_load.specs.declared.site.SiteTables.{SiteTables}
use Rattle.junction_run.specs.Form.{site_files}
use Rattle.junction_run.specs.FormWords.{site_in}
use Rattle.junction_run.specs.Loading.{ReachedInSite, site_of}
use Rattle.junction_run.specs.Stop.{IsAmong, IsLoadStop, load_status}
use Rattle.junction_run.proofs.Loads.{site_stopped, site_taken, stop_among, stop_failed}
use Rattle.junction_run.proofs.site.take_site.Goals as goal

pub returns-in-Ok-clause-site : goal.returns-in-Ok-clause-site
returns-in-Ok-clause-site g c = λ file e. site_taken (site_in c.args.words.now) file c.in-Ok.tables (c.in-Ok.ensures.site file e)

pub returns-in-Err-clause-site : goal.returns-in-Err-clause-site
returns-in-Err-clause-site g c = λ file e.
    let words = site_in c.args.words.now in
    subst (λ s. IsLoadStop (λ w. ReachedInSite words file w) s (site_of words file)) (sym c.load_stop.ensures)
    (site_stopped words file c.in-Err.stop (c.in-Err.ensures.site file e))

pub returns-in-Err-clause-word : goal.returns-in-Err-clause-word
returns-in-Err-clause-word g c =
    let files = site_files (site_in c.args.words.now) in
    subst (λ s. IsAmong files s) (sym c.load_stop.ensures) (stop_among files c.in-Err.stop c.in-Err.ensures.word)

pub returns-in-Err-clause-cause : goal.returns-in-Err-clause-cause
returns-in-Err-clause-cause g c = λ is.
    c.in-Err.ensures.cause (stop_failed SiteTables c.in-Err.stop (sym (ap load_status c.load_stop.ensures) ∙ is))
