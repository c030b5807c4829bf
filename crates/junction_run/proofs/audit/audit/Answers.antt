use Rattle.std.proofs.Common.{◌∙◌, ◌<◌, ◌∷◌, [], arith, refl}
use Rattle.junction_run.specs.Answer.{loaded_answer}
use Rattle.junction_run.specs.Form.{Audit, SiteWords, files_of, site_files}
use Rattle.junction_run.specs.FormWords.{site_in}
use Rattle.junction_run.specs.Loading.{Loads, Reached}
use Rattle.junction_run.specs.Sites.{site_of_tables}
use Rattle.junction_run.proofs.AuditEnds.{audit_ended, no_log}
use Rattle.junction_run.proofs.Ends.{stopped_loading, among_more, stops_playing, no_write}
use Rattle.junction_run.proofs.audit.audit.Goals as goal

pub returns-in-Err-clause-ended : goal.returns-in-Err-clause-ended
returns-in-Err-clause-ended g c = λ file e.
    let words : SiteWords = site_in c.args.words.now in
    let form = Audit c.args.log.now words in
    stopped_loading (Loads form file) (loaded_answer form file) (Reached form file) c.in-Err.stop _ _
    (no_log c.args.log.now words file c.in-Err.stop (c.in-Err.ensures.site file e)) refl

pub returns-in-Err-clause-word : goal.returns-in-Err-clause-word
returns-in-Err-clause-word g c = among_more (site_files (site_in c.args.words.now)) (c.args.log.now ∷ []) c.in-Err.stop c.in-Err.ensures.word

pub returns-in-Err-clause-write : goal.returns-in-Err-clause-write
returns-in-Err-clause-write g c = λ is. absurd (no_write c.in-Err.stop is)

pub returns-clause-ended : goal.returns-clause-ended
returns-clause-ended g c = λ file e.
    audit_ended c.args.log.now (site_in c.args.words.now) file (site_of_tables c.in-Ok.tables) c.audit_at.result _ _ (c.in-Ok.ensures.site file e)
    (c.audit_at.ensures.audited file (c.take_site.ensures.contents_stay ∙ e))

pub returns-clause-word : goal.returns-clause-word
returns-clause-word g c =
    let third : 3 < 4 = omega arith in
    stops_playing (files_of (Audit c.args.log.now (site_in c.args.words.now))) c.args.log.now c.audit_at.result (3, third, refl) c.audit_at.ensures.word
