use Rattle.std.proofs.Common.{◌≡◌, ◌∙◌, Ok, refl, sym, ap, subst}
use Rattle.std.specs.Io.KnownBytes.{append_known}
use Rattle.pua_model.specs.Plan.{groups_in}
use Rattle.controller.specs.Controls.{plan_of}
use Rattle.signal_log.specs.Summary.{StandsFor as SummaryStands}
use Rattle.vap_code.specs.Stores.{first_store}
use Rattle.junction_run.specs.Answer.{loaded_answer}
use Rattle.junction_run.specs.Drawn.{drawn}
use Rattle.junction_run.specs.Form.{Sample}
use Rattle.junction_run.specs.FormWords as words
use Rattle.junction_run.specs.Loading.{Playing, LoadsProgram, Reached, program_at}
use Rattle.junction_run.specs.Played.{playing_of}
use Rattle.junction_run.specs.Records.{records_of}
use Rattle.junction_run.specs.Sampled.{sample_text}
use Rattle.junction_run.specs.Sites as sites
use Rattle.junction_run.proofs.Ends.{stopped_loading, no_write, no_line}
use Rattle.junction_run.proofs.Sampling.{sample_is, same_cut}
use Rattle.junction_run.proofs.sample.sample.Goals as goal

pub returns-in-Err-clause-ended : goal.returns-in-Err-clause-ended
returns-in-Err-clause-ended g c = λ file e.
    let name = c.args.program.now in
    let site = words.site_in c.args.words.now in
    let form = Sample name site c.args.seed c.args.seconds.count in
    stopped_loading (LoadsProgram name site file) (loaded_answer form file) (Reached form file) c.in-Err.stop _ _ (c.in-Err.ensures.loaded file e) refl

pub returns-in-Err-clause-write : goal.returns-in-Err-clause-write
returns-in-Err-clause-write g c = λ is. absurd (no_write c.in-Err.stop is)

pub returns-in-Err-clause-line : goal.returns-in-Err-clause-line
returns-in-Err-clause-line g c = no_line c.in-Err.stop

pub returns-in-Ok-write_summary-clause-ended : goal.returns-in-Ok-write_summary-clause-ended
returns-in-Ok-write_summary-clause-ended g c = λ file e.
    let loaded = c.in-Ok.ensures.loaded file e in
    let made = c.in-Ok-make_controller.ensures in
    let start = c.in-Ok-make_controller.controller in
    let code = c.in-Ok.site.code in
    let site = sites.site_in c.in-Ok.site in
    let seconds = c.args.seconds.count in
    let playing : Playing = program_at site loaded.0 in
    let plan = c.plan.result.now in
    let planned : plan ≡ plan_of start = c.plan.ensures ∙ c.sample_seconds-summary.ensures.plan in
    let rs = records_of (playing_of start (first_store code)) (drawn c.args.seed seconds) in
    let stands = subst (λ n. SummaryStands c.sample_seconds-summary.result n rs) (sym (ap groups_in planned))
    (c.sample_seconds-summary.ensures.summed (first_store code) made.stands) in
    let same = sample_is code loaded.0 loaded.2 made.valid start plan site c.args.seed seconds made.logic made.site planned in
    let gained = c.in-Ok-write_summary.ensures.ok rs stands ∙ ap (append_known (g.O.Sink.taken c.args.out.now)) same in
    (Ok playing, loaded.1, refl, (sample_text c.args.seed seconds playing, refl, gained))

pub returns-in-Err-write_summary-clause-ended : goal.returns-in-Err-write_summary-clause-ended
returns-in-Err-write_summary-clause-ended g c = λ file e.
    let loaded = c.in-Ok.ensures.loaded file e in
    let made = c.in-Ok-make_controller.ensures in
    let start = c.in-Ok-make_controller.controller in
    let code = c.in-Ok.site.code in
    let site = sites.site_in c.in-Ok.site in
    let seconds = c.args.seconds.count in
    let playing : Playing = program_at site loaded.0 in
    let plan = c.plan.result.now in
    let planned : plan ≡ plan_of start = c.plan.ensures ∙ c.sample_seconds-summary.ensures.plan in
    let rs = records_of (playing_of start (first_store code)) (drawn c.args.seed seconds) in
    let stands = subst (λ n. SummaryStands c.sample_seconds-summary.result n rs) (sym (ap groups_in planned))
    (c.sample_seconds-summary.ensures.summed (first_store code) made.stands) in
    let same = sample_is code loaded.0 loaded.2 made.valid start plan site c.args.seed seconds made.logic made.site planned in
    let cut = c.in-Err-write_summary.ensures.fault rs stands in
    ((Ok playing, loaded.1, sample_text c.args.seed seconds playing, refl, cut.0, same_cut _ _ same cut.1), tt)
