use Rattle.std.proofs.Common.{◌∙◌, Ok, Err, ap, map, refl}
use Rattle.vap_ast.specs.Tree.{program_of}
use Rattle.vap_check.specs.Numbers.{Meant}
use Rattle.vap_code.specs.Stores.{first_store}
use Rattle.controller.specs.Controls.{code_of, logic_of, site_of}
use Rattle.controller.specs.Past.{Past, opening}
use Rattle.det_stream.specs.Answers.{name_of}
use Rattle.junction_run.specs.Sites.{site_in}
use Rattle.trace_told.specs.Listing.{column_of}
use Rattle.trace_call.specs.Form.{SecondWords}
use Rattle.trace_call.specs.FormWords.{run_named}
use Rattle.trace_call.proofs.Listed.{was_listed}
use Rattle.trace_call.proofs.second.second.Goals as goal

pub write_second-requires-clause-begun : goal.write_second-requires-clause-begun
write_second-requires-clause-begun g c =
    (opening (site_of c.in-Ok-start.started.0) (first_store c.in-Ok.loaded.site.code), c.in-Ok-start.ensures.stands, refl)

pub returns-in-Ok-write_second-clause-listed : goal.returns-in-Ok-write_second-clause-listed
returns-in-Ok-write_second-clause-listed g c = λ file e.
    let loaded = c.in-Ok.ensures.loaded file e in
    let asked : SecondWords = record { run = run_named c.args.run; second = c.args.second } in
    let site = c.in-Ok.loaded.site in
    let made = c.in-Ok-start.ensures in
    let first : Past = opening (site_of c.in-Ok-start.started.0) (first_store site.code) in
    let told = c.in-Ok-write_second.ensures.told first made.stands refl in
    was_listed asked file (Ok tt) c.in-Ok-new.teller.before site.code (code_of c.in-Ok-start.started.0) (logic_of c.in-Ok-start.started.0) (site_in site)
    (site_of c.in-Ok-start.started.0) (program_of c.in-Ok.loaded.checked.tree) (program_of c.in-Ok-new.teller.checked.now.tree)
    (map column_of c.in-Ok-new.teller.kept.items) told.0 (name_of c.in-Ok-start.started.1) _ _ loaded.given loaded.runs c.start.ensures.valid
    made.code made.logic made.site loaded.code_is
    (ap (λ (m : Meant). program_of m.tree) c.in-Ok-new.ensures.program) c.in-Ok-new.ensures.columns
    (c.in-Ok-new.ensures.before ∙ c.saturating_sub.ensures)
    made.name told.1 (told.2 file (c.load_program.ensures.contents_stay ∙ e))

pub returns-in-Err-write_second-clause-listed : goal.returns-in-Err-write_second-clause-listed
returns-in-Err-write_second-clause-listed g c = λ file e.
    let loaded = c.in-Ok.ensures.loaded file e in
    let asked : SecondWords = record { run = run_named c.args.run; second = c.args.second } in
    let site = c.in-Ok.loaded.site in
    let made = c.in-Ok-start.ensures in
    let first : Past = opening (site_of c.in-Ok-start.started.0) (first_store site.code) in
    let told = c.in-Err-write_second.ensures.told first made.stands refl in
    was_listed asked file (Err c.in-Err-write_second.stop) c.in-Ok-new.teller.before site.code (code_of c.in-Ok-start.started.0) (logic_of c.in-Ok-start.started.0) (site_in site)
    (site_of c.in-Ok-start.started.0) (program_of c.in-Ok.loaded.checked.tree) (program_of c.in-Ok-new.teller.checked.now.tree)
    (map column_of c.in-Ok-new.teller.kept.items) told.0 (name_of c.in-Ok-start.started.1) _ _ loaded.given loaded.runs c.start.ensures.valid
    made.code made.logic made.site loaded.code_is
    (ap (λ (m : Meant). program_of m.tree) c.in-Ok-new.ensures.program) c.in-Ok-new.ensures.columns
    (c.in-Ok-new.ensures.before ∙ c.saturating_sub.ensures)
    made.name told.1 (told.2 file (c.load_program.ensures.contents_stay ∙ e))
