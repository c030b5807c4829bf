use Rattle.std.proofs.Common.{◌∙◌, Ok, Err, refl}
use Rattle.vap_ast.specs.Tree.{program_of}
use Rattle.vap_code.specs.Stores.{first_store}
use Rattle.controller.specs.Controls.{code_of, logic_of, site_of}
use Rattle.controller.specs.Past.{Past, opening}
use Rattle.det_stream.specs.Answers.{name_of}
use Rattle.junction_run.specs.Sites.{site_in}
use Rattle.trace_call.specs.Form.{EndsWords}
use Rattle.trace_call.specs.FormWords.{run_named}
use Rattle.trace_call.proofs.Ended.{were_ends}
use Rattle.trace_call.proofs.how_ended.how_ended.Goals as goal

pub write_ends-requires-clause-begun : goal.write_ends-requires-clause-begun
write_ends-requires-clause-begun g c =
    (opening (site_of c.in-Ok-start.started.0) (first_store c.in-Ok.loaded.site.code), c.in-Ok-start.ensures.stands, refl, refl)

pub returns-in-Ok-write_ends-clause-ends : goal.returns-in-Ok-write_ends-clause-ends
returns-in-Ok-write_ends-clause-ends g c = λ file e.
    let loaded = c.in-Ok.ensures.loaded file e in
    let asked : EndsWords = record { run = run_named c.args.run; csv = c.args.csv } in
    let site = c.in-Ok.loaded.site in
    let made = c.in-Ok-start.ensures in
    let first : Past = opening (site_of c.in-Ok-start.started.0) (first_store site.code) in
    let told = c.in-Ok-write_ends.ensures.told first made.stands refl refl in
    were_ends asked file (Ok tt) site.code (code_of c.in-Ok-start.started.0) (logic_of c.in-Ok-start.started.0) (site_in site) (site_of c.in-Ok-start.started.0)
    (program_of c.in-Ok.loaded.checked.tree) told.0 (name_of c.in-Ok-start.started.1) _ _ loaded.given loaded.runs c.start.ensures.valid
    made.code made.logic made.site loaded.code_is made.name told.1 (told.2 file (c.load_program.ensures.contents_stay ∙ e))

pub returns-in-Err-write_ends-clause-ends : goal.returns-in-Err-write_ends-clause-ends
returns-in-Err-write_ends-clause-ends g c = λ file e.
    let loaded = c.in-Ok.ensures.loaded file e in
    let asked : EndsWords = record { run = run_named c.args.run; csv = c.args.csv } in
    let site = c.in-Ok.loaded.site in
    let made = c.in-Ok-start.ensures in
    let first : Past = opening (site_of c.in-Ok-start.started.0) (first_store site.code) in
    let told = c.in-Err-write_ends.ensures.told first made.stands refl refl in
    were_ends asked file (Err c.in-Err-write_ends.stop) site.code (code_of c.in-Ok-start.started.0) (logic_of c.in-Ok-start.started.0) (site_in site) (site_of c.in-Ok-start.started.0)
    (program_of c.in-Ok.loaded.checked.tree) told.0 (name_of c.in-Ok-start.started.1) _ _ loaded.given loaded.runs c.start.ensures.valid
    made.code made.logic made.site loaded.code_is made.name told.1 (told.2 file (c.load_program.ensures.contents_stay ∙ e))
