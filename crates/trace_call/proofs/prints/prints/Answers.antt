use Rattle.std.proofs.Common.{◌∙◌, Ok, Err, ap, map, refl}
use Rattle.vap_code.specs.Codes.{CodeOf}
use Rattle.vap_code.specs.Stores.{first_store}
use Rattle.controller.specs.Controls.{code_of, logic_of, site_of}
use Rattle.controller.specs.Past.{Past, opening}
use Rattle.det_stream.specs.Answers.{name_of}
use Rattle.junction_run.specs.Sites.{site_in}
use Rattle.trace_told.specs.Traces.{trace_in}
use Rattle.trace_call.specs.FormWords.{run_named}
use Rattle.trace_call.proofs.Printed.{were_prints}
use Rattle.trace_call.proofs.prints.prints.Goals as goal

pub write_prints-requires-clause-begun : goal.write_prints-requires-clause-begun
write_prints-requires-clause-begun g c =
    (opening (site_of c.in-Ok-start.started.0) (first_store c.in-Ok.loaded.site.code), c.in-Ok-start.ensures.stands, refl)

pub returns-in-Ok-write_prints-clause-prints : goal.returns-in-Ok-write_prints-clause-prints
returns-in-Ok-write_prints-clause-prints g c = λ file e.
    let loaded = c.in-Ok.ensures.loaded file e in
    let site = c.in-Ok.loaded.site in
    let made = c.in-Ok-start.ensures in
    let found = c.in-Ok-find_traces.ensures.traces in
    let first : Past = opening (site_of c.in-Ok-start.started.0) (first_store site.code) in
    let told = c.in-Ok-write_prints.ensures.told first made.stands refl in
    were_prints (run_named c.args.run) file (Ok tt) c.in-Ok.loaded.checked (map trace_in c.deref-3.result.now) c.deref.result.now found.0
    c.deref-2.result.now site.code (code_of c.in-Ok-start.started.0) (logic_of c.in-Ok-start.started.0) (site_in site) (site_of c.in-Ok-start.started.0) told.0
    (name_of c.in-Ok-start.started.1) _ _ loaded.given loaded.runs c.start.ensures.valid loaded.value (c.deref.ensures.value ∙ loaded.text) found.1
    (c.deref-2.ensures.value ∙ ap (λ (k : CodeOf). k.instrs) c.code.ensures.same) (ap (map trace_in) c.deref-3.ensures.value ∙ found.2)
    made.code made.logic made.site loaded.code_is made.name told.1 (told.2 file (c.load_program.ensures.contents_stay ∙ e))

pub returns-clause-prints : goal.returns-clause-prints
returns-clause-prints g c = λ file e.
    let loaded = c.in-Ok.ensures.loaded file e in
    let site = c.in-Ok.loaded.site in
    let made = c.in-Ok-start.ensures in
    let found = c.in-Ok-find_traces.ensures.traces in
    let first : Past = opening (site_of c.in-Ok-start.started.0) (first_store site.code) in
    let told = c.in-Err-write_prints.ensures.told first made.stands refl in
    were_prints (run_named c.args.run) file (Err c.in-Err-write_prints.stop) c.in-Ok.loaded.checked (map trace_in c.deref-3.result.now) c.deref.result.now found.0
    c.deref-2.result.now site.code (code_of c.in-Ok-start.started.0) (logic_of c.in-Ok-start.started.0) (site_in site) (site_of c.in-Ok-start.started.0) told.0
    (name_of c.in-Ok-start.started.1) _ _ loaded.given loaded.runs c.start.ensures.valid loaded.value (c.deref.ensures.value ∙ loaded.text) found.1
    (c.deref-2.ensures.value ∙ ap (λ (k : CodeOf). k.instrs) c.code.ensures.same) (ap (map trace_in) c.deref-3.ensures.value ∙ found.2)
    made.code made.logic made.site loaded.code_is made.name told.1 (told.2 file (c.load_program.ensures.contents_stay ∙ e))
