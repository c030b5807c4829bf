use Rattle.std.proofs.Common.{refl}
use Rattle.vap_ast.specs.Tree.{program_of}
use Rattle.vap_code.specs.Stores.{first_store}
use Rattle.controller.specs.Controls.{site_of}
use Rattle.controller.specs.Past.{Past, opening}
use Rattle.det_stream.specs.Answers.{name_of}
use Rattle.trace_call.proofs.Told.{was_told}
use Rattle.trace_call.proofs.values.tell_values.Goals as goal

pub returns-in-Ok-write_values-clause-told : goal.returns-in-Ok-write_values-clause-told
returns-in-Ok-write_values-clause-told g c = λ file e.
    let made = c.in-Ok.ensures in
    let first : Past = opening (site_of c.in-Ok.controller) (first_store c.args.site.code) in
    let told = c.in-Ok-write_values.ensures.told first made.stands refl in
    was_told c.in-Ok.controller c.args.site (program_of c.args.checked.now.tree) c.args.columns.now c.args.window.from c.args.window.to
    c.args.word.now (name_of c.in-Ok-make.lines) file _ told.0 _ _ made.logic made.site c.in-Ok-make.ensures.name told.1 (told.2 file e)

pub returns-in-Err-write_values-clause-told : goal.returns-in-Err-write_values-clause-told
returns-in-Err-write_values-clause-told g c = λ file e.
    let made = c.in-Ok.ensures in
    let first : Past = opening (site_of c.in-Ok.controller) (first_store c.args.site.code) in
    let told = c.in-Err-write_values.ensures.told first made.stands refl in
    was_told c.in-Ok.controller c.args.site (program_of c.args.checked.now.tree) c.args.columns.now c.args.window.from c.args.window.to
    c.args.word.now (name_of c.in-Ok-make.lines) file _ told.0 _ _ made.logic made.site c.in-Ok-make.ensures.name told.1 (told.2 file e)
