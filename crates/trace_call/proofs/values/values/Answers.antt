use Rattle.std.proofs.Common.{◌∙◌, map, string_bytes, Global, List, ℕ}
use Rattle.vap_ast.specs.Tree.{program_of}
use Rattle.trace_call.specs.Form.{ValuesWords}
use Rattle.trace_call.specs.FormWords.{run_named}
use Rattle.trace_call.proofs.Told.{none_chosen, values_stopped, values_told}
use Rattle.trace_call.proofs.values.values.Goals as goal

pub returns-in-Err-chosen-clause-values : goal.returns-in-Err-chosen-clause-values
returns-in-Err-chosen-clause-values g c = λ file e.
    let loaded = c.in-Ok.ensures.loaded file e in
    let names : List (List ℕ) = map (string_bytes {Z = Global}) c.args.names.now in
    let asked : ValuesWords = record { run = run_named c.args.run; names = names; first = c.args.window.from; last = c.args.window.to } in
    none_chosen asked file c.in-Ok.loaded.site (program_of c.in-Ok.loaded.checked.tree) c.in-Err-chosen.stop _ loaded.given c.in-Err-chosen.ensures

pub returns-in-Ok-tell_values-clause-values : goal.returns-in-Ok-tell_values-clause-values
returns-in-Ok-tell_values-clause-values g c = λ file e.
    let loaded = c.in-Ok.ensures.loaded file e in
    let names : List (List ℕ) = map (string_bytes {Z = Global}) c.args.names.now in
    let asked : ValuesWords = record { run = run_named c.args.run; names = names; first = c.args.window.from; last = c.args.window.to } in
    values_told asked file c.in-Ok.loaded.site (program_of c.in-Ok.loaded.checked.tree) _ _ _ loaded.given loaded.runs c.tell_values.ensures.valid
    (c.as_slice.ensures.value ∙ c.in-Ok-chosen.ensures.0) c.in-Ok-chosen.ensures.1 (c.in-Ok-tell_values.ensures.told file (c.load_program.ensures.contents_stay ∙ e))

pub returns-clause-values : goal.returns-clause-values
returns-clause-values g c = λ file e.
    let loaded = c.in-Ok.ensures.loaded file e in
    let names : List (List ℕ) = map (string_bytes {Z = Global}) c.args.names.now in
    let asked : ValuesWords = record { run = run_named c.args.run; names = names; first = c.args.window.from; last = c.args.window.to } in
    values_stopped asked file c.in-Ok.loaded.site (program_of c.in-Ok.loaded.checked.tree) _ c.in-Err-tell_values.stop _ _ loaded.given loaded.runs
    c.tell_values.ensures.valid
    (c.as_slice.ensures.value ∙ c.in-Ok-chosen.ensures.0) c.in-Ok-chosen.ensures.1 (c.in-Err-tell_values.ensures.told file (c.load_program.ensures.contents_stay ∙ e))
