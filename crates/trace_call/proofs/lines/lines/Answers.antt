use Rattle.std.proofs.Common.{◌∙◌, List, ℕ, map, string_bytes, Global}
use Rattle.vap_ast.specs.Tree.{program_of}
use Rattle.junction_run.specs.Sites.{site_in}
use Rattle.trace_call.specs.Form.{LinesWords, files_in}
use Rattle.trace_call.specs.FormWords.{run_named}
use Rattle.trace_call.proofs.Counted.{lines_stopped, lines_written, rose_written, written_no_read}
use Rattle.trace_call.proofs.lines.lines.Goals as goal

pub returns-in-Ok-count_lines-clause-lines : goal.returns-in-Ok-count_lines-clause-lines
returns-in-Ok-count_lines-clause-lines g c = λ file e.
    let loaded = c.in-Ok.ensures.loaded file e in
    let added : List (List ℕ) = files_in (map (string_bytes {Z = Global}) c.args.added.now) in
    let asked : LinesWords = record { run = run_named c.args.run; style = c.args.style; added = added } in
    let site = site_in c.in-Ok.loaded.site in
    let program = program_of c.in-Ok.loaded.checked.tree in
    lines_written asked file site program loaded.given c.in-Ok-count_lines.lines _ _ _ _ _ _ _
    (c.in-Ok-count_lines.ensures.counted file (c.load_program.ensures.contents_stay ∙ e)
    loaded.given.at_site loaded.value loaded.code_is)
    c.count_lines.ensures.nothing c.as_bytes.ensures.value (c.deref.ensures.value ∙ loaded.text) c.deref-in-Ok-count_lines.ensures.value c.write_lines.ensures.written

pub returns-in-Ok-count_lines-clause-read : goal.returns-in-Ok-count_lines-clause-read
returns-in-Ok-count_lines-clause-read g c = λ is. written_no_read _ _ _ _ c.write_lines.ensures.written is

pub returns-in-Ok-count_lines-clause-write : goal.returns-in-Ok-count_lines-clause-write
returns-in-Ok-count_lines-clause-write g c = λ is. rose_written _ c.count_lines.ensures.later c.write_lines.ensures.cause is

pub returns-clause-lines : goal.returns-clause-lines
returns-clause-lines g c = λ file e.
    let loaded = c.in-Ok.ensures.loaded file e in
    let added : List (List ℕ) = files_in (map (string_bytes {Z = Global}) c.args.added.now) in
    let asked : LinesWords = record { run = run_named c.args.run; style = c.args.style; added = added } in
    let site = site_in c.in-Ok.loaded.site in
    let program = program_of c.in-Ok.loaded.checked.tree in
    lines_stopped asked file site program loaded.given c.in-Err-count_lines.stop _ _
    (c.in-Err-count_lines.ensures.counted file (c.load_program.ensures.contents_stay ∙ e)
    loaded.given.at_site loaded.value loaded.code_is) c.count_lines.ensures.nothing
