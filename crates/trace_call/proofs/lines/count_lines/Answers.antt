use Rattle.std.proofs.Common.{◌∙◌, List, ℕ, map, string_bytes, Global}
use Rattle.vap_ast.specs.Tree.{program_of}
use Rattle.junction_run.specs.Sites as sites
use Rattle.trace_call.specs.Loaded.{code_for}
use Rattle.trace_call.specs.Form.{files_in}
use Rattle.trace_call.specs.FormWords.{run_named}
use Rattle.trace_call.proofs.Counted.{all_counted, first_stopped, first_tallied, later_stopped, memory_wanted}
use Rattle.trace_call.proofs.lines.count_lines.Goals as goal

pub returns-in-Err-clause-counted : goal.returns-in-Err-clause-counted
returns-in-Err-clause-counted g c = λ file e here value agrees.
    let asked = run_named c.args.run.now in
    let names : List (List ℕ) = files_in (map (string_bytes {Z = Global}) c.args.added.now) in
    first_stopped asked.site (code_for (program_of c.args.checked.now.tree)) c.args.site.code (sites.site_in c.args.site) asked.detectors names file
    c.in-Err.stop (c.in-Err.ensures.counted file e)

pub returns-in-Err-add_runs-clause-counted : goal.returns-in-Err-add_runs-clause-counted
returns-in-Err-add_runs-clause-counted g c = λ file e here value agrees.
    let asked = run_named c.args.run.now in
    let names : List (List ℕ) = files_in (map (string_bytes {Z = Global}) c.args.added.now) in
    let code = code_for (program_of c.args.checked.now.tree) in
    let site = sites.site_in c.args.site in
    later_stopped asked.site code site asked.detectors names file c.in-Ok.tally c.add_runs.new.total c.in-Err-add_runs.stop
    (first_tallied code c.args.site.code site asked.detectors file c.in-Ok.tally agrees (c.in-Ok.ensures.counted file e))
    (λ seconds tallied. c.in-Err-add_runs.ensures.added file (c.count_run.ensures.contents_stay ∙ e) site here value seconds tallied)

pub returns-in-Ok-lines-clause-counted : goal.returns-in-Ok-lines-clause-counted
returns-in-Ok-lines-clause-counted g c = λ file e here value agrees.
    let asked = run_named c.args.run.now in
    let names : List (List ℕ) = files_in (map (string_bytes {Z = Global}) c.args.added.now) in
    let code = code_for (program_of c.args.checked.now.tree) in
    let site = sites.site_in c.args.site in
    all_counted asked.site code site asked.detectors names file c.in-Ok.tally c.add_runs.new.total c.in-Ok-lines.lines
    (first_tallied code c.args.site.code site asked.detectors file c.in-Ok.tally agrees (c.in-Ok.ensures.counted file e))
    (λ seconds tallied. c.in-Ok-add_runs.ensures.added file (c.count_run.ensures.contents_stay ∙ e) site here value seconds tallied)
    c.in-Ok-lines.ensures

pub returns-clause-counted : goal.returns-clause-counted
returns-clause-counted g c = λ file e here value agrees. memory_wanted (run_named c.args.run.now).site file
