use Rattle.std.proofs.Common.{◌∙◌}
use Rattle.vap_ast.specs.Tree.{program_of}
use Rattle.junction_run.specs.FormWords.{site_in}
use Rattle.junction_run.specs.Sites as sites
use Rattle.trace_call.specs.Loaded.{code_for}
use Rattle.trace_call.proofs.Counted.{run_added, run_not_added}
use Rattle.trace_call.proofs.lines.add_run.Goals as goal

pub returns-in-Err-clause-added : goal.returns-in-Err-clause-added
returns-in-Err-clause-added g c = λ file e site here value seconds tallied. c.in-Err.ensures.site file e

pub returns-in-Ok-count_run-clause-added : goal.returns-in-Ok-count_run-clause-added
returns-in-Ok-count_run-clause-added g c = λ file e site here value seconds tallied.
    run_added (site_in c.args.words.now) (code_for (program_of c.args.checked.now.tree)) c.in-Ok.site.code site (sites.site_in c.in-Ok.site) seconds
    c.args.word.now file c.in-Ok-count_run.run' c.args.total.now c.add_run.new.self (c.in-Ok.ensures.site file e) here (c.in-Ok.ensures.code value)
    (c.in-Ok-count_run.ensures.counted file (c.load_again.ensures.contents_stay ∙ e)) tallied c.add_run.ensures

pub returns-in-Err-count_run-clause-added : goal.returns-in-Err-count_run-clause-added
returns-in-Err-count_run-clause-added g c = λ file e site here value seconds tallied.
    run_not_added (site_in c.args.words.now) (code_for (program_of c.args.checked.now.tree)) c.in-Ok.site.code site (sites.site_in c.in-Ok.site) seconds
    c.args.word.now file c.args.total.now c.in-Err-count_run.stop (c.in-Err-count_run.ensures.counted file (c.load_again.ensures.contents_stay ∙ e))
