use Rattle.std.proofs.Common.{◌∙◌, ap}
use Rattle.vap_code.specs.Codes.{CodeOf}
use Rattle.junction_run.specs.Sites.{site_in}
use Rattle.trace_call.proofs.Counted.{run_stopped, tallied_first}
use Rattle.trace_call.proofs.lines.count_run.Goals as goal

pub count_seconds-requires-clause-none : goal.count_seconds-requires-clause-none
count_seconds-requires-clause-none g c =
    tallied_first c.in-Ok.tally _ c.args.site.code (c.deref.ensures.value ∙ ap (λ (k : CodeOf). k.instrs) c.code.ensures.same) c.in-Ok.ensures

pub returns-in-Ok-count_seconds-clause-counted : goal.returns-in-Ok-count_seconds-clause-counted
returns-in-Ok-count_seconds-clause-counted g c = λ file e. c.in-Ok-count_seconds.ensures.counted file e

pub returns-clause-counted : goal.returns-clause-counted
returns-clause-counted g c = λ file e.
    run_stopped c.args.site.code (site_in c.args.site) c.args.word.now file c.count_seconds.new.tally c.in-Err-count_seconds.stop
    (c.in-Err-count_seconds.ensures.counted file e)
