use Rattle.std.proofs.Common.{[]}
use Rattle.junction_run.proofs.Ends.{some_cut}
use Rattle.junction_run.proofs.sample.write_summary.Goals as goal

pub returns-clause-ok : goal.returns-clause-ok
returns-clause-ok g c = λ rs stands. c.finish.ensures.ok _ _ ((c.put_summary.ensures.puts rs stands).text _ [] (c.new-draft.ensures.text _))

pub returns-clause-fault : goal.returns-clause-fault
returns-clause-fault g c = λ rs stands.
    some_cut c.finish.result _ _ _ (c.finish.ensures.fault _ _ ((c.put_summary.ensures.puts rs stands).text _ [] (c.new-draft.ensures.text _)))
