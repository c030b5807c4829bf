use Rattle.log_protocol.proofs.Totalled.{totals_more}
use Rattle.log_protocol.proofs.totals.Totals.add.Goals as goal

pub returns : goal.returns
returns c = λ parts pictures was is few.
    totals_more c.args.self.now _ c.args.page.now c.args.first parts pictures was is c.requires.few few c.requires.room c.join_runs.ensures.each
    c.join_runs-2.ensures.each c.join_runs-3.ensures.each c.join_runs-4.ensures.each c.join_changes.ensures.each c.join_greens.ensures.each
