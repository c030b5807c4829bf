use Rattle.std.proofs.Common.{◌≡◌, ◌∙◌, ap}
use Rattle.sig_types.specs.declared.record.Record.{Record}
use Rattle.controller.specs.Controls.{code_of, logic_of, site_of}
use Rattle.controller.specs.Past.{next_second}
use Rattle.controller.specs.Second.{past_after_second, past_of, record_after}
use Rattle.vap_code.specs.Machine.{machine}
use Rattle.sig_io.proofs.Drafts.{same_put}
use Rattle.trace_told.proofs.Rowed.{row_is}
use Rattle.trace_told.proofs.value_rows.RowsTeller.tell.Goals as goal

pub returns-then-second-self-clause-puts : goal.returns-then-second-self-clause-puts
unfolding code_of logic_of record_after
returns-then-second-self-clause-puts g c = λ first frames stands knows.
    let past = past_of (logic_of c.args.controller.now) (site_of c.args.controller.now) first frames in
    let second : c.last.result.now.second.0 ≡ next_second past =
    ap (λ (r : Record). r.second.0) (c.last.ensures ∙ c.second_seen.ensures.record past stands) in
    same_put (row_is c.args.self.now.from c.args.self.now.to c.last.result.now.second.0 (next_second past) c.vm.result.now.store
    (past_after_second (machine (code_of c.args.controller.now)) (site_of c.args.controller.now) past c.args.frame.now).store c.args.self.now.columns.now
    second c.if-self-second.true c.if-second-self.true
    (c.vm.ensures.store (past_after_second (logic_of c.args.controller.now) (site_of c.args.controller.now) past c.args.frame.now)
    (c.second_seen.ensures.stands past stands)))
    c.put_row.ensures
