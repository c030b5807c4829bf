use Rattle.sig_io.specs.Draft.{Puts}
use Rattle.pua_model.specs.Plan.{groups_in}
use Rattle.log_protocol.specs.Came.{gather}
use Rattle.log_protocol.specs.Sheet.{rules_on}
use Rattle.log_protocol.specs.Told.{came_by}
use Rattle.log_protocol.specs.Texts.{change_text}
use Rattle.log_protocol.proofs.text.Sheet.put_changes.Given as goal

abbrev pub invariant-loop-to : goal.invariant-loop-to
invariant-loop-to g l =
    Puts g.O.Sink.taken g.O.Sink.faults l.fn.draft l.draft l.fn.sink l.sink
    (gather (λ to. gather (λ from. change_text l.self.tick l.self.style l.self.first (came_by l.self.told) l.self.plan.now.names to from ((rules_on l.self).between from to)) (groups_in l.self.plan.now)) l.to)
