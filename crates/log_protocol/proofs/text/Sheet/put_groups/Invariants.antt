use Rattle.sig_io.specs.Draft.{Puts}
use Rattle.log_protocol.specs.Came.{gather}
use Rattle.log_protocol.specs.Sheet.{rules_on}
use Rattle.log_protocol.specs.Told.{came_by}
use Rattle.log_protocol.specs.Texts.{group_text, name_at}
use Rattle.log_protocol.proofs.text.Sheet.put_groups.Given as goal

abbrev pub invariant-loop-g : goal.invariant-loop-g
invariant-loop-g g l =
    Puts g.O.Sink.taken g.O.Sink.faults l.fn.draft l.draft l.fn.sink l.sink
    (gather (λ g. group_text l.self.tick l.self.style l.self.first (came_by l.self.told) (rules_on l.self) (name_at l.self.plan.now.names g) g) l.g)
