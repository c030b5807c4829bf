use Rattle.sig_io.specs.Draft.{Puts}
use Rattle.log_protocol.specs.Came.{gather}
use Rattle.log_protocol.specs.Sheet.{rules_on}
use Rattle.log_protocol.specs.Told.{came_by}
use Rattle.log_protocol.specs.Texts.{greens_text}
use Rattle.log_protocol.proofs.text.Sheet.put_greens_of.Given as goal

abbrev pub invariant-loop-i : goal.invariant-loop-i
invariant-loop-i g l =
    Puts g.O.Sink.taken g.O.Sink.faults l.fn.draft l.draft l.fn.sink l.sink
    (gather (λ i. greens_text l.self.tick l.self.style l.self.first (came_by l.self.told) l.self.plan.now.names (rules_on l.self) l.g i) l.i)
