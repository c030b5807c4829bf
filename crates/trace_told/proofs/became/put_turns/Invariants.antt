use Rattle.std.proofs.Common.{take}
use Rattle.sig_io.specs.Draft.{Puts}
use Rattle.trace_told.specs.Became.{turns_text}
use Rattle.trace_told.proofs.became.put_turns.Given as goal

abbrev pub invariant-loop-i : goal.invariant-loop-i
invariant-loop-i g l =
    Puts g.O.Sink.taken g.O.Sink.faults l.fn.draft l.draft l.fn.out l.out (turns_text l.plan l.group.0 (take l.i l.turns))
