use Rattle.std.proofs.Common.{◌≡◌, ◌∙◌, Some, ap, sym}
use Rattle.vap_code.specs.Sights.{Sight}
use Rattle.vap_vm.specs.View.{state_of}
use Rattle.trace_told.specs.EndLines.{commanded}
use Rattle.trace_told.proofs.EndsLooked.{noted, passed}
use Rattle.trace_told.proofs.end_lines.FirstLinesObserver.look.Goals as goal

pub returns-in-Some : goal.returns-in-Some
returns-in-Some c = λ first past h a b from to.
    let s : Sight = record { instr = c.args.instr; state = state_of c.args.head.now c.args.machine.now } in
    let is : c.commanded.result ≡ commanded s.instr s.state.operands =
    c.commanded.ensures.pair c.of-sight.result.state.operands c.operand.ensures c.operand-2.ensures ∙ ap (λ (s : Sight). commanded c.args.instr s.state.operands) c.of-sight.ensures in
    let at = c.line.ensures ∙ ap (λ (s : Sight). s.state.line) c.of-sight.ensures in
    noted a b past s (Some c.in-Some.stages) _ _ c.line.result (sym c.in-Some.is ∙ is) at (c.note.ensures a b from to) (h a b from to)

pub returns-in-None : goal.returns-in-None
returns-in-None c = λ first past h a b from to.
    let s : Sight = record { instr = c.args.instr; state = state_of c.args.head.now c.args.machine.now } in
    let is : c.commanded.result ≡ commanded s.instr s.state.operands =
    c.commanded.ensures.pair c.of-sight.result.state.operands c.operand.ensures c.operand-2.ensures ∙ ap (λ (s : Sight). commanded c.args.instr s.state.operands) c.of-sight.ensures in
    passed a b past s c.commanded.result _ is c.in-None.is (h a b from to)
