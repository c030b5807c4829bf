use Rattle.std.proofs.Common.{◌≡◌, ◌∙◌, ap}
use Rattle.vap_code.specs.Sights.{Sight}
use Rattle.vap_vm.specs.View.{state_of}
use Rattle.trace_watch.specs.Counted.{spends, says_yes, says_no}
use Rattle.trace_watch.proofs.Counting.{counted-more}
use Rattle.trace_watch.proofs.counts.CountsObserver.look.Goals as goal

pub returns : goal.returns
returns c = λ first past looked.
    let h = looked.counted in
    let s : Sight = record { instr = c.args.instr; state = state_of c.args.head.now c.args.machine.now } in
    let at : c.place-place.result ≡ s.state.place = c.place-place.ensures ∙ ap (λ s. s.state.place) c.of-sight.ensures in
    let units = c.units.ensures ∙ ap (λ s. s.state.units) c.of-sight.ensures in
    let top = c.operand-top.ensures in
    record {
      counted = record {
        begun = counted-more (λ s. spends s.instr s.state.units) c.args.self.now.begun.items _ past s c.place-place.result c.spends.result at
            (c.spends.ensures ∙ ap (λ n. spends c.args.instr n) units)
            c.count.ensures.counted h.begun;
        yes = counted-more (λ s. says_yes s.instr s.state.operands) c.args.self.now.yes.items _ past s c.place-place.result c.says_yes.result at
            (c.says_yes.ensures c.of-sight.result.state.operands top ∙ ap (λ s. says_yes c.args.instr s.state.operands) c.of-sight.ensures)
            c.count-2.ensures.counted h.yes;
        no = counted-more (λ s. says_no s.instr s.state.operands) c.args.self.now.no.items _ past s c.place-place.result c.says_no.result at
            (c.says_no.ensures c.of-sight.result.state.operands top ∙ ap (λ s. says_no c.args.instr s.state.operands) c.of-sight.ensures)
            c.count-3.ensures.counted h.no;
      };
      places = λ n has.
          let then = looked.places n has in record {
            begun = c.count.ensures.places ∙ then.begun;
            yes = c.count-2.ensures.places ∙ then.yes;
            no = c.count-3.ensures.places ∙ then.no;
          };
    }
