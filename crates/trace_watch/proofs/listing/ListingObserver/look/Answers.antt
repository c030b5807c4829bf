use Rattle.std.proofs.Common.{◌≡◌, ◌∙◌, ◌++◌, ap, take}
use Rattle.std.specs.Option.{option_to_list}
use Rattle.vap_code.specs.Sights.{Sight}
use Rattle.vap_vm.specs.View.{state_of}
use Rattle.trace_watch.specs.Events.{event_of, goes_back, value_behind}
use Rattle.trace_watch.proofs.MoreListed.{listed}
use Rattle.trace_watch.proofs.listing.ListingObserver.look.Goals as goal

pub returns : goal.returns
returns c = λ first past h.
    let s : Sight = record { instr = c.args.instr; state = state_of c.args.head.now c.args.machine.now } in
    let old = c.args.self.now in
    let at : c.of-sight.result ≡ s = c.of-sight.ensures in
    listed old _ past s c.put.new.self h
    (c.put.ensures ∙ ap (λ es. take 1000000 (old.events ++ es))
    (c.value_behind-value.ensures ∙ ap (λ (s : Sight). value_behind old.taking s.state) at))
    (c.put-2.ensures ∙ ap (λ es. take 1000000 (c.put.new.self ++ es)) (c.event_of-event.ensures ∙ ap (λ (s : Sight). event_of old.back s.instr s.state) at))
    c.is_taking-self.ensures (c.goes_back-self.ensures ∙ ap (λ (s : Sight). goes_back s.instr s.state.noted) at)
