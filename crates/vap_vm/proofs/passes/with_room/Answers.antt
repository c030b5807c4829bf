use Rattle.std.proofs.Common.{length, map, replicate, refl, sym, ap, ◌∙◌, subst}
use Rattle.std.specs.Prelude.{pos}
use Rattle.vap_code.specs.Valid.{Valid}
use Rattle.vap_code.specs.Stores.{stopped}
use Rattle.vap_vm.specs.View.{store_of}
use Rattle.vap_vm.proofs.PassFacts.{cells_short, first_ready, store_is}
use Rattle.vap_vm.proofs.passes.with_room.Goals as goal

pub of-requires : goal.of-requires
of-requires c = cells_short c.code-2.result.now (subst Valid (sym c.code-2.ensures.same) c.code-2.ensures.valid)

pub of-requires-2 : goal.of-requires-2
of-requires-2 c = cells_short c.code-3.result.now (subst Valid (sym c.code-3.ensures.same) c.code-3.ensures.valid)

pub invariant_of-result : goal.invariant_of-result
invariant_of-result c =
    let m = c.in_ok-machine.machine in
    let slots = c.in_ok-machine.ensures.slots in
    let variables = c.in_ok-slots.ensures.variables ∙ ap (λ code. replicate code.vars (pos 0)) c.code-2.ensures.same in
    let arrays = c.in_ok-slots.ensures.arrays ∙ ap (λ code. code.arrays) c.code-2.ensures.same in
    let timers = c.in_ok-slots.ensures.timers ∙ ap (λ code. replicate code.timers stopped) c.code-2.ensures.same in
    let variables' = c.in_ok-before.ensures.variables ∙ ap (λ code. replicate code.vars (pos 0)) c.code-3.ensures.same in
    let arrays' = c.in_ok-before.ensures.arrays ∙ ap (λ code. code.arrays) c.code-3.ensures.same in
    let timers' = c.in_ok-before.ensures.timers ∙ ap (λ code. replicate code.timers stopped) c.code-3.ensures.same in (
      first_ready c.args.code (record { code = c.args.code; store = store_of m; seconds = 0 }) refl
          (store_is m c.args.code (ap (λ s. s.variables.items) slots ∙ variables) (ap (λ s. s.arrays) slots ∙ arrays)
          (ap (λ s. s.timers.items) slots ∙ timers) c.in_ok-machine.ensures.commands) refl,
      record {
        variables = ap length (variables' ∙ sym variables ∙ ap (λ s. s.variables.items) (sym slots));
        arrays = ap (map length) (arrays' ∙ sym arrays ∙ ap (λ s. s.arrays) (sym slots));
        timers = ap length (timers' ∙ sym timers ∙ ap (λ s. s.timers.items) (sym slots));
      },
      λ none. arrays' ∙ sym arrays ∙ ap (λ s. s.arrays) (sym slots),
    )

pub returns-clause-ready : goal.returns-clause-ready
returns-clause-ready c =
    let m = c.in_ok-machine.machine in
    let slots = c.in_ok-machine.ensures.slots in
    let variables = c.in_ok-slots.ensures.variables ∙ ap (λ code. replicate code.vars (pos 0)) c.code-2.ensures.same in
    let arrays = c.in_ok-slots.ensures.arrays ∙ ap (λ code. code.arrays) c.code-2.ensures.same in
    let timers = c.in_ok-slots.ensures.timers ∙ ap (λ code. replicate code.timers stopped) c.code-2.ensures.same in
    first_ready c.args.code (record { code = c.args.code; store = store_of m; seconds = 0 }) refl
    (store_is m c.args.code (ap (λ s. s.variables.items) slots ∙ variables) (ap (λ s. s.arrays) slots ∙ arrays)
    (ap (λ s. s.timers.items) slots ∙ timers) c.in_ok-machine.ensures.commands) refl
