use Rattle.std.proofs.Common.{length, refl, sym, ap, ◌∙◌, arith}
use Rattle.std.proofs.Math.ListN.{length-map}
use Rattle.sig_types.specs.Pass.{counted}
use Rattle.vap_vm.specs.View.{store_of}
use Rattle.vap_vm.proofs.PassFacts.{ready_next}
use Rattle.vap_vm.proofs.passes.Vm.begin_second.Goals as goal

pub invariant_of-self : goal.invariant_of-self
invariant_of-self c =
    let s = c.self.inside in
    let i = c.self.invariant in (
      ready_next (record { code = s.code; store = store_of s.machine; seconds = s.seconds }) _ i.0
          (omega (arith, c.requires, ap (λ v. v.seconds) c.self.view_is)) refl (λ k. record (store_of s.machine) { timers = c.count_on.ensures k }) refl,
      record {
        variables = i.1.variables;
        arrays = i.1.arrays;
        timers = i.1.timers ∙
            sym (ap length c.count_on.ensures ∙ length-map s.machine.slots.timers.items counted);
      },
      i.2,
    )

pub returns-clause-ready : goal.returns-clause-ready
returns-clause-ready c =
    let s = c.self.inside in
    let i = c.self.invariant in
    ready_next (record { code = s.code; store = store_of s.machine; seconds = s.seconds }) _ i.0
    (omega (arith, c.requires, ap (λ v. v.seconds) c.self.view_is)) refl (λ k. record (store_of s.machine) { timers = c.count_on.ensures k }) refl
