use Rattle.std.proofs.Common.{◌+◌, get_or, set, ap, ◌∙◌, arith}
use Rattle.sig_types.specs.Pass.{counted}
use Rattle.vap_vm.proofs.Sizes.{map_more}
use Rattle.vap_vm.proofs.slots.count_on.Goals as goal

pub loop-t-preserved : goal.loop-t-preserved
loop-t-preserved c =
    let now = c.index.result.now in
    ap (λ v. set c.loop-t.timers.items c.loop-t.t v) (c.counted_on.ensures ∙ ap counted c.index.ensures)
    ∙ ap (λ xs. set xs c.loop-t.t (counted (get_or xs c.loop-t.t now))) c.loop-t.invariant
    ∙ map_more counted c.args.timers.now.items c.loop-t.t (c.loop-t.t + 1) now (omega (arith, c.loop-t-test.true)) (omega arith)
