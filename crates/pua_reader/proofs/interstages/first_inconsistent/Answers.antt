use Rattle.std.proofs.Common.{◌≡◌, true, not, get_or, None, sym, ap, rules}
use Rattle.std.proofs.Common.{below_more}
use Rattle.pua_model.specs.Wish.{leads}
use Rattle.pua_reader.specs.Interstages.{greens_in}
use Rattle.sig_types.proofs.LastBelow.{least_below-at, least_below-never}
use Rattle.pua_reader.proofs.interstages.first_inconsistent.Goals as goal

pub returns-then-not-leads_group-clause-found : goal.returns-then-not-leads_group-clause-found
returns-then-not-leads_group-clause-found c =
    sym (least_below-at _ c.args.groups c.loop-g.g (search rules) (search rules) c.loop-g.invariant)

pub returns-clause-found : goal.returns-clause-found
returns-clause-found c = sym (least_below-never _ c.args.groups (λ j lt. c.loop-g.invariant j (search rules)))

pub loop-g-preserved : goal.loop-g-preserved
loop-g-preserved c =
    let led : leads (get_or c.args.interstage.now.rows c.loop-g.g None) (greens_in c.args.stages.now c.args.interstage.now.from c.loop-g.g)
    (greens_in c.args.stages.now c.args.interstage.now.to c.loop-g.g) c.args.interstage.now.length ≡ true = search rules in
    below_more _ _ c.loop-g.invariant (ap not led)
