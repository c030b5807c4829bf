use Rattle.std.proofs.Common.{Some, None, ap}
use Rattle.pua_model.proofs.Lists.{place_by_name}
use Rattle.pua_model.proofs.plan.Plan.find_name.Goals as goal

pub returns-in-Some-clause-found : goal.returns-in-Some-clause-found
returns-in-Some-clause-found c =
    place_by_name c.args.self.now c.self.inside.groups.items c.args.name.now (Some c.in-Some.place) (ap (λ p. p.names) c.self.view_is) (rw (← c.deref.ensures.value) c.in-Some.ensures)

pub returns-in-None-clause-found : goal.returns-in-None-clause-found
returns-in-None-clause-found c =
    place_by_name c.args.self.now c.self.inside.groups.items c.args.name.now None (ap (λ p. p.names) c.self.view_is) (rw (← c.deref.ensures.value) c.in-None.ensures)
