use Rattle.std.specs.Prelude.{nat_lt}
use Rattle.pua_model.specs.declared.parts.Group.{Group}
use Rattle.pua_reader.proofs.Named.{place_found, place_missed}
use Rattle.pua_reader.proofs.groups.place_for.Goals as goal

pub returns-in-Some-clause-place : goal.returns-in-Some-clause-place
returns-in-Some-clause-place c = place_found (λ (g : Group). nat_lt c.args.number g.number) c.args.groups.now c.in-Some.place c.in-Some.ensures

pub returns-in-None-clause-place : goal.returns-in-None-clause-place
returns-in-None-clause-place c = place_missed (λ (g : Group). nat_lt c.args.number g.number) c.args.groups.now c.in-None.ensures
