use Rattle.std.proofs.Common.{◌<◌, length, arith}
use Rattle.std.proofs.lemmas.Result.{on_ok_weaker}
use Rattle.vap_check.specs.KeptNames.{declared_in}
use Rattle.vap_check.proofs.Spread.{noted_there}
use Rattle.vap_check.proofs.known.Known.declare.Goals as goal

pub returns-clause-noted : goal.returns-clause-noted
unfolding declared_in
returns-clause-noted c =
    let trees = c.args.self.now.trees.items in
    let within : c.tree_of.result < length trees = omega (arith, c.tree_of.ensures.1, c.args.self.now.all) in
    on_ok_weaker c.declare_in.result
    (noted_there trees c.tree_of.result c.index_mut.result.now c.declare_in.new.tree c.args.name.now c.args.what within c.index_mut.ensures.value
    c.tree_of.ensures.0)
    c.declare_in.ensures.noted
