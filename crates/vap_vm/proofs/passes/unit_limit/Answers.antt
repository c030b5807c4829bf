use Rattle.std.proofs.Common.{refl}
use Rattle.sig_types.specs.Pass.{unit_limit}
use Rattle.vap_vm.proofs.passes.unit_limit.Goals as goal

pub returns : goal.returns
unfolding unit_limit
returns c = record { same = refl; number = refl }
