use Rattle.std.proofs.Common.{◌≡◌, drop, map}
use Rattle.std.specs.List.{list_any}
use Rattle.sig_types.specs.Text.{same_name}
use Rattle.program_check.proofs.misuses.has_name.Given as goal

abbrev pub invariant-loop-stage : goal.invariant-loop-stage
invariant-loop-stage l =
    list_any (λ s. same_name s l.name) (map (λ v. v.items) (drop l.stage-index l.stages))
    ≡ list_any (λ s. same_name s l.name) (map (λ v. v.items) l.stages)
