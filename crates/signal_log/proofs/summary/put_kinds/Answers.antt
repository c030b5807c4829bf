use Rattle.std.proofs.Common.{◌≡◌, ◌∙◌, ◌++◌, get_or, [], ap, arith, take}
use Rattle.std.specs.List.{flat_map}
use Rattle.sig_io.proofs.Drafts.{same_put, then}
use Rattle.sig_types.specs.declared.kinds.FaultKind.{FaultKind}
use Rattle.sig_types.specs.declared.kinds.FaultKind.TheVariants.{Budget}
use Rattle.signal_log.specs.Log.{fault_name}
use Rattle.signal_log.specs.Summary.{tally, kinds, kept_faults}
use Rattle.signal_log.proofs.Tallies.{items_more}
use Rattle.signal_log.proofs.summary.put_kinds.Goals as goal

pub loop-kind-preserved : goal.loop-kind-preserved
loop-kind-preserved g c =
    let at = c.loop-kind.kind-index in
    let tallied = λ (kind : FaultKind). tally (fault_name kind) (kept_faults c.args.summary.now kind) in
    let here : tally c.fault_name.result.now c.from-count.result ≡ tallied (get_or kinds at Budget) =
    λ j. tally (c.fault_name.ensures.text j) ((c.from-count.ensures ∙ c.faults_of.ensures) j) in
    same_put (ap (λ t. flat_map tallied (take at kinds) ++ t) here ∙ items_more tallied at kinds Budget [] (omega arith)) (then c.loop-kind.invariant c.put_tally.ensures)
