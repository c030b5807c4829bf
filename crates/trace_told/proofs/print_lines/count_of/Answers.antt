use Rattle.std.proofs.Common.{ap, sym}
use Rattle.sig_types.specs.declared.numbers.Clock.{Clock}
use Rattle.vap_code.specs.Stores.{stopped}
use Rattle.trace_told.proofs.Gaps.{none_there}
use Rattle.trace_told.proofs.print_lines.count_of.Goals as goal

pub returns-in-None : goal.returns-in-None
returns-in-None c =
    ap (λ (t : Clock). t.count) (sym (none_there c.args.sight.now.state.store.timers c.args.timer stopped c.in-None.ensures))
