use Rattle.std.proofs.Common.{◌+◌, ◌*◌, ◌≤◌, ◌++◌, ℕ, List, Option, take}
use Rattle.std.specs.List.{flat_map}
use Rattle.sig_io.specs.Draft.{Puts}
use Rattle.signal_log.specs.Log.{rule_name}
use Rattle.signal_log.specs.Summary.{tally, rules, kept_refusals}
use Rattle.signal_log.proofs.summary.put_rules.Given as goal

abbrev pub invariant-loop-rule : goal.invariant-loop-rule
invariant-loop-rule g l = Puts g.O.Sink.taken g.O.Sink.faults l.fn.draft l.draft l.fn.sink l.sink (flat_map (λ rule. tally (rule_name rule) (kept_refusals l.fn.summary rule)) (take l.rule-index rules))
