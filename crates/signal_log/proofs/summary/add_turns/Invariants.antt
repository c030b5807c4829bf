use Rattle.std.proofs.Common.{◌≡◌, ◌+◌, ◌-◌, count_by, slice_index, take}
use Rattle.sig_types.specs.declared.aspect.Rule.{Rule}
use Rattle.sig_types.specs.RuleNumbers.{rule_number}
use Rattle.signal_log.specs.Summary.{is_rule}
use Rattle.signal_log.proofs.summary.add_turns.Given as goal

abbrev pub invariant-loop-i : goal.invariant-loop-i
invariant-loop-i l =
    (rule : Rule) → slice_index l.refused (rule_number rule - 1)
    ≡ slice_index l.fn.refused (rule_number rule - 1) + count_by (λ t. is_rule rule t.rule) (take l.i l.turns)
