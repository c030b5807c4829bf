use Rattle.std.proofs.Common.{◌∙◌, ◌-◌, ap, length, arith}
use Rattle.std.proofs.lemmas.List.{length-replicate}
use Rattle.sig_types.specs.RuleNumbers.{rule_number, fault_number}
use Rattle.signal_log.specs.Summary.{StandsFor, greens, refusals_by, faulted}
use Rattle.signal_log.proofs.Summed.{zero_at}
use Rattle.signal_log.proofs.summary.Summary.new.Goals as goal

pub returns : goal.returns
unfolding StandsFor greens refusals_by faulted
returns c = record {
  groups_are = ap length c.all_red.ensures ∙ length-replicate c.args.groups _;
  last_is = c.all_red.ensures;
  greens_are = λ g lt. zero_at 64 g;
  refused_are = λ rule. zero_at 8 (rule_number rule - 1);
  faults_are = λ kind. zero_at 5 (fault_number kind - 1);
  refused_fit = λ rule. omega arith;
}
