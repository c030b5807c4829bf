use Rattle.std.proofs.Common.{◌≡◌}
use Rattle.sig_tables.specs.SiteRules.{rules_of}
use Rattle.sig_response.specs.Bounds.{group_within}
use Rattle.sig_response.specs.Worst.{IsFirstGreatest}
use Rattle.sig_response.proofs.worst.slowest_group.Given as goal

abbrev pub invariant-loop-g : goal.invariant-loop-g
invariant-loop-g l = record {
  most : l.most ≡ group_within (rules_of l.times l.intergreens) l.slowest;
  first : IsFirstGreatest (group_within (rules_of l.times l.intergreens)) l.g l.slowest;
}
