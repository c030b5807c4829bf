use Rattle.std.proofs.Common.{◌≡◌}
use Rattle.sig_tables.specs.SiteRules.{rules_of}
use Rattle.sig_response.specs.Bounds.{free_within}
use Rattle.sig_response.specs.Worst.{IsFirstGreatest}
use Rattle.sig_response.proofs.worst.slowest_other.Given as goal

abbrev pub invariant-loop-other : goal.invariant-loop-other
invariant-loop-other l = record {
  most : l.most ≡ free_within (rules_of l.times l.intergreens) l.g l.slowest;
  first : IsFirstGreatest (free_within (rules_of l.times l.intergreens) l.g) l.other l.slowest;
}
