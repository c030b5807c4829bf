use Rattle.std.proofs.Common.{◌≡◌, ◌≤◌}
use Rattle.sig_tables.specs.SiteRules.{rules_of}
use Rattle.sig_response.specs.Bounds.{greatest, free_within}
use Rattle.sig_response.proofs.bound.all_free_within.Given as goal

abbrev pub invariant-loop-other : goal.invariant-loop-other
invariant-loop-other l = record {
  slowest : l.slowest ≡ greatest (free_within (rules_of l.times l.intergreens) l.g) l.other;
  at_most : l.slowest ≤ 363;
}
