use Rattle.std.proofs.Common.{◌≡◌, ◌++◌}
use Rattle.sig_tables.specs.SiteRules.{rules_of}
use Rattle.log_judge.specs.Breaches.{listed, gather}
use Rattle.log_judge.specs.Found.{hidden_found}
use Rattle.log_judge.proofs.judge.Judge.find_hidden_of.Given as goal

abbrev pub invariant-loop-i : goal.invariant-loop-i
invariant-loop-i l = l.out.items ≡ l.fn.out.items ++ gather (λ i. listed (hidden_found (rules_of l.limits.times l.limits.pairs) l.self.terms l.self.seconds l.self.first l.self.picture l.self.pasts l.g i)) l.i
