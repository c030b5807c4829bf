use Rattle.std.proofs.Common.{◌≡◌, ◌++◌, drop, map}
use Rattle.std.specs.Str.{bytes_eq}
use Rattle.program_check.specs.Firsts.{firsts, firsts_beyond}
use Rattle.program_check.specs.Lacks.{lacking_use}
use Rattle.program_check.proofs.lacks.warn_of_uses.Given as goal

abbrev pub invariant-loop-site : goal.invariant-loop-site
invariant-loop-site l =
    l.warned.items ++ map (lacking_use l.lack) (firsts_beyond bytes_eq (λ r. r.name) l.seen.keys (drop l.site-index l.sites)) ≡
    l.fn.warned.items ++ map (lacking_use l.lack) (firsts bytes_eq (λ r. r.name) l.sites)
