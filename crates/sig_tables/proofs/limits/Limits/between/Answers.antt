use Rattle.std.proofs.Common.{◌≡◌, ◌≤◌, ◌<◌, ℕ, ap, arith}
use Rattle.sig_tables.specs.Limits.{Numbers}
use Rattle.sig_tables.proofs.limits.Limits.between.Goals as goal

pub place_of-requires-clause-from : goal.place_of-requires-clause-from
place_of-requires-clause-from c =
    let count = ap (λ (n : Numbers). n.pairs.count) c.self.view_is in
    omega (arith, count, c.requires.from, c.self.invariant.at_most)

pub place_of-requires-clause-to : goal.place_of-requires-clause-to
place_of-requires-clause-to c =
    let count = ap (λ (n : Numbers). n.pairs.count) c.self.view_is in
    omega (arith, count, c.requires.to, c.self.invariant.at_most)
