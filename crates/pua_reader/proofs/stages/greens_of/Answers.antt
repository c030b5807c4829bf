use Rattle.std.proofs.Common.{ℕ, List, map, rules, Bor}
use Rattle.pua_reader.proofs.Named.{greens_are}
use Rattle.pua_reader.proofs.stages.greens_of.Goals as goal

pub returns : goal.returns
returns c =
    greens_are c.args.groups.now (map (λ (w : Bor (List ℕ)). w.now) c.args.named.now) c.loop-g.greens c.loop-g.invariant.size
    (λ j lt. c.loop-g.invariant.each j (search rules))
