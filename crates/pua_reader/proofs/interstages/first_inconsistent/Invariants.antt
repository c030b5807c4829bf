use Rattle.std.proofs.Common.{◌≡◌, ℕ, ◌<◌, false, not, get_or, None}
use Rattle.pua_model.specs.Wish.{leads}
use Rattle.pua_reader.specs.Interstages.{greens_in}
use Rattle.pua_reader.proofs.interstages.first_inconsistent.Given as goal

abbrev pub invariant-loop-g : goal.invariant-loop-g
invariant-loop-g l = (j : ℕ) → j < l.g →
    not (leads (get_or l.interstage.rows j None) (greens_in l.stages l.interstage.from j) (greens_in l.stages l.interstage.to j) l.interstage.length) ≡ false
