-- Names of subroutines.
use Rattle.std.proofs.Common.{◌≡◌, ℕ, zero, suc, ◌<◌, ◌≤◌, List, [], ◌∷◌, length, map, refl, ap, arith, get_or}
use Rattle.std.specs.Prelude.{slice_index_or}
use Rattle.vap_ast.specs.Tree.{routine_of}
use Rattle.vap_ast.specs.declared.tree.Routine.{Routine}

-- the name of a subroutine that is there
pub sub_at : (subs : List Routine) (r : ℕ) (it : Routine) → r < length subs → it ≡ get_or subs r it →
    it.name ≡ slice_index_or (map (λ r. r.name) (map routine_of subs)) r []
sub_at [] r it below is = absurd (omega arith)
sub_at (x ∷ xs) zero it below is = ap (λ r. r.name) is
sub_at (x ∷ xs) (suc r) it below is = sub_at xs r it (omega arith) is

-- there is none past the last
pub no_sub_at : (subs : List Routine) (r : ℕ) → length subs ≤ r → slice_index_or (map (λ r. r.name) (map routine_of subs)) r [] ≡ []
no_sub_at [] r past = refl
no_sub_at (x ∷ xs) zero past = absurd (omega arith)
no_sub_at (x ∷ xs) (suc r) past = no_sub_at xs r (omega arith)

-- the names of subroutines
pub ruleset names = (sub_at, no_sub_at)
