-- The first store of a program fits it.
use Rattle.std.proofs.Common.{◌≡◌, ℕ, List, [], ◌∷◌, length, map, refl, ap}
use Rattle.std.specs.Prelude.{pos, false}
use Rattle.std.proofs.lemmas.List.{length-replicate}
use Rattle.vap_ast.specs.Syntax.{Array}
use Rattle.vap_ast.specs.Passes.{FitsProgram, first_store}

lengths_kept : (declared : List Array) → map length (map (λ a. a.values) declared) ≡ map (λ a. length a.values) declared
lengths_kept [] = refl
lengths_kept (a ∷ others) = ap (λ ns. length a.values ∷ ns) (lengths_kept others)

pub first_fits : (variable_count timer_count : ℕ) (declared : List Array) → FitsProgram variable_count timer_count declared (first_store variable_count timer_count declared)
first_fits v t declared =
    record {
      variables = length-replicate v (pos 0);
      timers = length-replicate t record { count = 0; runs = false };
      arrays = lengths_kept declared;
      no_commands = refl;
    }
