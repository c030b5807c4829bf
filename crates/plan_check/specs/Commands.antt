-- Which stages the commands of a program leave and reach, where each of them names two stages by their numbers.
use Rattle.std.specs.Prelude.{ℕ, ℤ, pos, Bool, List}
use Rattle.std.specs.List.{list_any}
use Rattle.std.specs.Ordering.{int_eq}

-- whether a command leads from stage s
abbrev pub leads_from : List (ℤ × ℤ) → ℕ → Bool
leads_from ways s = list_any (λ w. int_eq w.0 (pos s)) ways

-- whether a command leads to stage s
abbrev pub leads_to : List (ℤ × ℤ) → ℕ → Bool
leads_to ways s = list_any (λ w. int_eq w.1 (pos s)) ways
