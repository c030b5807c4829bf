-- The words of a run of several junctions.
use Rattle.std.specs.Prelude.{ℕ, List, [], ◌∷◌, codes, Bool, false, Option, None, Some, if◌then◌else◌}
use Rattle.junction_run.specs.Form.{is_word}

-- net LIST
abbrev pub net_form : List (List ℕ) → Option (List ℕ)
net_form (command ∷ list ∷ []) = if is_word command (codes "net") then Some list else None
net_form _ = None

-- whether the first word asks for several junctions
abbrev pub begins_net : List (List ℕ) → Bool
begins_net [] = false
begins_net (command ∷ words) = is_word command (codes "net")
