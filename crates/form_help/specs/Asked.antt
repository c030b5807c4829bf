-- Which form's help is asked for.
use Rattle.std.specs.Prelude.{ℕ, List, [], ◌∷◌, codes, Option, None, Some, if◌then◌else◌}
use Rattle.std.specs.Str.{bytes_eq}

-- the name of the form in the words FORM --help
abbrev pub help_asked : List (List ℕ) → Option (List ℕ)
help_asked (form ∷ word ∷ []) = if bytes_eq word (codes "--help") then Some form else None
help_asked words = None
