-- What a table of labels tells.
use Rattle.std.specs.Option.{option_or}
use Rattle.std.specs.Prelude.{◌≡◌, ℕ, List, Option, Some, None, unwrap_or, if◌then◌else◌, codes}
use Rattle.std.specs.Map.{lookup}
use Rattle.std.specs.Str.{bytes_eq}
use Rattle.vap_compile.specs.declared.labels.Labels.{Labels}

-- labels with their places
abbrev pub Places : Type 0
Places = List (List ℕ × ℕ)

-- the place of a label among these
abbrev pub place_among : Places → List ℕ → Option ℕ
place_among places label = lookup (bytes_eq label) places

-- one label at a place
abbrev pub one_place : List ℕ → ℕ → List ℕ → Option ℕ
one_place name place label = if bytes_eq name label then Some place else None

-- places that were noted besides those that labels had before
abbrev pub Notes : Places → Places → (List ℕ → Option ℕ) → Type 0
Notes old new more =
    (label : List ℕ) → place_among new label ≡ option_or (place_among old label) (more label)

-- the place of a label by the table of a routine; `prog_ende` and a label that isn't there have that of the return
abbrev pub place_at : Labels → List ℕ → ℕ
place_at labels label =
    if bytes_eq label (codes "prog_ende") then labels.end
    else unwrap_or (place_among labels.places.entries label) labels.end
