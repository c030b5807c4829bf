-- Rows of stages, and of the starting stage.
use Rattle.std.specs.Prelude.{ℕ, ◌+◌, ◌-◌, ◌==◌, Bool, false, not, ◌&&◌, ◌||◌, List, [], ◌∷◌, ◌++◌, length, map, Option, Some, None, if◌then◌else◌, nat_le, codes, is_some, is_none, slice_index_or}
use Rattle.std.specs.List.{list_any, list_all, position}
use Rattle.sig_types.specs.FirstRefused.{first_reason, when}
use Rattle.sig_types.specs.Text.{same_name, number_of, is_name}
use Rattle.sig_types.specs.declared.numbers.StageNo.{StageNo}
use Rattle.pua_model.specs.declared.parts.Group.{Group}
use Rattle.pua_model.specs.declared.parts.Stage.{Stage}
use Rattle.pua_reader.specs.declared.refusal.PuaWhy.{PuaWhy}
use Rattle.pua_reader.specs.declared.refusal.PuaWhy.TheVariants as why
use Rattle.pua_reader.specs.Words.{Text}
use Rattle.pua_model.specs.Plan.{stands_in, are_apart}
use Rattle.pua_reader.specs.Groups.{has_name, place_of}

-- one of the stages has this name, in any case
abbrev pub has_stage_name : List Stage → Text → Bool
has_stage_name stages w = list_any (λ s. same_name s.name w) stages

-- why a row `NAME GROUP GROUP ..` is refused after these groups and stages
unfoldable pub stage_reasons : List Group → List Stage → Text → List Text → Option PuaWhy
stage_reasons groups stages name named = first_reason (
    when (not (is_name name && list_all is_name named)) why.Row
    ∷ when (has_stage_name stages name || not (are_apart named)) why.NameTwice
    ∷ when (not (list_all (has_name groups) named)) why.UnknownName
    ∷ when (nat_le 32 (length stages)) why.Limit
    ∷ [])

-- the groups that are named are green in the stage
unfoldable pub greens_of : List Group → List Text → List Bool
greens_of groups named = map (λ g. stands_in g.name named) groups

-- the greens of the last stage
abbrev pub last_greens : List Stage → List Bool
last_greens stages = (slice_index_or stages (length stages - 1) (record { name = []; greens = [] })).greens

-- the group at the place is green, where there is such a group
abbrev pub green_at : List Bool → Option ℕ → Bool
green_at greens None = false
green_at greens (Some p) = slice_index_or greens p false

-- a group of this name is green there
abbrev pub is_green_in : List Group → List Bool → Text → Bool
is_green_in groups greens w = green_at greens (place_of groups w)

-- why a row `red GROUP GROUP ..` is refused; it stands right after a stage row and names groups that are red in that stage
unfoldable pub red_reasons : List Group → List Stage → Bool → List Text → Option PuaWhy
red_reasons groups stages after_stage named = first_reason (
    when (not after_stage || (length named == 0) || not (list_all is_name named)
    || list_any (is_green_in groups (last_greens stages)) named) why.Row
    ∷ when (not (are_apart named)) why.NameTwice
    ∷ when (not (list_all (has_name groups) named)) why.UnknownName
    ∷ [])

-- the word is `red`, in any case
abbrev pub is_red_word : Text → Bool
is_red_word w = same_name w (codes "red")

-- why a row is refused in the section of stages
abbrev pub stage_row_why : List Group → List Stage → Bool → List Text → Option PuaWhy
stage_row_why groups stages after_stage [] = Some why.Row
stage_row_why groups stages after_stage (w ∷ ws) =
    if is_red_word w then red_reasons groups stages after_stage ws else stage_reasons groups stages w ws

-- the stages with that of a row; a `red` row gives none
abbrev pub stages_with : List Group → List Stage → List Text → List Stage
stages_with groups stages [] = stages
stages_with groups stages (w ∷ ws) =
    if is_red_word w then stages else stages ++ record { name = w; greens = greens_of groups ws } ∷ []

-- the row is a stage's and no `red` row
abbrev pub is_stage_row : List Text → Bool
is_stage_row [] = false
is_stage_row (w ∷ ws) = not (is_red_word w)

-- a stage's name or number
abbrev pub is_stage_word : Text → Bool
is_stage_word w = is_name w || is_some (number_of w)

-- the stage with the number n, where there are so many
abbrev pub stage_numbered : List Stage → ℕ → Option StageNo
stage_numbered stages n = if nat_le 1 n && nat_le n (length stages) then Some (record { 0 = n }) else None

-- the stage at a place, which counts from 0
abbrev pub stage_placed : Option ℕ → Option StageNo
stage_placed None = None
stage_placed (Some p) = Some (record { 0 = p + 1 })

-- the stage that a word names by the number that it is, or else by its name
abbrev pub stage_by : List Stage → Text → Option ℕ → Option StageNo
stage_by stages w (Some n) = stage_numbered stages n
stage_by stages w None = stage_placed (position (λ s. same_name s.name w) stages)

-- the stage that a word names
unfoldable pub stage_of : List Stage → Text → Option StageNo
stage_of stages w = stage_by stages w (number_of w)

-- why a row of the starting stage with this word is refused, after the start given before
unfoldable pub start_reasons : List Stage → Option StageNo → Text → Option PuaWhy
start_reasons stages start w = first_reason (
    when (is_some start || not (is_stage_word w)) why.Row
    ∷ when (is_none (stage_of stages w)) why.UnknownName
    ∷ [])

-- why a row is refused in the section of the starting stage
abbrev pub start_why : List Stage → Option StageNo → List Text → Option PuaWhy
start_why stages start [] = Some why.Row
start_why stages start (w ∷ []) = start_reasons stages start w
start_why stages start (w ∷ v ∷ more) = Some why.Row

-- the starting stage that a row gives
abbrev pub start_with : List Stage → List Text → Option StageNo
start_with stages [] = None
start_with stages (w ∷ ws) = stage_of stages w
