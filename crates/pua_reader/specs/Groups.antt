-- Rows of signal groups.
use Rattle.std.specs.Prelude.{ℕ, ◌≡◌, ◌+◌, ◌==◌, Bool, true, not, ◌&&◌, ◌||◌, List, [], ◌∷◌, length, Option, Some, None, if◌then◌else◌, nat_lt, nat_le}
use Rattle.std.specs.List.{list_any, position}
use Rattle.sig_types.specs.FirstRefused.{first_reason, when}
use Rattle.sig_types.specs.Text.{same_name, number_of, is_name, within}
use Rattle.pua_model.specs.declared.parts.Group.{Group}
use Rattle.pua_reader.specs.declared.refusal.PuaWhy.{PuaWhy}
use Rattle.pua_reader.specs.declared.refusal.PuaWhy.TheVariants as why
use Rattle.pua_reader.specs.Words.{Text}

-- the group of a name and a number, where the number is one
abbrev pub numbered : Text → Option ℕ → Option Group
numbered name None = None
numbered name (Some n) = Some (record { name = name; number = n })

-- the group of a row `NAME` or `NAME NUMBER`; left out, the number is the row's place, from 1
abbrev pub group_row : ℕ → List Text → Option Group
group_row place [] = None
group_row place (name ∷ []) = if is_name name then Some (record { name = name; number = place }) else None
group_row place (name ∷ number ∷ []) = if is_name name then numbered name (number_of number) else None
group_row place (a ∷ b ∷ c ∷ more) = None

-- the row has this name, and this number where it is 1 to 255
abbrev pub HasParts : ℕ → List Text → Text → Option ℕ → Type 0
HasParts place ws name number = (n : ℕ) × (group_row place ws ≡ Some (record { name = name; number = n }))
    × (number ≡ within 1 255 (Some n)) × (is_name name ≡ true)

-- one of the groups has this name, in any case
abbrev pub has_name : List Group → Text → Bool
has_name groups w = list_any (λ g. same_name g.name w) groups

-- one of the groups has this number
abbrev pub has_number : List Group → ℕ → Bool
has_number groups n = list_any (λ g. g.number == n) groups

-- why a row with this group, or with none, is refused after these groups
unfoldable pub group_reasons : List Group → Option Group → Option PuaWhy
group_reasons groups None = Some why.Row
group_reasons groups (Some g) = first_reason (
    when (has_name groups g.name || has_number groups g.number) why.NameTwice
    ∷ when (not (nat_le 1 g.number && nat_le g.number 255)) why.Range
    ∷ when (nat_le 64 (length groups)) why.Limit
    ∷ [])

-- why a row is refused after these groups
abbrev pub group_why : List Group → List Text → Option PuaWhy
group_why groups ws = group_reasons groups (group_row (length groups + 1) ws)

-- a group is put where its number belongs
abbrev pub put : Group → List Group → List Group
put g [] = g ∷ []
put g (h ∷ hs) = if nat_lt g.number h.number then g ∷ h ∷ hs else h ∷ put g hs

-- the group of a row, where it has one, is put where its number belongs
abbrev pub put_row : Option Group → List Group → List Group
put_row None groups = groups
put_row (Some g) groups = put g groups

-- the groups with that of a row
abbrev pub groups_with : List Group → List Text → List Group
groups_with groups ws = put_row (group_row (length groups + 1) ws) groups

-- the place of the group with this name
abbrev pub place_of : List Group → Text → Option ℕ
place_of groups w = position (λ g. same_name g.name w) groups
