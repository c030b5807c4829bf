-- Which groups, or pairs of groups, the records name that were read.
use Rattle.std.specs.Prelude.{◌≡◌, ℕ, ◌+◌, ◌*◌, ◌<◌, Bool, true, false, not, List, [], ◌∷◌, length, slice_index_or, slice_set}
use Rattle.std.specs.Prelude.{Option, Some, None, IfSome, is_some}
use Rattle.std.specs.Option.{option_or}
use Rattle.sig_types.specs.FirstRefused.{first_reason, when}
use Rattle.pua_model.specs.Plan.{PlanOf}
use Rattle.table_check.specs.declared.table.Table.{Table}
use Rattle.table_check.specs.declared.table.Table.TheVariants.{Times, Intergreens}
use Rattle.sig_tables.specs.declared.refusal.TableWhy.{TableWhy}
use Rattle.sig_tables.specs.declared.refusal.TableWhy.TheVariants as why
use Rattle.sig_tables.specs.Groups.{group_at}
use Rattle.sig_tables.specs.IntergreenTable.{is_self, listed_seconds, pair_in}
use Rattle.sig_tables.specs.Records.{Row}
use Rattle.sig_tables.specs.TimesTable.{listed_times}

-- a place that is there is noted
abbrev pub is_seen : List Bool → Option ℕ → Bool
is_seen seen None = false
is_seen seen (Some k) = slice_index_or seen k false

-- a place that is there is noted now
abbrev pub noted : List Bool → Option ℕ → List Bool
noted seen None = seen
noted seen (Some k) = slice_set seen k true

-- the place of a pair of groups
abbrev pub pair_place : Option (ℕ × ℕ) → Option ℕ
pair_place None = None
pair_place (Some p) = Some (64 * p.0 + p.1)

-- the place of the group, or of the pair, that a record names
abbrev pub place_in : PlanOf → Table → Row → Option ℕ
place_in plan Times row = group_at plan row 0
place_in plan Intergreens row = pair_place (pair_in plan row)

-- what a record names is one of 64 groups, or two of them
abbrev pub IsInPlaces : PlanOf → Table → Row → Type 0
IsInPlaces plan Times row = IfSome (group_at plan row 0) (λ g. g < 64)
IsInPlaces plan Intergreens row = IfSome (pair_in plan row) (λ p. (p.0 < 64) × (p.1 < 64))

-- a record names a group with itself
abbrev pub is_self_in : PlanOf → Table → Row → Bool
is_self_in plan Times row = false
is_self_in plan Intergreens row = is_self (pair_in plan row)

-- the fields that a record has to have, where the header has so many
abbrev pub wanted : Table → ℕ → ℕ
wanted Times fields = fields
wanted Intergreens fields = 3

-- a reason that is there, or else that a record names no group, one that was named, or one with itself
abbrev pub named_reason : Option TableWhy → Bool → Bool → Bool → Option TableWhy
named_reason bare named again itself =
    option_or bare (first_reason (when (not named) why.UnknownName ∷ when again why.Twice ∷ when itself why.SelfConflict ∷ []))

-- the groups, or the pairs, that these records of a table name are noted, and no others
abbrev pub Notes : PlanOf → Table → List Row → List Bool → Type 0
Notes plan Times rows seen = (g : ℕ) → g < 64 → slice_index_or seen g false ≡ is_some (listed_times plan rows g)
Notes plan Intergreens rows seen =
    (i g : ℕ) → i < 64 → g < 64 → slice_index_or seen (64 * i + g) false ≡ is_some (listed_seconds plan rows i g)

-- so it is, with a place for each pair
pub record HasSeen (plan : PlanOf) (table : Table) (rows : List Row) (seen : List Bool) : Type 0 where
  pub size : length seen ≡ 4096
  pub notes : Notes plan table rows seen

-- the same where there may be no plan
abbrev pub HasSeenBy : Option PlanOf → Table → List Row → List Bool → Type 0
HasSeenBy None table rows seen = length seen ≡ 4096
HasSeenBy (Some plan) table rows seen = HasSeen plan table rows seen
