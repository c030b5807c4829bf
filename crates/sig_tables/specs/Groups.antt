-- The groups of a plan that a record names.
use Rattle.std.specs.Prelude.{ℕ, ◌==◌, Bool, false, Option, Some, None}
use Rattle.pua_model.specs.Plan.{PlanOf, group_named}
use Rattle.sig_tables.specs.Records.{Row, field}

-- the group that the field at a place names
abbrev pub group_at : PlanOf → Row → ℕ → Option ℕ
group_at plan row k = group_named plan (field row k)

-- a group that is named is the one at place g
abbrev pub is_group : Option ℕ → ℕ → Bool
is_group None g = false
is_group (Some k) g = k == g
