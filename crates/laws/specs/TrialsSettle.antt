-- When the from-stage of an interstage settles in its trial.
use Rattle.std.specs.Prelude.{◌≡◌, ◌↔◌, ℕ, ◌≤◌, true, List, length}
use Rattle.pua_model.specs.Plan.{PlanOf, groups_in, interstage_at}
use Rattle.sig_tables.specs.declared.times.TimesRow.{TimesRow}
use Rattle.sig_tables.specs.Pairs.{Pairs, ArePairs}
use Rattle.sig_tables.specs.SiteRules.{rules_of}
use Rattle.sig_tables.specs.TimesTable.{AreTimes}
use Rattle.sig_audit.specs.Trial.{stage_wishes, is_settled}
use Rattle.sig_response.specs.Bounds.{shown_within}
use Rattle.sig_response.specs.Laws.{AreApart}

-- no site needs more than 363 seconds
abbrev pub BoundOfTables : Type 0
BoundOfTables =
    (times : List TimesRow) (pairs : Pairs) → AreTimes times → ArePairs pairs → shown_within (rules_of times pairs) ≤ 363

-- so the 600 seconds of a trial are enough: the from-stage settles exactly where no two groups that are green in it conflict
abbrev pub SettlesExactly : Type 0
SettlesExactly =
    (plan : PlanOf) (times : List TimesRow) (pairs : Pairs) (interstage : ℕ) →
    AreTimes times → ArePairs pairs → length times ≡ groups_in plan →
    (is_settled plan (rules_of times pairs) interstage ≡ true)
    ↔ AreApart (rules_of times pairs) (stage_wishes plan (interstage_at plan interstage).from)
