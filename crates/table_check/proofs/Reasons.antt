-- The reason to refuse a record by the plan, from what is noted of the records before it.
use Rattle.std.proofs.Common.{◌≡◌, ◌∙◌, ℕ, ◌<◌, Bool, false, List, Some, None, Option, refl, sym, ap}
use Rattle.std.specs.Prelude.{is_some, is_none, not, IfSome}
use Rattle.std.specs.Option.{option_or}
use Rattle.sig_types.specs.FirstRefused.{when}
use Rattle.pua_model.specs.Plan.{PlanOf}
use Rattle.table_check.specs.declared.table.Table.{Table}
use Rattle.table_check.specs.declared.table.Table.TheVariants.{Times, Intergreens}
use Rattle.sig_tables.specs.declared.refusal.TableWhy.TheVariants as why
use Rattle.sig_tables.specs.Groups.{group_at}
use Rattle.sig_tables.specs.IntergreenTable.{has_pair, intergreen_form, intergreen_reason, is_self, pair_in, seconds_in}
use Rattle.sig_tables.specs.Records.{Row}
use Rattle.sig_tables.specs.TimesTable.{has_times, times_form, times_in, times_reason}
use Rattle.table_check.specs.Refused.{bare_reason, plan_reason}
use Rattle.table_check.specs.Seen.{HasSeen, IsInPlaces, Notes, is_seen, is_self_in, named_reason, pair_place, place_in, wanted}

none_is : {A : Type 0} (o : Option A) → is_none o ≡ not (is_some o)
none_is None = refl
none_is (Some x) = refl

or_none : {A : Type 0} (r : Option A) → option_or r None ≡ r
or_none None = refl
or_none (Some w) = refl

-- three reasons and then others, of which the first two stand together
regroup : {A : Type 0} (a b c t : Option A) →
    option_or (option_or a (option_or b (option_or c None))) t ≡ option_or (option_or a (option_or b None)) (option_or c t)
regroup None None None t = refl
regroup None None (Some w) t = refl
regroup None (Some w) c t = refl
regroup (Some w) b c t = refl

none_pair : (p : Option (ℕ × ℕ)) → is_none p ≡ not (is_some (pair_place p))
none_pair None = refl
none_pair (Some p) = refl

-- the record's group is noted where the records before it name it
seen_times : (plan : PlanOf) (rows : List Row) (seen : List Bool) (g : Option ℕ) → Notes plan Times rows seen → IfSome g (λ k. k < 64) →
    is_seen seen g ≡ has_times plan rows g
seen_times plan rows seen None notes inside = refl
seen_times plan rows seen (Some k) notes inside = notes k inside

seen_pair : (plan : PlanOf) (rows : List Row) (seen : List Bool) (p : Option (ℕ × ℕ)) → Notes plan Intergreens rows seen →
    IfSome p (λ q. (q.0 < 64) × (q.1 < 64)) → is_seen seen (pair_place p) ≡ has_pair plan rows p
seen_pair plan rows seen None notes inside = refl
seen_pair plan rows seen (Some p) notes inside = notes p.0 p.1 inside.0 inside.1

times_are : (plan : PlanOf) (fields : ℕ) (rows : List Row) (row : Row) →
    times_reason plan fields rows row ≡
    named_reason (bare_reason Times fields row) (is_some (group_at plan row 0)) (has_times plan rows (group_at plan row 0)) false
unfolding times_reason times_form bare_reason
times_are plan fields rows row =
    rw (none_is (times_in row), none_is (group_at plan row 0), or_none (when (has_times plan rows (group_at plan row 0)) why.Twice))
    (regroup _ _ _ (when (has_times plan rows (group_at plan row 0)) why.Twice))

pairs_are : (plan : PlanOf) (rows : List Row) (row : Row) →
    intergreen_reason plan rows row ≡
    named_reason (bare_reason Intergreens 3 row) (is_some (pair_place (pair_in plan row))) (has_pair plan rows (pair_in plan row)) (is_self (pair_in plan row))
unfolding intergreen_reason intergreen_form bare_reason
pairs_are plan rows row =
    rw (none_is (seconds_in row), none_pair (pair_in plan row))
    (regroup _ _ _ (option_or (when (has_pair plan rows (pair_in plan row)) why.Twice) (option_or (when (is_self (pair_in plan row)) why.SelfConflict) None)))

-- the reason by the plan is that of what is noted
pub reason_is : (plan : PlanOf) (table : Table) (fields : ℕ) (rows : List Row) (row : Row) (seen : List Bool) → HasSeen plan table rows seen →
    IsInPlaces plan table row →
    named_reason (bare_reason table (wanted table fields) row) (is_some (place_in plan table row)) (is_seen seen (place_in plan table row))
    (is_self_in plan table row) ≡ plan_reason plan table fields rows row
reason_is plan Times fields rows row seen has inside =
    ap (λ b. named_reason (bare_reason Times fields row) (is_some (group_at plan row 0)) b false)
    (seen_times plan rows seen (group_at plan row 0) has.notes inside)
    ∙ sym (times_are plan fields rows row)
reason_is plan Intergreens fields rows row seen has inside =
    ap (λ b. named_reason (bare_reason Intergreens 3 row) (is_some (pair_place (pair_in plan row))) b (is_self (pair_in plan row)))
    (seen_pair plan rows seen (pair_in plan row) has.notes inside)
    ∙ sym (pairs_are plan rows row)
