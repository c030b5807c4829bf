-- Which starts of groups a log tells as lost: they were asked for and refused, and then nobody asked any more, while the group was
-- still off. Records stand latest first here.
use Rattle.std.specs.Prelude.{◌≡◌, ℕ, zero, suc, ◌<◌, ◌==◌, ◌&&◌, Bool, true, false, nat_le, is_none, List, [], ◌∷◌, ◌++◌, slice_index_or, Option, Some, None, if◌then◌else◌}
use Rattle.std.specs.Option.{option_or}
use Rattle.sig_types.specs.declared.aspect.Aspect.{Aspect}
use Rattle.sig_types.specs.declared.aspect.Aspect.TheVariants.{Red, RedAmber, Green, Amber}
use Rattle.sig_types.specs.declared.record.Record.{Record}
use Rattle.sig_types.specs.declared.refused.TurnRefusal.{TurnRefusal}
use Rattle.log_sums.specs.Told.{shown_by}
use Rattle.report_seen.specs.declared.lost.Asking.{Asking}
use Rattle.report_seen.specs.declared.lost.LostStart.{LostStart}

-- red and amber: a turn of a group that shows them is a start
abbrev pub is_off : Aspect → Bool
is_off Red = true
is_off RedAmber = false
is_off Green = false
is_off Amber = true

-- the last refused turn of a group
abbrev pub last_of : ℕ → List TurnRefusal → Option TurnRefusal
last_of g [] = None
last_of g (turn ∷ turns) = option_or (last_of g turns) (if turn.group.0 == g then Some turn else None)

-- what refused a start of a group in a second
abbrev pub refused_start : ℕ → Record → Option TurnRefusal
refused_start g r = if is_off (shown_by g r) then last_of g r.turns else None

-- what is asked for after a second, by what was before it: since when, and what refused it last
abbrev pub asked_after : ℕ → Option TurnRefusal → Option Asking → Option Asking
asked_after second None before = None
asked_after second (Some refused) None = Some (record { since = second; refused = refused })
asked_after second (Some refused) (Some before) = Some (record { since = before.since; refused = refused })

-- the start of a group that is asked for behind these records: it was refused in the last of them, and in each one before it since then
abbrev pub asked_for : ℕ → List Record → Option Asking
asked_for g [] = None
asked_for g (r ∷ earlier) = asked_after r.second.0 (refused_start g r) (asked_for g earlier)

-- a group is off in a second, and no start of it is refused there
abbrev pub is_let_be : ℕ → Record → Bool
is_let_be g r = is_off (shown_by g r) && is_none (refused_start g r)

-- the start of a group that is lost in a second: it was asked for up to the second before
abbrev pub lost_by : ℕ → Record → Option Asking → List LostStart
lost_by g r None = []
lost_by g r (Some before) =
    if is_let_be g r
    then record { group = record { 0 = g }; asked = before.since; lost = r.second.0; rule = before.refused.rule; other = before.refused.other } ∷ []
    else []

-- the starts of the first n groups that are lost in a second
abbrev pub lost_below : ℕ → Record → List Record → List LostStart
lost_below zero r earlier = []
lost_below (suc g) r earlier = lost_below g r earlier ++ lost_by g r (asked_for g earlier)

-- whether a second is one of those from `from` to `to`
abbrev pub counts : ℕ → ℕ → ℕ → Bool
counts from to second = nat_le from second && nat_le second to

-- the starts of so many groups that are lost in these seconds, by second and then by group
abbrev pub lost_starts : ℕ → ℕ → ℕ → List Record → List LostStart
lost_starts groups from to [] = []
lost_starts groups from to (r ∷ earlier) =
    lost_starts groups from to earlier ++ (if counts from to r.second.0 then lost_below groups r earlier else [])

-- what is kept of each group is what is asked for behind these records
abbrev pub AreAsked : ℕ → List Record → List (Option Asking) → Type 0
AreAsked groups earlier asked = (g : ℕ) → g < groups → slice_index_or asked g None ≡ asked_for g earlier
