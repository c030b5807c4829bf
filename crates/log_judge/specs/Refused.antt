-- What a log tells of why a turn was refused, and when the rule no longer refuses it.
use Rattle.std.specs.Prelude.{◌≡◌, ℕ, zero, suc, ◌+◌, ◌<◌, ◌≤◌, Bool, true, ◌&&◌, List, [], ◌∷◌, ◌++◌, length, slice_index_or, Some, IsSomeAnd, All, if◌then◌else◌, nat_lt, nat_le, not, ◌||◌}
use Rattle.sig_types.specs.declared.aspect.Aspect.{Aspect}
use Rattle.sig_types.specs.declared.aspect.Aspect.TheVariants.{Red, RedAmber, Green, Amber}
use Rattle.sig_types.specs.declared.refused.TurnRefusal.{TurnRefusal}
use Rattle.sig_types.specs.Turns.{Picture, History, shown, trace, is_green, is_red, is_on, starts_at, turns_green_at, turns_red_at, ends_at}
use Rattle.sig_types.specs.Words.{last_below, tabulate}
use Rattle.sig_types.specs.Rules.{Rules}
use Rattle.pua_model.specs.Plan.{group_number}
use Rattle.sig_guard.specs.Safety.{IsHistory}
use Rattle.sig_guard.specs.Step.{last, end_breach, start_breach, natural_picture, guard_picture, guard_refused, is_green_short, is_red_short, is_uncleared}

-- The picture against which the start of group g was decided in the second that shows p: starts are decided group by group, so a
-- higher group that starts in p still shows red there.
abbrev pub so_far : Rules → History → Picture → ℕ → Picture
so_far r h p g =
    tabulate (λ i. if nat_le g i && (is_red (trace h i (last h)) && is_on (shown p i)) then trace h i (last h) else shown p i) r.count

-- a group that showed the one and shows the other neither started nor ended
abbrev pub no_turn : Aspect → Aspect → Bool
no_turn was is = (is_on was && is_on is) || (not (is_on was) && not (is_on is))

-- Pictures and tables bear out a turn that was refused in the second that shows p: its group did not turn, and the first rule that
-- the turn breaks is the one named, with the other group. It is an end where p shows its group as red-amber or green, and else a start.
abbrev pub IsBorneOut : Rules → History → Picture → TurnRefusal → Type 0
IsBorneOut r h p turn = (no_turn (trace h turn.group.0 (last h)) (shown p turn.group.0) ≡ true)
    × IsSomeAnd
    (if is_on (shown p turn.group.0) then end_breach r h turn.group.0
    else start_breach r h (so_far r h p turn.group.0) turn.group.0)
    (λ breach. (breach.rule ≡ turn.rule) × (breach.other ≡ group_number turn.other))

-- they bear out each turn that the guard refuses
abbrev pub RefusalsAreBorneOut : Type 0
RefusalsAreBorneOut =
    (r : Rules) (h : History) (wishes : List Bool) → IsHistory r.count h → All (IsBorneOut r h (guard_picture r h wishes)) (guard_refused r h wishes)

-- a history of which no further turn is wished, k seconds on
abbrev pub still : Rules → History → ℕ → History
still r h zero = h
still r h (suc k) = still r h k ++ natural_picture r (still r h k) ∷ []

-- each picture of it has this size
abbrev pub HasSize : ℕ → History → Type 0
HasSize n h = (1 ≤ length h) × ((t : ℕ) → t < length h → length (slice_index_or h t []) ≡ n)

-- A green since u that goes on: without further turns an end is too early in each second before u + least, and not from it on.
abbrev pub EarliestEnd : Type 0
EarliestEnd =
    (r : Rules) (h : History) (g u k : ℕ) → HasSize r.count h → g < r.count → trace h g (last h) ≡ Green →
    last_below (turns_green_at (trace h g)) (length h) ≡ Some u →
    is_green_short r (still r h k) g ≡ nat_lt (length h + k) (u + r.minimum_green g)

-- so a start after a red since u
abbrev pub EarliestStart : Type 0
EarliestStart =
    (r : Rules) (h : History) (g u k : ℕ) → HasSize r.count h → g < r.count → trace h g (last h) ≡ Red →
    last_below (turns_red_at (trace h g)) (length h) ≡ Some u →
    is_red_short r (still r h k) g ≡ nat_lt (length h + k) (u + r.minimum_red g)

-- And a start of g after the last end b of a group i in conflict: without further turns the intergreen z stands in the way of a start
-- in each second t with t + red_amber before b + z, and not from there on.
abbrev pub EarliestCleared : Type 0
EarliestCleared =
    (r : Rules) (h : History) (g i b z k : ℕ) → HasSize r.count h → i < r.count → r.between i g ≡ Some z →
    last_below (ends_at (trace h i)) (length h) ≡ Some b →
    is_uncleared r (still r h k) (natural_picture r (still r h k)) g i ≡ nat_lt (length h + k + r.red_amber g) (b + z)

-- A red-amber since s: without further turns the sequence stands in the way of an end in each second up to that in which the group
-- turns green, and not behind it.
abbrev pub EarliestAfterRedAmber : Type 0
EarliestAfterRedAmber =
    (r : Rules) (h : History) (g s k : ℕ) → HasSize r.count h → g < r.count → trace h g (last h) ≡ RedAmber →
    last_below (starts_at (trace h g)) (length h) ≡ Some s → length h ≤ s + r.red_amber g →
    not (is_green (trace (still r h k) g (last (still r h k)))) ≡ nat_lt (length h + k) (s + r.red_amber g + 1)

-- so of a start after an amber since e
abbrev pub EarliestAfterAmber : Type 0
EarliestAfterAmber =
    (r : Rules) (h : History) (g e k : ℕ) → HasSize r.count h → g < r.count → trace h g (last h) ≡ Amber →
    last_below (ends_at (trace h g)) (length h) ≡ Some e → length h ≤ e + r.amber g →
    not (is_red (trace (still r h k) g (last (still r h k)))) ≡ nat_lt (length h + k) (e + r.amber g + 1)
