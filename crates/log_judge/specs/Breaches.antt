-- What a history breaks, with what shows it: all of it, by the second in which it is complete, then by rule, group and other.
use Rattle.std.specs.Prelude.{ℕ, zero, suc, ◌+◌, ◌-◌, max, Bool, true, false, not, ◌&&◌, ◌||◌, List, [], ◌∷◌, ◌++◌, length, Option, Some, None, is_some, if◌then◌else◌, nat_lt}
use Rattle.sig_types.specs.declared.aspect.Aspect.{Aspect}
use Rattle.sig_types.specs.declared.aspect.Aspect.TheVariants.{Red, RedAmber, Green, Amber}
use Rattle.sig_types.specs.declared.numbers.GroupNo.{GroupNo}
use Rattle.sig_types.specs.FirstRefused.{first_reason, when}
use Rattle.sig_types.specs.Rules.{Rules}
use Rattle.sig_types.specs.Turns.{History, trace, is_green, is_on}
use Rattle.log_judge.specs.Past.{since, on_since, last_end, first_over, first_green}
use Rattle.log_judge.specs.declared.breach.Breach.{Breach}
use Rattle.log_judge.specs.declared.breach.Breach.TheVariants.{Step, Short, Long, Conflict, Intergreen}
use Rattle.log_judge.specs.declared.find.Terms.{Terms}
use Rattle.log_judge.specs.declared.opening.Opening.{Opening}
use Rattle.log_judge.specs.Opening.{hidden_breach}

-- an aspect may follow another, whatever the tables say
abbrev pub can_follow : Aspect → Aspect → Bool
can_follow Red Amber = false
can_follow Red x = true
can_follow RedAmber RedAmber = true
can_follow RedAmber Green = true
can_follow RedAmber x = false
can_follow Green RedAmber = false
can_follow Green x = true
can_follow Amber Amber = true
can_follow Amber Red = true
can_follow Amber x = false

-- The first second of the red-amber that is over in second t, from what the group showed before t, what it shows in t, and since when
-- it showed that. A group that goes from red to green had a red-amber of no seconds.
abbrev pub red_amber_from : Aspect → Aspect → ℕ → ℕ → Option ℕ
red_amber_from RedAmber RedAmber s t = None
red_amber_from RedAmber x s t = Some s
red_amber_from Red Green s t = Some t
red_amber_from was is s t = None

-- so of amber; a group that goes from green to red had an amber of no seconds
abbrev pub amber_from : Aspect → Aspect → ℕ → ℕ → Option ℕ
amber_from Amber Amber s t = None
amber_from Amber x s t = Some s
amber_from Green Red s t = Some t
amber_from was is s t = None

-- the first second of the green that is over
abbrev pub green_from : Aspect → Aspect → ℕ → Option ℕ
green_from Green Green s = None
green_from Green x s = Some s
green_from was is s = None

-- the first second of the red that a start ends
abbrev pub red_from : Aspect → Aspect → ℕ → Option ℕ
red_from Red RedAmber s = Some s
red_from Red Green s = Some s
red_from was is s = None

-- the group of a place
abbrev pub no : ℕ → GroupNo
no g = record { 0 = g }

-- what the history shows from second s on is known to have begun then
abbrev pub is_known : Terms → ℕ → Bool
is_known k s = k.rested || nat_lt 0 s

-- an aspect from s on that is over in t, and known to have lasted less than its least time
abbrev pub short : Terms → ℕ → Aspect → ℕ → ℕ → Option ℕ → Option Breach
short k g x t least None = None
short k g x t least (Some s) = when (is_known k s && nat_lt t (s + least)) (Short t (no g) x s least)

-- an aspect from s on, or longer, up to before t, for more than its most time and the tolerance
abbrev pub long : Terms → ℕ → Aspect → ℕ → ℕ → Option ℕ → Option Breach
long k g x t most None = None
long k g x t most (Some s) = when (nat_lt (s + most + k.tolerance) t) (Long t (no g) x s most)

-- an aspect that is over in t and lasted another time than its own, but for the tolerance
abbrev pub other_time : Terms → ℕ → Aspect → ℕ → ℕ → Option ℕ → Option Breach
other_time k g x t time None = None
other_time k g x t time (Some s) = first_reason (
    when (is_known k s && nat_lt (t + k.tolerance) (s + time)) (Short t (no g) x s time)
    ∷ when (nat_lt (s + time + k.tolerance) t) (Long t (no g) x s time)
    ∷ [])

-- Of group g with the trace a, in the second after m:
-- an aspect that may not follow
abbrev pub step_breach : (ℕ → Aspect) → ℕ → ℕ → Option Breach
step_breach a g m = when (not (can_follow (a m) (a (suc m)))) (Step (suc m) (no g) (a m) (a (suc m)))

-- a red-amber of another length than its own
abbrev pub red_amber_breach : Rules → Terms → (ℕ → Aspect) → ℕ → ℕ → Option Breach
red_amber_breach r k a g m = other_time k g RedAmber (suc m) (r.red_amber g) (red_amber_from (a m) (a (suc m)) (since a m) (suc m))

-- an amber of another length than its own
abbrev pub amber_breach : Rules → Terms → (ℕ → Aspect) → ℕ → ℕ → Option Breach
amber_breach r k a g m = other_time k g Amber (suc m) (r.amber g) (amber_from (a m) (a (suc m)) (since a m) (suc m))

-- a green that was too short
abbrev pub green_breach : Rules → Terms → (ℕ → Aspect) → ℕ → ℕ → Option Breach
green_breach r k a g m = short k g Green (suc m) (r.minimum_green g) (green_from (a m) (a (suc m)) (since a m))

-- a red that was too short
abbrev pub red_breach : Rules → Terms → (ℕ → Aspect) → ℕ → ℕ → Option Breach
red_breach r k a g m = short k g Red (suc m) (r.minimum_red g) (red_from (a m) (a (suc m)) (since a m))

-- Of the groups g and i:
-- they are in conflict, listed one way or the other, and each pair is named once
abbrev pub is_pair : Rules → ℕ → ℕ → Bool
is_pair r g i = nat_lt g i && (is_some (r.between g i) || is_some (r.between i g))

-- both are red-amber or green in second m
abbrev pub are_both_on : (ℕ → Aspect) → (ℕ → Aspect) → ℕ → Bool
are_both_on a c m = is_on (a m) && is_on (c m)

-- a conflict up to second m that is over with it
abbrev pub conflict_breach : Rules → Bool → (ℕ → Aspect) → (ℕ → Aspect) → ℕ → ℕ → ℕ → Option Breach
conflict_breach r over a c g i m =
    when (is_pair r g i && are_both_on a c m && over) (Conflict (suc m) (no g) (no i) (max (on_since a m) (on_since c m)))

-- a green of g in second t after the last end of i, too soon where it comes before the end of the intergreen
abbrev pub too_soon : ℕ → ℕ → ℕ → Option ℕ → Option ℕ → Option Breach
too_soon g i t None ended = None
too_soon g i t (Some z) None = None
too_soon g i t (Some z) (Some b) = when (nat_lt t (b + z)) (Intergreen t (no g) (no i) b z)

-- a green of g that comes too soon in the second after m
abbrev pub intergreen_breach : Rules → Terms → (ℕ → Aspect) → (ℕ → Aspect) → ℕ → ℕ → ℕ → Option Breach
intergreen_breach r k a c g i m =
    if not (is_green (a m)) && is_green (a (suc m))
    then too_soon g i (suc m) (r.between i g) (last_end k.rested c (suc m))
    else None

-- At the end of a history, after its last second m:
-- the second in which a group that is red-amber in m turns green at the latest
abbrev pub latest_green : Rules → Terms → (ℕ → Aspect) → ℕ → ℕ → ℕ
latest_green r k a g m = max (since a m + r.red_amber g + k.tolerance) (suc m)

-- red-amber
abbrev pub is_red_amber : Aspect → Bool
is_red_amber x = is_on x && not (is_green x)

-- a green that is still to come, and comes too soon even after the longest red-amber
abbrev pub pending_breach : Rules → Terms → (ℕ → Aspect) → (ℕ → Aspect) → ℕ → ℕ → ℕ → Option Breach
pending_breach r k a c g i m =
    if is_red_amber (a m) then too_soon g i (latest_green r k a g m) (r.between i g) (last_end k.rested c m) else None

-- what lasted too long already
abbrev pub running_breach : Rules → Terms → (ℕ → Aspect) → ℕ → ℕ → Aspect → Option Breach
running_breach r k a g m RedAmber = long k g RedAmber (suc m) (r.red_amber g) (Some (since a m))
running_breach r k a g m Amber = long k g Amber (suc m) (r.amber g) (Some (since a m))
running_breach r k a g m Red = None
running_breach r k a g m Green = None

-- the latest second of a green that is still to come
abbrev pub due_green : Rules → Terms → (ℕ → Aspect) → ℕ → ℕ → Option ℕ
due_green r k a g m = if is_red_amber (a m) then Some (latest_green r k a g m) else None

-- how group g begins, in a history whose last second is m
abbrev pub opening_of : Rules → Terms → (ℕ → Aspect) → ℕ → ℕ → Opening
opening_of r k a g m =
    record { first = a 0; over = first_over a m; green = first_green a m; due = due_green r k a g m }

-- The list:
-- a breach, where there is one
abbrev pub listed : Option Breach → List Breach
listed None = []
listed (Some breach) = breach ∷ []

-- what each number below n gives, one after another
abbrev pub gather : (ℕ → List Breach) → ℕ → List Breach
gather f zero = []
gather f (suc n) = gather f n ++ f n

-- what each group gives, and what each two groups do
abbrev pub of_pairs : (ℕ → ℕ → Option Breach) → ℕ → List Breach
of_pairs f n = gather (λ g. gather (λ i. listed (f g i)) n) n

-- the breaches of the rule Sequence
abbrev pub sequence_breaches : Rules → Terms → (ℕ → Aspect) → ℕ → ℕ → List Breach
sequence_breaches r k a g m = listed (step_breach a g m) ++ (listed (red_amber_breach r k a g m) ++ listed (amber_breach r k a g m))

-- what is complete in the second after m
unfoldable pub breaches_after : Rules → Terms → History → ℕ → List Breach
breaches_after r k h m =
    gather (λ g. sequence_breaches r k (trace h g) g m) r.count
    ++ (gather (λ g. listed (green_breach r k (trace h g) g m)) r.count
    ++ (gather (λ g. listed (red_breach r k (trace h g) g m)) r.count
    ++ (of_pairs (λ g i. conflict_breach r (not (are_both_on (trace h g) (trace h i) (suc m))) (trace h g) (trace h i) g i m) r.count
    ++ of_pairs (λ g i. intergreen_breach r k (trace h g) (trace h i) g i m) r.count)))

-- what the end after second m leaves, and what the beginning hides
unfoldable pub last_breaches : Rules → Terms → History → ℕ → List Breach
last_breaches r k h m =
    gather (λ g. listed (running_breach r k (trace h g) g m (trace h g m))) r.count
    ++ (of_pairs (λ g i. conflict_breach r true (trace h g) (trace h i) g i m) r.count
    ++ (of_pairs (λ g i. pending_breach r k (trace h g) (trace h i) g i m) r.count
    ++ of_pairs (λ g i. hidden_breach r k g i (suc m) (opening_of r k (trace h g) g m) (opening_of r k (trace h i) i m)) r.count))

-- all breaches that are complete within the history
unfoldable pub breaches_within : Rules → Terms → History → List Breach
breaches_within r k h = gather (breaches_after r k h) (length h - 1)

-- all breaches of a history
unfoldable pub breaches : Rules → Terms → History → List Breach
breaches r k h = breaches_within r k h ++ last_breaches r k h (length h - 1)
