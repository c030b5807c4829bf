-- What a history hides at its beginning, where the past is unknown. A group that is amber in second 0 ended before it, and not earlier
-- than its amber and the tolerance allow: so a green of another group may come too soon after an end that the history does not show.
use Rattle.std.specs.Prelude.{ℕ, ◌+◌, ◌-◌, max, Bool, true, false, ◌&&◌, Option, Some, None, is_some, if◌then◌else◌, nat_lt, nat_le, [], ◌∷◌}
use Rattle.sig_types.specs.declared.aspect.Aspect.{Aspect}
use Rattle.sig_types.specs.declared.aspect.Aspect.TheVariants.{Red, RedAmber, Green, Amber}
use Rattle.sig_types.specs.FirstRefused.{first_reason, when}
use Rattle.sig_types.specs.Rules.{Rules}
use Rattle.log_judge.specs.declared.breach.Breach.{Breach}
use Rattle.log_judge.specs.declared.breach.Breach.TheVariants.{Hidden}
use Rattle.log_judge.specs.declared.find.Terms.{Terms}
use Rattle.log_judge.specs.declared.opening.Opening.{Opening}
use Rattle.log_judge.specs.declared.opening.Latest.{Latest}

-- amber
abbrev pub is_amber : Aspect → Bool
is_amber Red = false
is_amber RedAmber = false
is_amber Green = false
is_amber Amber = true

-- for how many seconds before second t a group showed what it showed first
abbrev pub shown_first : Option ℕ → ℕ → ℕ
shown_first None t = t
shown_first (Some over) t = over

-- what the most has more than n; none where n is more
abbrev pub left_of : ℕ → ℕ → Option ℕ
left_of most n = if nat_le n most then Some (most - n) else None

-- So many seconds before second 0 a group with this opening ended at the earliest, where it was amber first: an amber has at most so
-- many seconds, and the history ends before second t.
abbrev pub ended_before : ℕ → Opening → ℕ → Option ℕ
ended_before most x t = if is_amber x.first then left_of most (shown_first x.over t) else None

-- what a least time has more than what is shown of it from second 0 on, where that is over
abbrev pub lacks : ℕ → Option ℕ → ℕ
lacks least None = 0
lacks least (Some over) = least - over

-- The latest beginning of the green before second 0 of a group that is green or amber in it, and first shows something else in second
-- `over`: a green that is over has lasted its minimum, and a second at least, and an amber that is over so many seconds.
abbrev pub green_before : (minimum amber : ℕ) → Option ℕ → Aspect → Option Latest
green_before minimum amber over Red = None
green_before minimum amber over RedAmber = None
green_before minimum amber over Green = Some (record { second = 0; before = lacks minimum over })
green_before minimum amber over Amber = Some (record { second = 0; before = max minimum 1 + lacks amber over })

-- the first green that the history shows to begin, or the latest second of the one that is due
abbrev pub green_behind : Option ℕ → Option ℕ → Option Latest
green_behind (Some t) due = Some (record { second = t; before = 0 })
green_behind None (Some t) = Some (record { second = t; before = 0 })
green_behind None None = None

-- a green of g comes too soon after an end of i that lies at most so many seconds before second 0
abbrev pub soon_after : ℕ → ℕ → ℕ → Option Latest → Option ℕ → Option Breach
soon_after g i least None ended = None
soon_after g i least (Some x) None = None
soon_after g i least (Some x) (Some b) =
    when (nat_lt (x.second + b) (least + x.before)) (Hidden x.second (record { 0 = g }) (record { 0 = i }) b x.before least)

-- what has to pass from an end to a green of g, with this intergreen: the red-amber begins no earlier than the end
abbrev pub needed : Rules → Terms → ℕ → ℕ → ℕ
needed r k g z = max z (r.red_amber g - k.tolerance)

-- a green of g comes too soon after the end of i before second 0, where i conflicts with it, in a history that ends before second t
abbrev pub too_soon_after : Rules → Terms → ℕ → ℕ → ℕ → Option Latest → Opening → Option ℕ → Option Breach
too_soon_after r k g i t green y None = None
too_soon_after r k g i t green y (Some z) = soon_after g i (needed r k g z) green (ended_before (r.amber i + k.tolerance) y t)

-- the green of g before second 0 came too soon after the end of i before it
abbrev pub soon_before : Rules → Terms → ℕ → ℕ → ℕ → Opening → Opening → Option Breach
soon_before r k g i t x y =
    too_soon_after r k g i t (green_before (r.minimum_green g) (r.amber g - k.tolerance) x.over x.first) y (r.between i g)

-- so of the first green of g behind second 0
abbrev pub soon_behind : Rules → Terms → ℕ → ℕ → ℕ → Opening → Opening → Option Breach
soon_behind r k g i t x y = too_soon_after r k g i t (green_behind x.green x.due) y (r.between i g)

-- The green of g before second 0 is asked. Where g is amber in second 0 too, either may have been green later: then it is asked only
-- where that of i cannot have been the later one, and of the lower of the two.
abbrev pub is_behind : Rules → Terms → ℕ → ℕ → ℕ → Opening → Opening → Bool
is_behind r k g i t x y = if is_amber x.first then nat_lt g i && is_some (soon_before r k i g t y x) else true

-- an intergreen from i to g that the history cannot have kept
abbrev pub hidden_breach : Rules → Terms → ℕ → ℕ → ℕ → Opening → Opening → Option Breach
hidden_breach r k g i t x y =
    if k.rested then None
    else first_reason ((if is_behind r k g i t x y then soon_before r k g i t x y else None) ∷ soon_behind r k g i t x y ∷ [])
