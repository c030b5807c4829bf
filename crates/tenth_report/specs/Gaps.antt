-- The stretches of a record of which nothing is known.
use Rattle.std.specs.Prelude.{◌≡◌, ℕ, ◌-◌, ◌≤◌, Bool, true, false, List, [], ◌∷◌, ◌++◌, length, Option, None, Some, if◌then◌else◌}
use Rattle.tenth_records.specs.declared.entry.Entry.{Entry}
use Rattle.tenth_records.specs.declared.entry.Shown.{Shown}
use Rattle.tenth_records.specs.declared.entry.Shown.TheVariants.{Picture, Unknown, End}
use Rattle.tenth_records.specs.Record.{first_or}
use Rattle.log_judge.specs.declared.protocol.Extremes.{Extremes}
use Rattle.log_protocol.specs.Came.{Lasted, extremes}
use Rattle.log_protocol.specs.Joined.{joined}
use Rattle.tenth_report.specs.declared.gaps.Gaps.{Gaps}

-- nothing is known
abbrev pub is_unknown : Shown → Bool
is_unknown (Picture picture) = false
is_unknown Unknown = true
is_unknown End = false

-- what a time ends from which on this is shown, where nothing was known since another one
abbrev pub gap_over : Option ℕ → ℕ → Shown → List Lasted
gap_over None at shown = []
gap_over (Some since) at shown = if is_unknown shown then [] else record { seconds = at - since; over = at } ∷ []

-- since when nothing is known, from this time on
abbrev pub gap_since : Option ℕ → ℕ → Shown → Option ℕ
gap_since since at shown = if is_unknown shown then Some (first_or since at) else None

-- what is kept of those that are over, behind this time
abbrev pub came_then : Extremes → Option ℕ → ℕ → Shown → Extremes
came_then x None at shown = x
came_then x (Some since) at shown =
    if is_unknown shown then x else joined x 0 (record { count = 1; least = at - since; second = at; most = at - since })

-- the stretches that these entries end, where nothing was known before them since this time; several lines, one after the other,
-- are one stretch
unfoldable pub gaps_in : Option ℕ → List Entry → List Lasted
gaps_in since [] = []
gaps_in since (e ∷ es) = gap_over since e.at e.shown ++ gaps_in (gap_since since e.at e.shown) es

-- the stretches of a record of which nothing is known
abbrev pub gaps_of : List Entry → List Lasted
gaps_of entries = gaps_in None entries

-- of all entries those before these were taken, and at most so many stretches are over
pub record HasGaps (gaps : Gaps) (all rest : List Entry) (most : ℕ) : Type 0 where
  pub over : List Lasted
  pub came : gaps.came ≡ extremes over
  pub left : gaps_of all ≡ over ++ gaps_in gaps.since rest
  pub few : length over ≤ most
