-- How soon a group can show what is wished of it, by the numbers of a site.
use Rattle.std.specs.Prelude.{ℕ, zero, suc, ◌+◌, max, Option, Some, None, unwrap_or}
use Rattle.sig_types.specs.Rules.{Rules}

-- the greatest of the first so many numbers; 0 where there is none
abbrev pub greatest : (number : ℕ → ℕ) → (count : ℕ) → ℕ
greatest number zero = 0
greatest number (suc place) = max (greatest number place) (number place)

-- the intergreen of two groups that conflict
abbrev pub intergreen : Rules → (clearing entering : ℕ) → ℕ
intergreen site clearing entering = unwrap_or (site.between clearing entering) 0

-- A group of which red is wished ends within its red-amber and its minimum green: so long it takes where it has just started.
abbrev pub ends_within : Rules → (group : ℕ) → ℕ
ends_within site group = site.red_amber group + site.minimum_green group

-- and it is red an amber later
abbrev pub red_within : Rules → (group : ℕ) → ℕ
red_within site group = ends_within site group + site.amber group

-- A group of which green is wished, and which has just ended, is green again within its amber, its minimum red and its red-amber.
abbrev pub green_again_within : Rules → (group : ℕ) → ℕ
green_again_within site group = site.amber group + site.minimum_red group + site.red_amber group

-- what a group in conflict, which ends within these seconds, adds to a start of a group with so many seconds of red-amber: the
-- intergreen, in which the red-amber lies, or the red-amber where it is longer; nothing without a conflict
abbrev pub after_end : (ends red_amber : ℕ) → (intergreen : Option ℕ) → ℕ
after_end ends red_amber None = 0
after_end ends red_amber (Some intergreen) = ends + max intergreen red_amber

-- the seconds within which the clearing group leaves the way free to a green of the entering one
abbrev pub free_within : Rules → (entering clearing : ℕ) → ℕ
free_within site entering clearing =
    after_end (ends_within site clearing) (site.red_amber entering) (site.between clearing entering)

-- the same of the group in conflict that takes longest
abbrev pub all_free_within : Rules → (entering : ℕ) → ℕ
all_free_within site entering = greatest (free_within site entering) site.count

-- A group of which green is wished, and red of each group in conflict with it, is green within its own seconds, or within those
-- of the slowest group in conflict, whichever is longer.
abbrev pub green_within : Rules → (group : ℕ) → ℕ
green_within site group = max (green_again_within site group) (all_free_within site group)

-- the seconds within which a group shows what is wished of it, green or red
abbrev pub group_within : Rules → (group : ℕ) → ℕ
group_within site group = max (red_within site group) (green_within site group)

-- the seconds within which each group of the site shows what is wished of it
abbrev pub shown_within : Rules → ℕ
shown_within site = greatest (group_within site) site.count
