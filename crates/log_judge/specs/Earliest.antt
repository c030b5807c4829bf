-- When a start is cleared of all intergreens, if no further turn is wished.
use Rattle.std.specs.Prelude.{◌≡◌, ℕ, ◌+◌, ◌-◌, true, length, is_some, nat_lt}
use Rattle.sig_types.specs.Rules.{Rules}
use Rattle.sig_types.specs.Turns.{History, trace}
use Rattle.sig_types.specs.Words.{least_below}
use Rattle.sig_guard.specs.Step.{natural_picture, is_uncleared}
use Rattle.log_judge.specs.Past.{last_end}
use Rattle.log_judge.specs.Explained.{lacks_now, most_lacking}
use Rattle.log_judge.specs.Refused.{HasSize, still}

-- the seconds that a green after a start of g in the last second lacks after the last end of i
abbrev pub lacking : Rules → History → ℕ → ℕ → ℕ
lacking r h g i = lacks_now (length h - 1 + r.red_amber g) (r.between i g) (last_end true (trace h i) (length h - 1))

-- the last second, and the most of them
abbrev pub free_from : Rules → History → ℕ → ℕ
free_from r h g = length h - 1 + (most_lacking (lacking r h g) r.count).1

-- Without further turns some intergreen stands in the way of a start of g in each later second before that one, and none from it on.
abbrev pub EarliestFree : Type 0
EarliestFree =
    (r : Rules) (h : History) (g k : ℕ) → HasSize r.count h →
    is_some (least_below (is_uncleared r (still r h k) (natural_picture r (still r h k)) g) r.count)
    ≡ nat_lt (length h + k) (free_from r h g)
