-- What becomes of each wished turn.
use Rattle.std.specs.Prelude.{◌≡◌, ◌⊎◌, ℕ, suc, ◌<◌, ◌≤◌, max, true, false, Bool, List, [], ◌∷◌, ◌++◌, Contains}
use Rattle.sig_types.specs.declared.refused.TurnRefusal.{TurnRefusal}
use Rattle.sig_types.specs.Rules.{Rules}
use Rattle.sig_types.specs.Turns.{History, shown, is_on}
use Rattle.pua_model.specs.Plan.{group_number}
use Rattle.sig_guard.specs.Laws.{BreaksRule, obeyed}
use Rattle.sig_guard.specs.Safety.{IsHistory, Safe}
use Rattle.sig_guard.specs.Steady.{shows_wish}
use Rattle.sig_guard.specs.Step.{aspect_at_start, aspect_at_end, is_green_wished, shows_by_nature, wants_end, wants_start, guard_picture, guard_refused}
use Rattle.sig_response.specs.Laws.{IsSite}
use Rattle.sig_response.specs.Onward.{Wished, onward, shows}

-- the turn of the group is refused, by a rule that the history with this turn, obeyed all the same, does not keep
pub record IsRefused (site : Rules) (past : History) (wishes : List Bool) (group : ℕ) : Type 0 where
  pub turn : TurnRefusal
  pub listed : Contains (guard_refused site past wishes) turn
  pub of_group : turn.group.0 ≡ group
  pub breaks : BreaksRule site (past ++ obeyed site past wishes group ∷ []) group turn.rule (group_number turn.other)

-- A wished end is made, or it is refused by a rule that it would break; so is a wished start; and a group of which no turn is
-- wished shows what it shows by nature. So the guard blocks nothing without need, and passes nothing over.
pub record NothingIsPassedOver (site : Rules) (past : History) (wishes : List Bool) (group : ℕ) : Type 0 where
  pub end : wants_end site past wishes group ≡ true →
      (shown (guard_picture site past wishes) group ≡ aspect_at_end (site.amber group)) ⊎ IsRefused site past wishes group
  pub start : wants_start site past wishes group ≡ true →
      (shown (guard_picture site past wishes) group ≡ aspect_at_start (site.red_amber group)) ⊎ IsRefused site past wishes group
  pub nature : wants_end site past wishes group ≡ false →
      wants_start site past wishes group ≡ false →
      shown (guard_picture site past wishes) group ≡ shows_by_nature site past group

-- after every history and for every wish
abbrev pub NeverBlocksWithoutNeed : Type 0
NeverBlocksWithoutNeed =
    (site : Rules) (past : History) (wishes : List Bool) (group : ℕ) → IsHistory site.count past → group < site.count →
    NothingIsPassedOver site past wishes group

-- In a second in which no turn is refused each group is red-amber or green exactly where green is wished of it.
abbrev pub OnAsWished : Type 0
OnAsWished =
    (site : Rules) (past : History) (wishes : List Bool) (group : ℕ) → IsHistory site.count past → group < site.count →
    guard_refused site past wishes ≡ [] →
    is_on (shown (guard_picture site past wishes) group) ≡ is_green_wished wishes group

-- And once its red-amber or its amber is over each group of which the same goes on being wished shows it.
abbrev pub ShownAtOnce : Type 0
ShownAtOnce =
    (site : Rules) (past : History) (wished : Wished) (group seconds : ℕ) →
    IsSite site → IsHistory site.count past → Safe site past → group < site.count →
    guard_refused site past (wished 0) ≡ [] →
    ((second : ℕ) → second < suc seconds → is_green_wished (wished second) group ≡ is_green_wished (wished 0) group) →
    max (site.red_amber group) (site.amber group) ≤ seconds →
    shows_wish (shows (onward site past wished (suc seconds)) group) (is_green_wished (wished 0) group) ≡ true
