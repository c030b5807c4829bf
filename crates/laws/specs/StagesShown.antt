-- How soon a run shows the stage to which its passes steer.
use Rattle.std.specs.Prelude.{◌≡◌, ℕ, ◌+◌, ◌<◌, ◌≤◌, Bool, true, List, length, slice_index_or}
use Rattle.sig_types.specs.declared.numbers.StagePlace.TheVariants.{Stage}
use Rattle.sig_types.specs.declared.record.Record.{Record}
use Rattle.sig_types.specs.Counts.{Counts}
use Rattle.sig_types.specs.Pass.{Logic, Store, commands_after}
use Rattle.sig_types.specs.Turns.{shown}
use Rattle.sig_types.specs.Words.{tabulate}
use Rattle.pua_model.specs.Plan.{groups_in, in_stage}
use Rattle.stage_machine.specs.Orders.{place_at, stage}
use Rattle.sig_guard.specs.Steady.{shows_wish}
use Rattle.sig_response.specs.Bounds.{shown_within}
use Rattle.sig_response.specs.Laws.{IsSite, AreApart}
use Rattle.controller.specs.Past.{Site, opening, next_second}
use Rattle.controller.specs.Second.{run_from}
use Rattle.controller.specs.Guarded.{past_at, pass_at}
use Rattle.laws.specs.Ways.{IsWay, heading, left, Steers}

-- A run steers to the goal from the second after the first `since` on: the stage that is active then, or to which the running
-- interstage leads, is on the way, and each pass steers.
pub record IsSteered (logic : Logic) (site : Site) (store : Store) (frames : List Counts) (goal : ℕ) (on : ℕ → Bool)
    (next seconds : ℕ → ℕ) (since : ℕ) : Type 0 where
  pub way : IsWay site.plan goal on next seconds
  pub begun : since ≤ length frames
  pub heads : on (heading site.plan (past_at logic site store frames since).orders) ≡ true
  pub steers : (second : ℕ) → since ≤ second → second < length frames →
      Steers on goal next
      (place_at site.plan (past_at logic site store frames second).orders (next_second (past_at logic site store frames second)))
      (commands_after (pass_at logic site store frames second))

-- the number of seconds after which the goal is active
abbrev pub arrival : Logic → Site → Store → List Counts → (seconds : ℕ → ℕ) → (since : ℕ) → ℕ
arrival logic site store frames seconds since =
    since + left site.plan seconds (past_at logic site store frames since).orders (next_second (past_at logic site store frames since))

-- the stage has no two groups in conflict
abbrev pub IsStageApart : Site → (goal : ℕ) → Type 0
IsStageApart site goal = AreApart site.rules (tabulate (in_stage site.plan goal) (groups_in site.plan))

-- the record of a second of the run; `missing` stands for one past its end
abbrev pub record_at : Logic → Site → Store → List Counts → (second : ℕ) → (missing : Record) → Record
record_at logic site store frames second missing =
    slice_index_or (run_from logic site (opening site store) frames) second missing

-- A run that steers to a stage has it as its place from its arrival on: the rest of the running interstage and the lengths of those
-- on the way later, and not a second more.
abbrev pub StageIsReached : Type 0
StageIsReached =
    (logic : Logic) (site : Site) (store : Store) (frames : List Counts) (goal : ℕ) (on : ℕ → Bool) (next seconds : ℕ → ℕ)
    (since second : ℕ) (missing : Record) → IsSteered logic site store frames goal on next seconds since →
    arrival logic site store frames seconds since ≤ second → second < length frames →
    (record_at logic site store frames second missing).place ≡ Stage (stage goal)

-- And `shown_within` seconds after its arrival each group shows what the stage wishes of it, green or red, whatever the interstages
-- on the way were like.
abbrev pub StageIsShown : Type 0
StageIsShown =
    (logic : Logic) (site : Site) (store : Store) (frames : List Counts) (goal : ℕ) (on : ℕ → Bool) (next seconds : ℕ → ℕ)
    (since second : ℕ) (missing : Record) → IsSteered logic site store frames goal on next seconds since →
    IsSite site.rules → site.rules.count ≡ groups_in site.plan → IsStageApart site goal →
    arrival logic site store frames seconds since + shown_within site.rules ≤ second + 1 → second < length frames →
    (group : ℕ) → group < groups_in site.plan →
    shows_wish (shown (record_at logic site store frames second missing).picture group) (in_stage site.plan goal group) ≡ true
