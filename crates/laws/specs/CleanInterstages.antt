-- What becomes of an interstage that its trial calls clean.
use Rattle.std.specs.Prelude.{◌≡◌, ℕ, ◌+◌, ◌<◌, ◌≤◌, max, true}
use Rattle.sig_types.specs.Rules.{Rules}
use Rattle.sig_types.specs.Turns.{is_on}
use Rattle.pua_model.specs.Plan.{PlanOf, groups_in, in_stage, interstage_at}
use Rattle.sig_guard.specs.Steady.{shows_wish}
use Rattle.sig_audit.specs.declared.trial.InterEnd.TheVariants as inter
use Rattle.sig_audit.specs.Trial.{made, settling, trial_wishes, IsInterEnd}
use Rattle.sig_response.specs.Laws.{IsSite}
use Rattle.sig_response.specs.Onward.{shows}

-- the seconds of a trial from second 0 to the first of the to-stage, which comes right after the interstage's length
abbrev pub over_in : PlanOf → (interstage : ℕ) → ℕ
over_in plan interstage = settling + (interstage_at plan interstage).length + 1

-- In the first second of its to-stage each group is red-amber or green exactly where the stage has it green; and once its red-amber or
-- its amber is over it shows what the stage wishes of it, green or red, and goes on so.
pub record EndsInItsStage (plan : PlanOf) (site : Rules) (interstage : ℕ) : Type 0 where
  pub on : (group : ℕ) → group < site.count →
      is_on (shows (made site (trial_wishes plan interstage) (over_in plan interstage)) group)
      ≡ in_stage plan (interstage_at plan interstage).to group
  pub shown : (group seconds : ℕ) → group < site.count → max (site.red_amber group) (site.amber group) ≤ seconds →
      shows_wish (shows (made site (trial_wishes plan interstage) (over_in plan interstage + seconds)) group)
      (in_stage plan (interstage_at plan interstage).to group) ≡ true

-- so it is of each interstage that is clean, at each site
abbrev pub CleanEndsInItsStage : Type 0
CleanEndsInItsStage =
    (plan : PlanOf) (site : Rules) (interstage : ℕ) → IsSite site → site.count ≡ groups_in plan →
    IsInterEnd plan site interstage inter.Clean → EndsInItsStage plan site interstage
