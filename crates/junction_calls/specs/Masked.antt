-- What a mask tells, in plain numbers.
use Rattle.std.specs.Prelude.{◌≡◌, ◌⊎◌, ◌<◌, ◌≤◌, ℕ, suc, Bool, List, [], ◌∷◌, Option, Some, None, if◌then◌else◌, length, min, slice_index_or}
use Rattle.sig_types.specs.RuleNumbers.{rule_number}
use Rattle.sig_types.specs.Rules.{Rules}
use Rattle.sig_types.specs.Turns.{History}
use Rattle.sig_types.specs.declared.aspect.Rule.{Rule}
use Rattle.sig_types.specs.declared.numbers.StagePlace.{StagePlace}
use Rattle.sig_types.specs.declared.refused.TurnRefusal.{TurnRefusal}
use Rattle.pua_model.specs.Plan.{PlanOf, groups_in}
use Rattle.stage_machine.specs.Orders.{active_in, is_stage, refused_order}
use Rattle.sig_guard.specs.Alone.{may_end, turn_refusal}
use Rattle.sig_guard.specs.Waits.{IsWait}
use Rattle.controller.specs.Controls.{StandsFor, plan_of, site_of}
use Rattle.controller.specs.Past.{Past}
use Rattle.controller.specs.World.{place_before}
use Rattle.controller.specs.declared.controller.Controller.{Controller}
use Rattle.junction_calls.specs.declared.mask.ActionMask.{ActionMask}
use Rattle.junction_calls.specs.Numbers.{AreZeroFrom, other_number, place_numbers}

-- the number of the turn that a group can be wished to make: 1 a start, 2 an end
abbrev pub turn_number : (is_end : Bool) → ℕ
turn_number is_end = if is_end then 2 else 1

-- the number of the rule that refuses a turn, and the group in its way; 0 and 255 where it is obeyed
abbrev pub refusal_numbers : Option TurnRefusal → ℕ × ℕ
refusal_numbers None = (0, 255)
refusal_numbers (Some turn) = (rule_number turn.rule, other_number turn.other)

-- the number of a wait in seconds, at most 65534; 65535 where the turn is never obeyed
abbrev pub wait_number : Option ℕ → ℕ
wait_number None = 65535
wait_number (Some seconds) = min seconds 65534

-- the rule that refuses the command from the active stage of a place to this one; none where it is obeyed, or is the active one
abbrev pub stage_refusal : PlanOf → StagePlace → (to : ℕ) → Option Rule
stage_refusal plan place to = if is_stage place to then None else refused_order plan place (active_in place) to

-- the number of a rule, 0 for none
abbrev pub number_of : Option Rule → ℕ
number_of None = 0
number_of (Some rule) = rule_number rule

-- so many numbers, of which the first are these, and all behind them 0
pub record Fills (size first : ℕ) (number : ℕ → ℕ) (numbers : List ℕ) : Type 0 where
  pub size_is : length numbers ≡ size
  pub each : (i : ℕ) → i < first → slice_index_or numbers i 0 ≡ number i
  pub rest : AreZeroFrom first numbers

-- 64 numbers: of each group how long its turn has to wait, and 0 behind them
pub record AreWaits (site : Rules) (h : History) (waits : List ℕ) : Type 0 where
  pub size_is : length waits ≡ 64
  pub each : (g : ℕ) → g < site.count →
      (wait : Option ℕ) × IsWait site h g wait × (slice_index_or waits g 0 ≡ wait_number wait)
  pub rest : AreZeroFrom site.count waits

-- what a mask tells of the groups after this history
pub record AreMasked (site : Rules) (h : History) (mask : ActionMask) : Type 0 where
  pub turns : Fills 64 site.count (λ g. turn_number (may_end site h g)) mask.turns
  pub refused_by : Fills 64 site.count (λ g. (refusal_numbers (turn_refusal site h g)).0) mask.rules
  pub in_the_way : Fills 64 site.count (λ g. (refusal_numbers (turn_refusal site h g)).1) mask.others
  pub waits : AreWaits site h mask.waits

-- what a mask tells of the second after a past: its place before its commands, its groups, and of each stage the rule that refuses
-- the command to it
pub record IsMask (plan : PlanOf) (site : Rules) (past : Past) (mask : ActionMask) : Type 0 where
  pub place : (mask.place, mask.from, mask.to, mask.t) ≡ place_numbers (place_before plan past)
  pub groups : mask.groups ≡ groups_in plan
  pub stages : mask.stages ≡ length plan.stages
  pub reserved : mask.reserved ≡ 0 ∷ 0 ∷ []
  pub masked : AreMasked site past.history mask
  pub stage_rules : Fills 32 (length plan.stages) (λ i. number_of (stage_refusal plan (place_before plan past) (suc i))) mask.stage_rules

-- What is answered. 0: the mask of the second that comes is told. 3: no second is left. 4: nothing is held. Where it isn't 0 nothing
-- is told.
abbrev pub IsMaskTold : Option Controller → ℕ → ActionMask → ActionMask → Type 0
IsMaskTold None n before told = (n ≡ 4) × (told ≡ before)
IsMaskTold (Some c) n before told =
    (past : Past) → StandsFor c past →
    ((n ≡ 0) × IsMask (plan_of c) (site_of c).rules past told)
    ⊎ ((n ≡ 3) × (604801 ≤ length past.frames) × (told ≡ before))
