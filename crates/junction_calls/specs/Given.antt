-- The commands that plain numbers give, and a second by them.
use Rattle.std.specs.Prelude.{◌≡◌, ◌+◌, ◌==◌, ◌&&◌, ◌||◌, ◌↔◌, ◌⊎◌, ℕ, zero, suc, pos, Bool, true, false, List, [], ◌∷◌, ◌++◌, is_some, if◌then◌else◌, nat_lt, nat_le, slice_index_or}
use Rattle.sig_types.specs.declared.numbers.Command.{Command}
use Rattle.sig_types.specs.declared.numbers.Command.TheVariants.{Interstage, SgGreen, SgRed}
use Rattle.sig_types.specs.declared.numbers.StagePlace.{StagePlace}
use Rattle.sig_types.specs.declared.numbers.StagePlace.TheVariants as place
use Rattle.sig_types.specs.Counts.{Counts, Takes}
use Rattle.pua_model.specs.Plan.{PlanOf, HasStage, groups_in, stage_of}
use Rattle.stage_machine.specs.Orders.{stage}
use Rattle.controller.specs.Controls.{StandsFor, logic_of, site_of, plan_of}
use Rattle.controller.specs.Given.{given_record, past_after_given}
use Rattle.controller.specs.Past.{Past}
use Rattle.controller.specs.World.{place_before}
use Rattle.controller.specs.declared.controller.Controller.{Controller}
use Rattle.junction_calls.specs.declared.commands.GivenCommands.{GivenCommands}
use Rattle.junction_calls.specs.declared.counts.DetectorCounts.{DetectorCounts}
use Rattle.junction_calls.specs.declared.told.Told.{Told}
use Rattle.junction_calls.specs.Numbers.{IsFrame, IsTold}

-- the number is 0, or names a stage
abbrev pub is_stage_or_none : PlanOf → (number : ℕ) → Bool
is_stage_or_none plan number = (number == 0) || is_some (stage_of plan (pos number))

-- both numbers are 0, or both name stages
abbrev pub are_stages : PlanOf → (from to : ℕ) → Bool
are_stages plan from to =
    ((from == 0) && (to == 0)) || (is_some (stage_of plan (pos from)) && is_some (stage_of plan (pos to)))

-- the number is 0, or it is 1 or 2 and the plan has a group at this place
abbrev pub is_wish : PlanOf → (group number : ℕ) → Bool
is_wish plan group number = (number == 0) || (nat_lt group (groups_in plan) && nat_le number 2)

-- so it is of all groups below n
abbrev pub are_wishes : PlanOf → List ℕ → ℕ → Bool
are_wishes plan numbers zero = true
are_wishes plan numbers (suc n) = are_wishes plan numbers n && is_wish plan n (slice_index_or numbers n 0)

-- what the numbers of the groups below n add up to
abbrev pub sum_below : List ℕ → ℕ → ℕ
sum_below numbers zero = 0
sum_below numbers (suc n) = sum_below numbers n + slice_index_or numbers n 0

-- all numbers name what the plan has
abbrev pub is_named : PlanOf → GivenCommands → Bool
is_named plan given =
    are_stages plan given.from given.to && (is_stage_or_none plan given.stage && are_wishes plan given.groups 64)

-- the stage command that two numbers give; 0 and 0 give none
abbrev pub order_given : (from to : ℕ) → List Command
order_given from to = if (from == 0) && (to == 0) then [] else Interstage (stage from) (stage to) ∷ []

-- the stage that is active in a place is one of the plan's
abbrev pub HasActive : PlanOf → StagePlace → Type 0
HasActive plan place.NoPlan = Unit {0}
HasActive plan (place.Inter a b t) = Unit {0}
HasActive plan (place.Stage s) = HasStage plan s.0

-- the command from the active stage to this one, where another one is active
abbrev pub wish_in : StagePlace → ℕ → List Command
wish_in place.NoPlan s = []
wish_in (place.Inter a b t) s = []
wish_in (place.Stage a) s = if a.0 == s then [] else Interstage a (stage s) ∷ []

-- the command that a wished stage gives in a place; 0 wishes none
abbrev pub wish_given : StagePlace → ℕ → List Command
wish_given p s = if s == 0 then [] else wish_in p s

-- the command that a number wishes of a group: 1 green, 2 red
abbrev pub group_given : (group number : ℕ) → List Command
group_given g zero = []
group_given g (suc zero) = SgGreen (record { 0 = g }) ∷ []
group_given g (suc (suc n)) = SgRed (record { 0 = g }) ∷ []

-- those of the groups below n, by rising number
abbrev pub groups_given : List ℕ → ℕ → List Command
groups_given numbers zero = []
groups_given numbers (suc n) = groups_given numbers n ++ group_given n (slice_index_or numbers n 0)

-- all commands that plain numbers give in a place, in order
abbrev pub commands_given : StagePlace → GivenCommands → List Command
commands_given p given = (order_given given.from given.to ++ wish_given p given.stage) ++ groups_given given.groups 64

-- those that they give in the second after a past
abbrev pub given_in : PlanOf → Past → GivenCommands → List Command
given_in plan past given = commands_given (place_before plan past) given

-- A second by a caller. 3: its counts are not taken, exactly where a run does not take their frame. 9: they are, and a number names
-- nothing. 0: else; then the controller stands for the past that is longer by the second of this frame and these commands, whose
-- record is told. Where it isn't 0 all is as it was. The site and what decides the program's seconds stay.
pub record IsGivenSecond (counts : DetectorCounts) (given : GivenCommands) (c : Controller) (past : Past) (n : ℕ) (d : Controller)
    (before told : Told) : Type 0 where
  pub answers : (n ≡ 0) ⊎ ((n ≡ 3) ⊎ (n ≡ 9))
  pub frame : Counts
  pub counted : IsFrame counts frame
  pub untaken : (n ≡ 3) ↔ (Takes past.frames frame → ⊥)
  pub unnamed : n ≡ 9 → is_named (plan_of c) given ≡ false
  pub named : n ≡ 0 → is_named (plan_of c) given ≡ true
  pub stands : n ≡ 0 → StandsFor d (past_after_given (site_of c) past frame (given_in (plan_of c) past given))
  pub tells : n ≡ 0 → IsTold (given_record (site_of c) past frame (given_in (plan_of c) past given)) told
  pub site : site_of d ≡ site_of c
  pub logic : logic_of d ≡ logic_of c
  pub still : (n ≡ 0 → ⊥) → (d ≡ c) × (told ≡ before)
