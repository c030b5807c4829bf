-- Numbers that name stages give commands of the plan, and so does the stage that is active before a second's commands.
use Rattle.std.proofs.Common.{◌≡◌, ◌≤◌, ◌+◌, ◌==◌, ◌&&◌, ◌||◌, ◌++◌, ◌∙◌, All, ℕ, pos, Bool, true, false, List, [], ◌∷◌, Some, None, is_some, nat_le, if◌then◌else◌, length, refl, sym, arith}
use Rattle.std.proofs.lemmas.Bool.{eqb-true, leb-true}
use Rattle.std.proofs.lemmas.List.Elements.{All-push, All-same}
use Rattle.sig_types.specs.declared.numbers.Command.{Command}
use Rattle.sig_types.specs.declared.numbers.StagePlace.{StagePlace}
use Rattle.sig_types.specs.declared.numbers.StagePlace.TheVariants as place
use Rattle.pua_model.specs.Plan.{PlanOf, HasStage, IsPlan, stage_of}
use Rattle.stage_machine.specs.Orders.{Order, Until}
use Rattle.stage_machine.specs.Stands.{StandsFor as StagesStand}
use Rattle.stage_machine.proofs.Places.{stage_is}
use Rattle.controller.specs.Commanded.{IsCommand}
use Rattle.controller.specs.Controls.{StandsFor, plan_of}
use Rattle.controller.specs.Past.{Past}
use Rattle.controller.specs.World.{place_before}
use Rattle.controller.specs.declared.controller.Controller.{Controller}
use Rattle.junction_calls.specs.declared.commands.GivenCommands.{GivenCommands}
use Rattle.junction_calls.specs.Given.{HasActive, are_stages, are_wishes, is_named, is_stage_or_none}

named_there : (plan : PlanOf) (n : ℕ) → is_some (stage_of plan (pos n)) ≡ true → HasStage plan n
unfolding stage_of
named_there plan n is = go (nat_le 1 n) (nat_le n (length plan.stages)) refl refl is
  where
    go : (a b : Bool) → nat_le 1 n ≡ a → nat_le n (length plan.stages) ≡ b → is_some (if a && b then Some n else None) ≡ true → HasStage plan n
    go true true one all is = (omega (arith, leb-true 1 n one), omega (arith, leb-true n (length plan.stages) all))
    go true false one all is = cc
    go false b one all is = cc

both_true : (a b : Bool) → (a && b) ≡ true → (a ≡ true) × (b ≡ true)
both_true true true is = (refl, refl)
both_true true false is = cc
both_true false b is = cc

-- a stage that is wished
pub wish_named : (plan : PlanOf) (s : ℕ) → is_stage_or_none plan s ≡ true → 1 ≤ s → HasStage plan s
wish_named plan s named at_least = go (s == 0) refl named
  where
    go : (none : Bool) → (s == 0) ≡ none → (none || is_some (stage_of plan (pos s))) ≡ true → HasStage plan s
    go true is named = absurd (omega (arith, at_least, eqb-true s 0 is))
    go false is named = named_there plan s named

-- the two stages of a stage command
pub order_named : (plan : PlanOf) (from to : ℕ) → are_stages plan from to ≡ true → 1 ≤ from + to → HasStage plan from × HasStage plan to
order_named plan from to named some = go (from == 0) (to == 0) refl refl named
  where
    there : (is_some (stage_of plan (pos from)) && is_some (stage_of plan (pos to))) ≡ true → HasStage plan from × HasStage plan to
    there both =
        let each = both_true (is_some (stage_of plan (pos from))) (is_some (stage_of plan (pos to))) both in
        (named_there plan from each.0, named_there plan to each.1)

    go : (a b : Bool) → (from == 0) ≡ a → (to == 0) ≡ b →
        ((a && b) || (is_some (stage_of plan (pos from)) && is_some (stage_of plan (pos to)))) ≡ true → HasStage plan from × HasStage plan to
    go true true is also named = absurd (omega (arith, some, eqb-true from 0 is, eqb-true to 0 also))
    go true false is also named = there named
    go false b is also named = there named

-- one command more of the plan
pub one_more_named : (plan : PlanOf) (old pushed : List Command) (command : Command) → pushed ≡ old ++ command ∷ [] → All (IsCommand plan) old →
    IsCommand plan command → All (IsCommand plan) pushed
one_more_named plan old pushed command is before named =
    All-same (IsCommand plan) pushed (old ++ command ∷ []) is (All-push (IsCommand plan) old command before named)

and_all : (a b c : Bool) → (a && b) ≡ true → (a && (b && c)) ≡ c
and_all true true c is = refl
and_all true false c is = cc
and_all false b c is = cc

and_none : (a b c : Bool) → (a && b) ≡ false → (a && (b && c)) ≡ false
and_none true true c is = cc
and_none true false c is = refl
and_none false b c is = refl

and_true : (a b c : Bool) → c ≡ true → (a && b) ≡ (a && (b && c))
and_true true true c is = sym is
and_true true false c is = refl
and_true false b c is = refl

-- numbers name what there is where those of the stages do and those of the groups do
pub all_named : (plan : PlanOf) (given : GivenCommands) (stages groups : Bool) →
    stages ≡ (are_stages plan given.from given.to && is_stage_or_none plan given.stage) → stages ≡ true → groups ≡ are_wishes plan given.groups 64 →
    groups ≡ is_named plan given
all_named plan given stages groups is there wishes =
    wishes ∙ sym (and_all (are_stages plan given.from given.to) (is_stage_or_none plan given.stage) (are_wishes plan given.groups 64) (sym is ∙ there))

-- where those of the stages don't, they don't
pub none_named : (plan : PlanOf) (given : GivenCommands) (stages : Bool) →
    stages ≡ (are_stages plan given.from given.to && is_stage_or_none plan given.stage) → stages ≡ false → stages ≡ is_named plan given
none_named plan given stages is not_there =
    not_there ∙ sym (and_none (are_stages plan given.from given.to) (is_stage_or_none plan given.stage) (are_wishes plan given.groups 64) (sym is ∙ not_there))

-- where nothing is wished of a group those of the stages decide
pub silent_named : (plan : PlanOf) (given : GivenCommands) (stages : Bool) →
    stages ≡ (are_stages plan given.from given.to && is_stage_or_none plan given.stage) → are_wishes plan given.groups 64 ≡ true →
    stages ≡ is_named plan given
silent_named plan given stages is wishes =
    is ∙ and_true (are_stages plan given.from given.to) (is_stage_or_none plan given.stage) (are_wishes plan given.groups 64) wishes

until_later : (plan : PlanOf) (orders : List Order) (k n : ℕ) → k ≤ n → Until plan orders k → Until plan orders n
until_later plan [] k n le until = tt
until_later plan (o ∷ os) k n le until =
    let begun : o.second ≤ k = until.0 in
    let now : o.second ≤ n = omega arith in
    (now, until.1, until.2, until.3, until.4, until.5)

-- the active stage
pub active_has : (c : Controller) (past : Past) → StandsFor c past → IsPlan (plan_of c) → HasActive (plan_of c) (place_before (plan_of c) past)
unfolding StandsFor plan_of StagesStand
active_has c past stands is = go (place_before c.plan past) refl
  where
    go : (p : StagePlace) → place_before c.plan past ≡ p → HasActive c.plan p
    go place.NoPlan e = tt
    go (place.Inter a b t) e = tt
    go (place.Stage s) e =
        let longer : length past.history ≡ length past.frames + 1 = stands.seconds in
        let le : length past.frames ≤ length past.history = omega arith in
        stage_is c.plan past.orders (length past.history) s is (until_later c.plan past.orders (length past.frames) (length past.history) le stands.stages.until) e
