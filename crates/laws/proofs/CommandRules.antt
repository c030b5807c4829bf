-- Each refused stage command breaks a rule of stage commands.
use Rattle.std.proofs.Common.{◌≡◌, ℕ, ◌==◌, Bool, true, false, List, [], ◌∷◌, Option, Some, None, All, refl, subst, if◌then◌else◌}
use Rattle.std.proofs.lemmas.List.Elements.{All-append, All-cons, All-nil}
use Rattle.sig_types.specs.declared.aspect.Rule.{Rule}
use Rattle.sig_types.specs.declared.aspect.Rule.TheVariants.{Running, WrongStage, NoInterstage}
use Rattle.sig_types.specs.declared.numbers.Command.{Command}
use Rattle.sig_types.specs.declared.numbers.Command.TheVariants.{Interstage, SgGreen, SgRed, ClearFronts, ClearRears, SetCycle}
use Rattle.sig_types.specs.declared.numbers.StagePlace.{StagePlace}
use Rattle.sig_types.specs.declared.numbers.StagePlace.TheVariants.{NoPlan, Stage, Inter}
use Rattle.sig_types.specs.declared.refused.StageRefusal.{StageRefusal}
use Rattle.pua_model.specs.Plan.{PlanOf, interstage_between}
use Rattle.stage_machine.specs.Orders.{Order, place_at, refused_order, refused_without}
use Rattle.controller.specs.Second.{order_by, refusal, refusals_of, refused_by}
use Rattle.report_seen.specs.WrittenLogs.{IsOfCommands}

same_rule : (a b : Rule) → IsOfCommands a → Some a ≡ Some b → IsOfCommands b
same_rule a b is e = let same : a ≡ b = cc in subst IsOfCommands same is

without_ruled : (o : Option ℕ) (rule : Rule) → refused_without o ≡ Some rule → IsOfCommands rule
without_ruled None rule is = same_rule NoInterstage rule tt is
without_ruled (Some i) rule is = cc

order_ruled : (plan : PlanOf) (place : StagePlace) (a b : ℕ) (rule : Rule) → refused_order plan place a b ≡ Some rule → IsOfCommands rule
order_ruled plan NoPlan a b rule is = same_rule WrongStage rule tt is
order_ruled plan (Inter from to t) a b rule is = same_rule Running rule tt is
order_ruled plan (Stage s) a b rule is = go (s.0 == a) is
  where
    go : (here : Bool) → (if here then refused_without (interstage_between plan a b) else Some WrongStage) ≡ Some rule → IsOfCommands rule
    go true is = without_ruled (interstage_between plan a b) rule is
    go false is = same_rule WrongStage rule tt is

abbrev Ruled : StageRefusal → Type 0
Ruled r = IsOfCommands r.rule

one_ruled : (plan : PlanOf) (k : ℕ) (orders : List Order) (c : Command) → All Ruled (refused_by plan k orders c)
one_ruled plan k orders (Interstage a b) = go (refused_order plan (place_at plan orders k) a.0 b.0) refl
  where
    go : (o : Option Rule) → refused_order plan (place_at plan orders k) a.0 b.0 ≡ o → All Ruled (refusal a.0 b.0 o)
    go None is = All-nil Ruled
    go (Some rule) is = All-cons Ruled _ [] (order_ruled plan (place_at plan orders k) a.0 b.0 rule is) (All-nil Ruled)
one_ruled plan k orders (SgGreen g) = All-nil Ruled
one_ruled plan k orders (SgRed g) = All-nil Ruled
one_ruled plan k orders (ClearFronts d) = All-nil Ruled
one_ruled plan k orders (ClearRears d) = All-nil Ruled
one_ruled plan k orders (SetCycle n) = All-nil Ruled

pub commands_have_rules : (plan : PlanOf) (k : ℕ) (orders : List Order) (cs : List Command) → All Ruled (refusals_of plan k orders cs)
commands_have_rules plan k orders [] = All-nil Ruled
commands_have_rules plan k orders (c ∷ cs) =
    All-append Ruled (refused_by plan k orders c) (refusals_of plan k (order_by plan k orders c) cs)
    (one_ruled plan k orders c) (commands_have_rules plan k (order_by plan k orders c) cs)
