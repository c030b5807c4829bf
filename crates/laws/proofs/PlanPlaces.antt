-- The places of a run are stages and interstages of its plan.
use Rattle.std.proofs.Common.{◌≡◌, ℕ, ◌-◌, ◌≤◌, ◌==◌, Bool, true, false, List, [], ◌∷◌, Option, Some, None, refl, subst, ap, arith, nat_lt, if◌then◌else◌}
use Rattle.std.proofs.lemmas.Bool.{and_parts, eqb-true, ltb-true}
use Rattle.std.proofs.lemmas.List.Quantifiers.{position-Some}
use Rattle.std.specs.Prelude.{unwrap_or}
use Rattle.sig_types.specs.declared.aspect.Rule.{Rule}
use Rattle.sig_types.specs.declared.numbers.Command.{Command}
use Rattle.sig_types.specs.declared.numbers.Command.TheVariants.{Interstage, SgGreen, SgRed, ClearFronts, ClearRears, SetCycle}
use Rattle.sig_types.specs.declared.numbers.StagePlace.{StagePlace}
use Rattle.sig_types.specs.declared.numbers.StagePlace.TheVariants.{NoPlan, Stage, Inter}
use Rattle.pua_model.specs.Plan.{HasStage, IsInterstageOf, IsPlan, PlanOf, interstage_at, interstage_between, joins, length_at, no_interstage}
use Rattle.stage_machine.specs.Orders.{Order, length_of, over, place_at, refused_order, refused_without, stage}
use Rattle.controller.specs.Second.{order_by, orders_after, orders_with}
use Rattle.report_seen.specs.WrittenLogs.{IsPlace, IsStage}

-- each order is of an interstage of the plan
abbrev pub AreOfPlan : PlanOf → List Order → Type 0
AreOfPlan plan [] = Unit {0}
AreOfPlan plan (o ∷ os) = ((i : ℕ) × (interstage_between plan o.from o.to ≡ Some i)) × AreOfPlan plan os

-- ---- the orders after commands

found : (o : Option ℕ) → refused_without o ≡ None → (i : ℕ) × (o ≡ Some i)
found None is = cc
found (Some i) is = (i, refl)

-- an obeyed command has an interstage
obeyed : (plan : PlanOf) (place : StagePlace) (a b : ℕ) → refused_order plan place a b ≡ None → (i : ℕ) × (interstage_between plan a b ≡ Some i)
obeyed plan NoPlan a b is = cc
obeyed plan (Inter from to t) a b is = cc
obeyed plan (Stage s) a b is = go (s.0 == a) is
  where
    go : (here : Bool) → (if here then refused_without (interstage_between plan a b) else Some Rule.WrongStage) ≡ None →
        (i : ℕ) × (interstage_between plan a b ≡ Some i)
    go true is = found (interstage_between plan a b) is
    go false is = cc

order_kept : (plan : PlanOf) (k : ℕ) (orders : List Order) (c : Command) → AreOfPlan plan orders → AreOfPlan plan (order_by plan k orders c)
order_kept plan k orders (Interstage a b) are = go (refused_order plan (place_at plan orders k) a.0 b.0) refl
  where
    go : (o : Option Rule) → refused_order plan (place_at plan orders k) a.0 b.0 ≡ o → AreOfPlan plan (orders_with k a.0 b.0 orders o)
    go None is = (obeyed plan (place_at plan orders k) a.0 b.0 is, are)
    go (Some rule) is = are
order_kept plan k orders (SgGreen g) are = are
order_kept plan k orders (SgRed g) are = are
order_kept plan k orders (ClearFronts d) are = are
order_kept plan k orders (ClearRears d) are = are
order_kept plan k orders (SetCycle n) are = are

pub orders_kept : (plan : PlanOf) (k : ℕ) (orders : List Order) (cs : List Command) → AreOfPlan plan orders →
    AreOfPlan plan (orders_after plan k orders cs)
orders_kept plan k orders [] are = are
orders_kept plan k orders (c ∷ cs) are = orders_kept plan k (order_by plan k orders c) cs (order_kept plan k orders c are)

-- ---- the place

module _ (plan : PlanOf) (is : IsPlan plan) where
  pub low_stage : (s : ℕ) → HasStage plan s → IsStage (stage s)
  low_stage s has = (has.0, omega (arith, has.1, is.stages_at_most))

  -- the interstage of an order: its stages are of the plan, and it takes at most 126 seconds
  record HasInterstage (o : Order) : Type 0 where
    from : HasStage plan o.from
    to : HasStage plan o.to
    short : length_of plan o ≤ 126

  has_interstage : (o : Order) (i : ℕ) → interstage_between plan o.from o.to ≡ Some i → HasInterstage o
  has_interstage o i between =
      let at = position-Some (joins o.from o.to) plan.interstages i no_interstage between in
      let this : IsInterstageOf plan (interstage_at plan i) = is.interstages i at.0 in
      let ends = and_parts _ _ at.1 in
      let from : (interstage_at plan i).from ≡ o.from = eqb-true _ _ ends.0 in
      let to : (interstage_at plan i).to ≡ o.to = eqb-true _ _ ends.1 in
      let size : length_of plan o ≡ (interstage_at plan i).length = ap (λ w. unwrap_or (length_at plan w) 0) between in
      record { from = subst (HasStage plan) from this.from; to = subst (HasStage plan) to this.to; short = omega (arith, size, this.at_most) }

  pub place_is : (orders : List Order) (k : ℕ) → AreOfPlan plan orders → IsPlace (place_at plan orders k)
  unfolding place_at
  place_is [] k are = low_stage plan.start is.start
  place_is (o ∷ os) k are = go (nat_lt k (over plan o)) refl
    where
      has : HasInterstage o
      has = has_interstage o are.0.0 are.0.1

      go : (runs : Bool) → nat_lt k (over plan o) ≡ runs →
          IsPlace (if runs then Inter (stage o.from) (stage o.to) (k - o.second) else Stage (stage o.to))
      go true test = (low_stage o.from has.from, low_stage o.to has.to, omega (arith, ltb-true k (over plan o) test, has.short))
      go false test = low_stage o.to has.to
