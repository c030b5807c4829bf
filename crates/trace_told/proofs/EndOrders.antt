-- The order of a second is that of the command that ends a stage in it.
use Rattle.std.proofs.Common.{◌≡◌, ◌∙◌, ℕ, ◌-◌, ◌≤◌, Bool, true, false, List, [], ◌∷◌, ◌==◌, Option, Some, None, refl, sym, ap, arith, map, nat_lt, unwrap_or, if◌then◌else◌}
use Rattle.std.proofs.lemmas.Bool.{lt-ltb}
use Rattle.std.proofs.lemmas.List.Quantifiers.{position-Some}
use Rattle.sig_types.specs.declared.aspect.Rule.{Rule}
use Rattle.sig_types.specs.declared.aspect.Rule.TheVariants.{WrongStage}
use Rattle.sig_types.specs.declared.numbers.Command.{Command}
use Rattle.sig_types.specs.declared.numbers.Command.TheVariants.{Interstage, SgGreen, SgRed, ClearFronts, ClearRears, SetCycle}
use Rattle.sig_types.specs.declared.numbers.StageNo.{StageNo}
use Rattle.sig_types.specs.declared.numbers.StagePlace.{StagePlace}
use Rattle.sig_types.specs.declared.numbers.StagePlace.TheVariants.{NoPlan, Stage, Inter}
use Rattle.sig_types.specs.Pass.{End, Done, Faulted, Stuck, Unfinished, commands_after}
use Rattle.pua_model.specs.Plan.{PlanOf, IsPlan, interstage_between, joins, length_at, length_between, no_interstage}
use Rattle.stage_machine.specs.Orders.{Order, length_of, over, place_at, refused_order, refused_without, stage}
use Rattle.controller.specs.Second.{order_by, orders_after, orders_with}
use Rattle.trace_told.specs.Ended.{Given, ending, ending_after, is_obeyed, none_refuses}
use Rattle.trace_told.specs.EndLaws.{HasGiven, command_of, with_ending}

-- the interstage of a pair of stages has a length
long_found : (plan : PlanOf) (o : Option ℕ) (a b : ℕ) → IsPlan plan → interstage_between plan a b ≡ o → refused_without o ≡ None →
    1 ≤ unwrap_or (length_at plan o) 0
long_found plan None a b is e obeyed = absurd (let no : ⊥ = cc in no)
long_found plan (Some i) a b is e obeyed = (is.interstages i (position-Some (joins a b) plan.interstages i no_interstage e).0).at_least

-- an interstage that is obeyed has a length
pub long : (plan : PlanOf) (place : StagePlace) (a b : ℕ) → IsPlan plan → refused_order plan place a b ≡ None → 1 ≤ unwrap_or (length_between plan a b) 0
long plan NoPlan a b is obeyed = absurd (let no : ⊥ = cc in no)
long plan (Inter from to t) a b is obeyed = absurd (let no : ⊥ = cc in no)
long plan (Stage s) a b is obeyed = go (s.0 == a) obeyed
  where
    go : (same : Bool) → (if same then refused_without (interstage_between plan a b) else Some WrongStage) ≡ None → 1 ≤ unwrap_or (length_between plan a b) 0
    go true obeyed = long_found plan (interstage_between plan a b) a b is refl obeyed
    go false obeyed = absurd (let no : ⊥ = cc in no)

module _ (plan : PlanOf) (k : ℕ) where
  -- an order that was just obeyed runs, in its first second
  pub just_begun : (o : Order) (orders : List Order) → o.second ≡ k → 1 ≤ length_of plan o → place_at plan (o ∷ orders) k ≡ Inter (stage o.from) (stage o.to) 0
  unfolding place_at
  just_begun o orders now is = go (nat_lt k (over plan o)) (lt-ltb k (over plan o) (omega arith))
    where
      go : (b : Bool) → b ≡ true →
          (if b then Inter (stage o.from) (stage o.to) (k - o.second) else Stage (stage o.to)) ≡ Inter (stage o.from) (stage o.to) 0
      go true tells = ap (λ (t : ℕ). Inter (stage o.from) (stage o.to) t) (let e : k - o.second ≡ 0 = omega arith in e)
      go false tells = absurd (let no : ⊥ = cc in no)

  -- while an interstage runs, a command is refused
  refused_now : (orders : List Order) (c : Command) (place : StagePlace) (from to : StageNo) (t : ℕ) → place_at plan orders k ≡ Inter from to t →
      order_by plan k orders c ≡ orders
  refused_now orders (Interstage a b) place from to t runs = ap (λ p. orders_with k a.0 b.0 orders (refused_order plan p a.0 b.0)) runs
  refused_now orders (SgGreen g) place from to t runs = refl
  refused_now orders (SgRed g) place from to t runs = refl
  refused_now orders (ClearFronts d) place from to t runs = refl
  refused_now orders (ClearRears d) place from to t runs = refl
  refused_now orders (SetCycle n) place from to t runs = refl

  -- and so are all
  all_refused : (orders : List Order) (cs : List Command) (from to : StageNo) (t : ℕ) → place_at plan orders k ≡ Inter from to t →
      orders_after plan k orders cs ≡ orders
  all_refused orders [] from to t runs = refl
  all_refused orders (c ∷ cs) from to t runs =
      ap (λ os. orders_after plan k os cs) (refused_now orders c (place_at plan orders k) from to t runs) ∙ all_refused orders cs from to t runs

  module _ (is : IsPlan plan) where
    -- the orders after commands
    pub obeyed : (orders : List Order) (gs : List Given) →
        orders_after plan k orders (map command_of gs) ≡ with_ending k orders (ending plan (place_at plan orders k) gs)
    obeyed orders [] = refl
    obeyed orders (g ∷ gs) = step (obeyed orders gs) g.command
      where
        asked : orders_after plan k orders (map command_of gs) ≡ with_ending k orders (ending plan (place_at plan orders k) gs) →
            (a b : StageNo) (r : Option Rule) → refused_order plan (place_at plan orders k) a.0 b.0 ≡ r →
            orders_after plan k (orders_with k a.0 b.0 orders r) (map command_of gs)
            ≡ with_ending k orders (if none_refuses r then Some (record { line = g.line; command = Interstage a b }) else ending plan (place_at plan orders k) gs)
        asked others a b None is_none =
            let o : Order = record { second = k; from = a.0; to = b.0 } in
            all_refused (o ∷ orders) (map command_of gs) (stage a.0) (stage b.0) 0
            (just_begun o orders refl (long plan (place_at plan orders k) a.0 b.0 is is_none))
        asked others a b (Some rule) is_some = others

        step : orders_after plan k orders (map command_of gs) ≡ with_ending k orders (ending plan (place_at plan orders k) gs) →
            (c : Command) → orders_after plan k (order_by plan k orders c) (map command_of gs)
            ≡ with_ending k orders (if is_obeyed plan (place_at plan orders k) c then Some (record { line = g.line; command = c }) else ending plan (place_at plan orders k) gs)
        step others (Interstage a b) = asked others a b (refused_order plan (place_at plan orders k) a.0 b.0) refl
        step others (SgGreen n) = others
        step others (SgRed n) = others
        step others (ClearFronts n) = others
        step others (ClearRears n) = others
        step others (SetCycle n) = others

    -- the orders after a pass that has given these
    pub orders_now : (orders : List Order) (how : End) (gs : List Given) → HasGiven how (map command_of gs) →
        orders_after plan k orders (commands_after how) ≡ with_ending k orders (ending_after how (ending plan (place_at plan orders k) gs))
    orders_now orders (Done s) gs given = ap (orders_after plan k orders) given ∙ obeyed orders gs
    orders_now orders (Faulted kind line) gs given = refl
    orders_now orders Stuck gs given = refl
    orders_now orders Unfinished gs given = refl

-- a command that ends a stage is obeyed
pub ending_is_obeyed : (plan : PlanOf) (place : StagePlace) (gs : List Given) (g : Given) → ending plan place gs ≡ Some g → is_obeyed plan place g.command ≡ true
ending_is_obeyed plan place [] g is = absurd (let no : ⊥ = cc in no)
ending_is_obeyed plan place (h ∷ gs) g is = go (ending_is_obeyed plan place gs g) (is_obeyed plan place h.command) refl is
  where
    go : (ending plan place gs ≡ Some g → is_obeyed plan place g.command ≡ true) → (b : Bool) → is_obeyed plan place h.command ≡ b → (if b then Some h else ending plan place gs) ≡ Some g → is_obeyed plan place g.command ≡ true
    go others true obeyed is = let same : h ≡ g = cc in ap (λ (g : Given). is_obeyed plan place g.command) (sym same) ∙ obeyed
    go others false obeyed is = others is

pub none_is : (r : Option Rule) → none_refuses r ≡ true → r ≡ None
none_is None is = refl
none_is (Some rule) is = absurd (let no : ⊥ = cc in no)
