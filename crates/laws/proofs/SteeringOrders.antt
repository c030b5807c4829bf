-- The orders of a second whose pass steers.
use Rattle.std.proofs.Common.{◌≡◌, ℕ, suc, ◌+◌, ◌-◌, ◌≤◌, ◌==◌, Bool, true, false, Option, Some, None, refl, arith, sym, inl, inr, ap, ◌∙◌, List, [], ◌∷◌, if◌then◌else◌, unwrap_or, eqb-true}
use Rattle.std.proofs.lemmas.Bool.{cases_eq, cases_lt, lt-ltb, le-ltb}
use Rattle.std.specs.Option.{option_or}
use Rattle.sig_types.specs.declared.numbers.Command.{Command}
use Rattle.sig_types.specs.declared.numbers.Command.TheVariants.{Interstage, SgGreen, SgRed, ClearFronts, ClearRears, SetCycle}
use Rattle.sig_types.specs.declared.numbers.StagePlace.{StagePlace}
use Rattle.sig_types.specs.declared.numbers.StagePlace.TheVariants.{Stage, Inter}
use Rattle.sig_types.specs.declared.numbers.StageNo.{StageNo}
use Rattle.sig_types.specs.declared.aspect.Rule.TheVariants.{WrongStage}
use Rattle.pua_model.specs.Plan.{PlanOf, interstage_between, length_at, length_between}
use Rattle.stage_machine.specs.Orders.{Order, stage, place_at, over, refused_without, refused_order}
use Rattle.controller.specs.Second.{orders_with, orders_after, last_direct}
use Rattle.laws.specs.Ways.{IsWay, heading, left, first_from, Steers}

-- while an interstage runs each stage command is refused
pub running_keeps : (plan : PlanOf) (k : ℕ) (orders : List Order) (cs : List Command) (from to : StageNo) (t : ℕ) → place_at plan orders k ≡ Inter from to t →
    orders_after plan k orders cs ≡ orders
running_keeps plan k orders [] from to t is = refl
running_keeps plan k orders (Interstage a b ∷ cs) from to t is =
    ap (λ (p : StagePlace). orders_after plan k (orders_with k a.0 b.0 orders (refused_order plan p a.0 b.0)) cs) is ∙ running_keeps plan k orders cs from to t is
running_keeps plan k orders (SgGreen g ∷ cs) from to t is = running_keeps plan k orders cs from to t is
running_keeps plan k orders (SgRed g ∷ cs) from to t is = running_keeps plan k orders cs from to t is
running_keeps plan k orders (ClearFronts d ∷ cs) from to t is = running_keeps plan k orders cs from to t is
running_keeps plan k orders (ClearRears d ∷ cs) from to t is = running_keeps plan k orders cs from to t is
running_keeps plan k orders (SetCycle n ∷ cs) from to t is = running_keeps plan k orders cs from to t is

-- a command from another stage than the active one is refused
wrong_stage : (plan : PlanOf) (k a x y : ℕ) (orders : List Order) → place_at plan orders k ≡ Stage (stage a) → (a == x) ≡ false →
    orders_with k x y orders (refused_order plan (place_at plan orders k) x y) ≡ orders
wrong_stage plan k a x y orders is other =
    ap (λ (p : StagePlace). orders_with k x y orders (refused_order plan p x y)) is
    ∙ ap (λ (b : Bool). orders_with k x y orders (if b then refused_without (interstage_between plan x y) else Some WrongStage)) other

-- and one from the active stage is obeyed, where the plan has its interstage
right_stage : (plan : PlanOf) (k a x y i : ℕ) (orders : List Order) → place_at plan orders k ≡ Stage (stage a) → (a == x) ≡ true → interstage_between plan x y ≡ Some i →
    orders_with k x y orders (refused_order plan (place_at plan orders k) x y) ≡ record { second = k; from = x; to = y } ∷ orders
right_stage plan k a x y i orders is same pair =
    ap (λ (p : StagePlace). orders_with k x y orders (refused_order plan p x y)) is
    ∙ ap (λ (b : Bool). orders_with k x y orders (if b then refused_without (interstage_between plan x y) else Some WrongStage)) same
    ∙ ap (λ (o : Option ℕ). orders_with k x y orders (refused_without o)) pair

-- without a command from the active stage nothing changes
pub none_keeps : (plan : PlanOf) (k a : ℕ) (orders : List Order) (cs : List Command) → place_at plan orders k ≡ Stage (stage a) → first_from a cs ≡ None →
    orders_after plan k orders cs ≡ orders
none_keeps plan k a orders [] is none = refl
none_keeps plan k a orders (Interstage x y ∷ cs) is none = go (a == x.0) refl none (λ rest. none_keeps plan k a orders cs is rest)
  where
    go : (b : Bool) → (a == x.0) ≡ b → option_or (if b then Some y.0 else None) (first_from a cs) ≡ None →
        (first_from a cs ≡ None → orders_after plan k orders cs ≡ orders) → orders_after plan k orders (Interstage x y ∷ cs) ≡ orders
    go true same none' later = absurd (cc)
    go false other none' later = ap (λ os. orders_after plan k os cs) (wrong_stage plan k a x.0 y.0 orders is other) ∙ later none'
none_keeps plan k a orders (SgGreen g ∷ cs) is none = none_keeps plan k a orders cs is none
none_keeps plan k a orders (SgRed g ∷ cs) is none = none_keeps plan k a orders cs is none
none_keeps plan k a orders (ClearFronts d ∷ cs) is none = none_keeps plan k a orders cs is none
none_keeps plan k a orders (ClearRears d ∷ cs) is none = none_keeps plan k a orders cs is none
none_keeps plan k a orders (SetCycle n ∷ cs) is none = none_keeps plan k a orders cs is none

-- an interstage of n seconds
found_between : (plan : PlanOf) (a b n : ℕ) → length_between plan a b ≡ Some n → (i : ℕ) × (interstage_between plan a b ≡ Some i)
found_between plan a b n is = go (interstage_between plan a b) refl is
  where
    go : (o : Option ℕ) → interstage_between plan a b ≡ o → length_at plan o ≡ Some n → (i : ℕ) × (interstage_between plan a b ≡ Some i)
    go None e h = absurd (cc)
    go (Some i) e h = (i, e)

abbrev order_of : ℕ → ℕ → ℕ → Order
order_of k a b = record { second = k; from = a; to = b }

over_is : (plan : PlanOf) (k a b n : ℕ) → length_between plan a b ≡ Some n → over plan (order_of k a b) ≡ k + n
over_is plan k a b n is = ap (λ (o : Option ℕ). k + unwrap_or o 0) is

begins : (plan : PlanOf) (k a b n : ℕ) (orders : List Order) → length_between plan a b ≡ Some n → 1 ≤ n →
    place_at plan (order_of k a b ∷ orders) k ≡ Inter (stage a) (stage b) (k - k)
unfolding place_at
begins plan k a b n orders is least =
    ap (λ (c : Bool). if c then Inter (stage a) (stage b) (k - k) else Stage (stage b))
    (lt-ltb k (over plan (order_of k a b)) (omega (arith, over_is plan k a b n is)))

-- the first command from the active stage is obeyed, and no later one
pub first_is_obeyed : (plan : PlanOf) (k a b n : ℕ) (orders : List Order) (cs : List Command) → place_at plan orders k ≡ Stage (stage a) →
    first_from a cs ≡ Some b → length_between plan a b ≡ Some n → 1 ≤ n → orders_after plan k orders cs ≡ order_of k a b ∷ orders
first_is_obeyed plan k a b n orders [] is first pair least = absurd (cc)
first_is_obeyed plan k a b n orders (Interstage x y ∷ cs) is first pair least =
    go (a == x.0) refl first (λ rest. first_is_obeyed plan k a b n orders cs is rest pair least)
  where
    go : (c : Bool) → (a == x.0) ≡ c → option_or (if c then Some y.0 else None) (first_from a cs) ≡ Some b →
        (first_from a cs ≡ Some b → orders_after plan k orders cs ≡ order_of k a b ∷ orders) → orders_after plan k orders (Interstage x y ∷ cs) ≡ order_of k a b ∷ orders
    go true same first' later =
        let to : y.0 ≡ b = (cc) in
        let from : a ≡ x.0 = eqb-true a x.0 same in
        let pair' : length_between plan x.0 y.0 ≡ Some n = rw (sym from, to) pair in
        let found = found_between plan x.0 y.0 n pair' in
        ap (λ os. orders_after plan k os cs) (right_stage plan k a x.0 y.0 found.0 orders is same found.1)
        ∙ running_keeps plan k (order_of k x.0 y.0 ∷ orders) cs (stage x.0) (stage y.0) (k - k) (begins plan k x.0 y.0 n orders pair' least)
        ∙ (rw (sym from, to) refl)
    go false other first' later = ap (λ os. orders_after plan k os cs) (wrong_stage plan k a x.0 y.0 orders is other) ∙ later first'
first_is_obeyed plan k a b n orders (SgGreen g ∷ cs) is first pair least = first_is_obeyed plan k a b n orders cs is first pair least
first_is_obeyed plan k a b n orders (SgRed g ∷ cs) is first pair least = first_is_obeyed plan k a b n orders cs is first pair least
first_is_obeyed plan k a b n orders (ClearFronts d ∷ cs) is first pair least = first_is_obeyed plan k a b n orders cs is first pair least
first_is_obeyed plan k a b n orders (ClearRears d ∷ cs) is first pair least = first_is_obeyed plan k a b n orders cs is first pair least
first_is_obeyed plan k a b n orders (SetCycle m ∷ cs) is first pair least = first_is_obeyed plan k a b n orders cs is first pair least

-- where a list of orders stands: in a stage that is left by `seconds`, or in an interstage that runs
pub data Stands (plan : PlanOf) (seconds : ℕ → ℕ) (orders : List Order) (k : ℕ) : Type 0 where
  in_stage : (a : ℕ) → place_at plan orders k ≡ Stage (stage a) → heading plan orders ≡ a → left plan seconds orders k ≡ seconds a → Stands plan seconds orders k
  in_inter : (from to : StageNo) (t : ℕ) → place_at plan orders k ≡ Inter from to t → 1 ≤ left plan seconds orders k →
      suc (left plan seconds orders (suc k)) ≡ left plan seconds orders k → Stands plan seconds orders k

pub stands : (plan : PlanOf) (seconds : ℕ → ℕ) (orders : List Order) (k : ℕ) → Stands plan seconds orders k
unfolding place_at
stands plan seconds [] k = in_stage plan.start refl refl refl
stands plan seconds (o ∷ os) k = elim (cases_lt k (over plan o)) [
  | inl runs ↦ in_inter (stage o.from) (stage o.to) (k - o.second)
      (ap (λ (c : Bool). if c then Inter (stage o.from) (stage o.to) (k - o.second) else Stage (stage o.to)) (lt-ltb k (over plan o) runs))
      (omega arith) (omega arith)
  | inr done ↦ in_stage o.to
      (ap (λ (c : Bool). if c then Inter (stage o.from) (stage o.to) (k - o.second) else Stage (stage o.to)) (le-ltb k (over plan o) done))
      refl (omega arith)
]

-- one second of a pass that steers: what is left is a second less, and the goal is not left
pub record Nearer (plan : PlanOf) (goal : ℕ) (on : ℕ → Bool) (seconds : ℕ → ℕ) (orders after : List Order) (k : ℕ) : Type 0 where
  pub less : left plan seconds after (suc k) ≡ left plan seconds orders k - 1
  pub heads : on (heading plan after) ≡ true

-- the pass is one that steers, in a place
steers_at : (on : ℕ → Bool) (goal : ℕ) (next : ℕ → ℕ) (cs : List Command) (p q : StagePlace) → p ≡ q → Steers on goal next p cs → Steers on goal next q cs
steers_at on goal next cs p q is steers = rw (sym is) steers

pub nearer : (plan : PlanOf) (goal : ℕ) (on : ℕ → Bool) (next seconds : ℕ → ℕ) (orders : List Order) (k : ℕ) (cs : List Command) →
    IsWay plan goal on next seconds → on (heading plan orders) ≡ true → Steers on goal next (place_at plan orders k) cs →
    Nearer plan goal on seconds orders (orders_after plan k orders cs) k
nearer plan goal on next seconds orders k cs way heads steers = go (stands plan seconds orders k)
  where
    go : Stands plan seconds orders k → Nearer plan goal on seconds orders (orders_after plan k orders cs) k
    go (in_inter from to t is least less) =
        let same = running_keeps plan k orders cs from to t is in
        record {
          less = ap (λ os. left plan seconds os (suc k)) same ∙ omega (arith, less, least);
          heads = ap (λ os. on (heading plan os)) same ∙ heads;
        }
    go (in_stage a is head rest) =
        let at_stage = steers_at on goal next cs (place_at plan orders k) (Stage (stage a)) is steers in
        elim (cases_eq a goal) [
          | inl there ↦ (
              let none : first_from a cs ≡ None = rw there (at_stage.1 there).0 in
              let same = none_keeps plan k a orders cs is none in
              record {
                less = ap (λ os. left plan seconds os (suc k)) same ∙ stays a there is head rest;
                heads = ap (λ os. on (heading plan os)) same ∙ heads;
              })
          | inr away ↦ (
              let way_on = way.leads a (rw (sym head) heads) away in
              let same = first_is_obeyed plan k a (next a) way_on.0 orders cs is (at_stage.0 (rw (sym head) heads) away) way_on.1.0 way_on.1.1 in
              record {
                less = ap (λ os. left plan seconds os (suc k)) same ∙ omega (arith, over_is plan k a (next a) way_on.0 way_on.1.0, way_on.1.1, way_on.1.2, rest);
                heads = ap (λ os. on (heading plan os)) same ∙ way_on.1.3;
              })
        ]
      where
        -- in the goal nothing is left
        stays : (a : ℕ) → a ≡ goal → place_at plan orders k ≡ Stage (stage a) → heading plan orders ≡ a → left plan seconds orders k ≡ seconds a →
            left plan seconds orders (suc k) ≡ left plan seconds orders k - 1
        stays a there is head rest = later orders (rest ∙ ap seconds there ∙ way.there)
          where
            later : (os : List Order) → left plan seconds os k ≡ 0 → left plan seconds os (suc k) ≡ left plan seconds os k - 1
            later [] none = omega (arith, none)
            later (o ∷ os) none = omega (arith, none)

-- where nothing is left the goal is the place
pub at_goal : (plan : PlanOf) (goal : ℕ) (on : ℕ → Bool) (next seconds : ℕ → ℕ) (orders : List Order) (k : ℕ) → IsWay plan goal on next seconds →
    on (heading plan orders) ≡ true → left plan seconds orders k ≡ 0 → place_at plan orders k ≡ Stage (stage goal)
at_goal plan goal on next seconds orders k way heads none = go (stands plan seconds orders k)
  where
    go : Stands plan seconds orders k → place_at plan orders k ≡ Stage (stage goal)
    go (in_inter from to t is least less) = absurd (omega (arith, least, none))
    go (in_stage a is head rest) = elim (cases_eq a goal) [
      | inl there ↦ is ∙ ap (λ (s : ℕ). Stage (stage s)) there
      | inr away ↦ absurd (let way_on = way.leads a (rw (sym head) heads) away in omega (arith, way_on.1.1, way_on.1.2, rest, none))
    ]

-- and it stays the place after the commands of a pass that steers
pub stays_at_goal : (plan : PlanOf) (on : ℕ → Bool) (goal : ℕ) (next : ℕ → ℕ) (orders : List Order) (k : ℕ) (cs : List Command) → place_at plan orders k ≡ Stage (stage goal) →
    Steers on goal next (place_at plan orders k) cs → (orders_after plan k orders cs ≡ orders) × ((g : ℕ) → last_direct g cs ≡ None)
stays_at_goal plan on goal next orders k cs is steers =
    let at_stage = (steers_at on goal next cs (place_at plan orders k) (Stage (stage goal)) is steers).1 refl in
    (none_keeps plan k goal orders cs is at_stage.0, at_stage.1)
