-- A second that was told, and what is known behind it.
use Rattle.std.proofs.Common.{◌≡◌, ◌∙◌, ℕ, ◌+◌, ◌-◌, Bool, List, [], ◌∷◌, ◌++◌, Option, Some, None, Result, Ok, Err, refl, sym, ap, subst, length, length-append}
use Rattle.std.specs.Prelude.{MatchResult}
use Rattle.sig_types.specs.declared.aspect.Rule.{Rule}
use Rattle.sig_types.specs.declared.numbers.Command.{Command}
use Rattle.sig_types.specs.declared.numbers.Command.TheVariants.{Interstage, SgGreen, SgRed, ClearFronts, ClearRears, SetCycle}
use Rattle.sig_types.specs.declared.numbers.StageNo.{StageNo}
use Rattle.sig_types.specs.Counts.{Counts}
use Rattle.sig_types.specs.Pass.{Logic}
use Rattle.pua_model.specs.Plan.{PlanOf, IsPlan}
use Rattle.sig_types.specs.declared.record.Record.{Record}
use Rattle.stage_machine.specs.declared.state.StageState.{StageState}
use Rattle.stage_machine.specs.Orders.{Order, Until, place_at, refused_order, since_at}
use Rattle.stage_machine.specs.Stands.{StandsFor as StagesStand}
use Rattle.vap_code.specs.Codes.{CodeOf}
use Rattle.vap_code.specs.Machine.{machine}
use Rattle.controller.specs.declared.controller.Controller.{Controller}
use Rattle.controller.specs.Controls.{StandsFor, code_of, logic_of, plan_of, site_of}
use Rattle.controller.specs.Past.{Site, Past, next_second}
use Rattle.controller.specs.Second.{orders_of, past_after, past_of, pass_of, place_after, record_after, record_of}
use Rattle.controller.proofs.Runs.{past_of-more}
use Rattle.trace_told.specs.declared.end_rows.Ends.{Ends}
use Rattle.trace_told.specs.Ended.{Given, ending_in}
use Rattle.trace_told.specs.EndLines.{begun_in}
use Rattle.trace_told.specs.EndsKnown.{AreStages, KnowsStages}
use Rattle.trace_told.specs.EndLaws.{with_ending, with_order}
use Rattle.trace_told.specs.EndRows.{end_told, row_by, row_of, row_text}
use Rattle.trace_told.proofs.EndsBegan.{between, stages_of}
use Rattle.trace_told.proofs.EndsTold.{IsEnding, begun_is, ending_is, endings_are_orders}

-- in a second that begins after a past
pub record Begins (c : Controller) (ends : Ends) (past : Past) : Type 0 where
  pub plan_is : IsPlan (site_of c).plan
  pub stand : StagesStand ends.stages (site_of c).plan past.orders (length past.frames)
  pub until : Until (site_of c).plan past.orders (length past.frames)
  pub number : next_second past ≡ length past.frames + 1

-- no order is of a later second
until_of : (state : StageState) (plan : PlanOf) (orders : List Order) (k : ℕ) → StagesStand state plan orders k → Until plan orders k
unfolding StagesStand
until_of state plan orders k s = s.until

numbered : (c : Controller) (past : Past) → StandsFor c past → next_second past ≡ length past.frames + 1
unfolding StandsFor
numbered c past s = s.seconds

-- a controller has made so many seconds
pub same_seconds : (c : Controller) (p q : Past) → StandsFor c p → StandsFor c q → length p.frames ≡ length q.frames
unfolding StandsFor
same_seconds c p q s t = sym s.began ∙ t.began

-- the plan of a controller is that of its site
pub same_plan : (c : Controller) → plan_of c ≡ (site_of c).plan
unfolding site_of plan_of
same_plan c = refl

-- and its logic that of its code
pub same_logic : (c : Controller) → logic_of c ≡ machine (code_of c)
unfolding logic_of code_of
same_logic c = refl

module _ (c : Controller) (ends : Ends) (first : Past) (frames : List Counts) where
  pub begins : StandsFor c (past_of (logic_of c) (site_of c) first frames) → KnowsStages ends (code_of c) (site_of c) first frames →
      Begins c ends (past_of (logic_of c) (site_of c) first frames)
  begins stands knows =
      let known : AreStages ends (site_of c).plan (past_of (logic_of c) (site_of c) first frames).orders (length (past_of (logic_of c) (site_of c) first frames).frames)
      = subst (λ (l : Logic). AreStages ends (site_of c).plan (past_of l (site_of c) first frames).orders (length (past_of l (site_of c) first frames).frames)) (sym (same_logic c)) knows in
      record { plan_is = known.plan_is; stand = known.stand; until = until_of ends.stages (site_of c).plan _ _ known.stand; number = numbered c _ stands }

module _ (c : Controller) (ends : Ends) (past : Past) (frame : Counts) (r : Record) (b : Begins c ends past) (is : r ≡ record_of (logic_of c) (site_of c) past frame) where
  -- the record's second
  pub second_is : r.second.0 ≡ next_second past
  unfolding record_after
  second_is = ap (λ (r : Record). r.second.0) is

  place_is : r.place ≡ place_after (site_of c) past (pass_of (machine (code_of c)) (site_of c) past frame)
  unfolding record_after
  place_is =
      ap (λ (r : Record). r.place) is
      ∙ ap (λ (l : Logic). place_after (site_of c) past (pass_of l (site_of c) past frame)) (same_logic c)

  -- the command that ended a stage, where the record shows that one did
  pub ended : (from to : StageNo) → begun_in r.place ≡ Some (from, to) → IsEnding (code_of c) (site_of c) past frame from to
  ended from to shown =
      ending_is (code_of c) (site_of c) past frame b.plan_is (length past.frames) b.until b.number from to (ap begun_in (sym place_is) ∙ shown)

  -- and none, where it doesn't
  pub not_ended : begun_in r.place ≡ None → None ≡ stages_of (ending_in (code_of c) (site_of c) past frame)
  not_ended shown =
      sym shown ∙ ap begun_in place_is ∙ begun_is (code_of c) (site_of c) past frame b.plan_is (length past.frames) b.until b.number

-- the row of the command that ended a stage
pub row_told : (csv : Bool) (code : CodeOf) (site : Site) (past : Past) (frame : Counts) (from to : StageNo) (second since line : ℕ) →
    (e : IsEnding code site past frame from to) → second ≡ next_second past → since ≡ since_at site.plan past.orders (next_second past) →
    line ≡ e.given.line → row_text csv second from.0 (second - since) to.0 line ≡ end_told csv code site past frame
row_told csv code site past frame from to second since line e now is at =
    (λ j. row_by csv (now j) (is j) (at j) (sym e.command j))
    ∙ ap (row_of csv (next_second past) (since_at site.plan past.orders (next_second past))) (sym e.ends)

-- no row, where no stage ended
pub none_told : (csv : Bool) (second since : ℕ) (ends : Option Given) → None ≡ stages_of ends → [] ≡ row_of csv second since ends
none_told csv second since None is = refl
none_told csv second since (Some g) is = go g.command is
  where
    go : (c : Command) → None ≡ between c → [] ≡ row_by csv second since g.line c
    go (Interstage a b) is = absurd (let no : ⊥ = cc in no)
    go (SgGreen n) is = refl
    go (SgRed n) is = refl
    go (ClearFronts d) is = refl
    go (ClearRears d) is = refl
    go (SetCycle n) is = refl

-- no order, where no stage ended
pub none_ordered : (k : ℕ) (orders : List Order) (ends : Option Given) → None ≡ stages_of ends → with_ending k orders ends ≡ orders
none_ordered k orders None is = refl
none_ordered k orders (Some g) is = go g.command is
  where
    go : (c : Command) → None ≡ between c → with_order k orders c ≡ orders
    go (Interstage a b) is = absurd (let no : ⊥ = cc in no)
    go (SgGreen n) is = refl
    go (SgRed n) is = refl
    go (ClearFronts d) is = refl
    go (ClearRears d) is = refl
    go (SetCycle n) is = refl

-- an order that no rule refuses was obeyed
obeyed_stands : (state : StageState) (plan : PlanOf) (orders : List Order) (o : Order) (k : ℕ) (refused : Option Rule) (r : Result (Unit {0}) Rule) →
    MatchResult r (λ _. (refused ≡ None) × StagesStand state plan (o ∷ orders) k) (λ rule. (refused ≡ Some rule) × StagesStand state plan orders k) →
    refused ≡ None → StagesStand state plan (o ∷ orders) k
obeyed_stands state plan orders o k refused (Ok x) is none = is.1
obeyed_stands state plan orders o k refused (Err rule) is none = absurd (let e : refused ≡ Some rule = is.0 in let no : ⊥ = cc in no)

-- what the stages answer to a command from stage a to stage b in second k
abbrev pub Answered : PlanOf → List Order → ℕ → (a b : ℕ) → StageState → Result (Unit {0}) Rule → Type 0
Answered plan orders k a b state r =
    MatchResult r
    (λ _. (refused_order plan (place_at plan orders k) a b ≡ None) × StagesStand state plan (record { second = k; from = a; to = b } ∷ orders) k)
    (λ rule. (refused_order plan (place_at plan orders k) a b ≡ Some rule) × StagesStand state plan orders k)

module _ (c : Controller) (ends : Ends) (past : Past) (frame : Counts) (b : Begins c ends past) where
  abbrev plan : PlanOf
  plan = (site_of c).plan

  abbrev orders_now : List Order
  orders_now = orders_of (site_of c) past (pass_of (machine (code_of c)) (site_of c) past frame)

  -- the stages, where a command ended one and was obeyed
  pub stand_ended : (from to : StageNo) (state : StageState) (r : Result (Unit {0}) Rule) → IsEnding (code_of c) (site_of c) past frame from to →
      Answered plan past.orders (length past.frames + 1) from.0 to.0 state r → StagesStand state plan orders_now (length past.frames + 1)
  stand_ended from to state r e is =
      let k : ℕ = length past.frames + 1 in
      let o : Order = record { second = k; from = from.0; to = to.0 } in
      let none : refused_order plan (place_at plan past.orders k) from.0 to.0 ≡ None =
      subst (λ (n : ℕ). refused_order plan (place_at plan past.orders n) from.0 to.0 ≡ None) b.number e.obeyed in
      let are : orders_now ≡ o ∷ past.orders =
      endings_are_orders (code_of c) (site_of c) past frame b.plan_is
      ∙ ap (with_ending (next_second past) past.orders) e.ends
      ∙ (λ j. with_order (b.number j) past.orders (e.command j)) in
      subst (λ (os : List Order). StagesStand state plan os k) (sym are)
      (obeyed_stands state plan past.orders o k (refused_order plan (place_at plan past.orders k) from.0 to.0) r is none)

  -- and where none ended
  pub stand_on : (state : StageState) → None ≡ stages_of (ending_in (code_of c) (site_of c) past frame) → StagesStand state plan past.orders (length past.frames + 1) →
      StagesStand state plan orders_now (length past.frames + 1)
  stand_on state none stand =
      subst (λ (os : List Order). StagesStand state plan os (length past.frames + 1))
      (sym (endings_are_orders (code_of c) (site_of c) past frame b.plan_is ∙ none_ordered (next_second past) past.orders _ none)) stand

-- what is known behind a second
pub known_after : (c : Controller) (ends now : Ends) (first : Past) (frames : List Counts) (frame : Counts) →
    KnowsStages ends (code_of c) (site_of c) first frames →
    StagesStand now.stages (site_of c).plan (orders_of (site_of c) (past_of (logic_of c) (site_of c) first frames)
    (pass_of (machine (code_of c)) (site_of c) (past_of (logic_of c) (site_of c) first frames) frame)) (length (past_of (logic_of c) (site_of c) first frames).frames + 1) →
    KnowsStages now (code_of c) (site_of c) first (frames ++ frame ∷ [])
unfolding past_after
known_after c ends now first frames frame knows stand =
    let code = code_of c in
    let site = site_of c in
    let past = past_of (machine code) site first frames in
    let here : StagesStand now.stages site.plan (orders_of site past (pass_of (machine code) site past frame)) (length past.frames + 1)
    = subst (λ (l : Logic). StagesStand now.stages site.plan (orders_of site (past_of l site first frames)
    (pass_of (machine code) site (past_of l site first frames) frame)) (length (past_of l site first frames).frames + 1)) (same_logic c) stand in
    subst (λ (p : Past). AreStages now site.plan p.orders (length p.frames)) (sym (past_of-more (machine code) site first frames frame))
    (record {
      plan_is = knows.plan_is;
      stand = subst (λ (n : ℕ). StagesStand now.stages site.plan (orders_of site past (pass_of (machine code) site past frame)) n)
          (sym (length-append past.frames (frame ∷ []))) here;
    })
