-- What is told of a second.
use Rattle.std.proofs.Common.{◌≡◌, ◌∙◌, ℕ, ◌+◌, ◌≤◌, Bool, true, false, [], ◌∷◌, ◌++◌, Option, Some, None, refl, sym, ap, subst, arith, length, if◌then◌else◌, ◌==◌, ◌&&◌}
use Rattle.std.proofs.lemmas.Bool.{eqb-true}
use Rattle.std.proofs.lemmas.List.Quantifiers.{position-Some}
use Rattle.sig_types.specs.declared.aspect.Rule.TheVariants.{WrongStage}
use Rattle.sig_types.specs.declared.numbers.Command.{Command}
use Rattle.sig_types.specs.declared.numbers.Command.TheVariants.{Interstage, SgGreen, SgRed, ClearFronts, ClearRears, SetCycle}
use Rattle.sig_types.specs.declared.numbers.StageNo.{StageNo}
use Rattle.sig_types.specs.declared.numbers.StagePlace.{StagePlace}
use Rattle.sig_types.specs.declared.numbers.StagePlace.TheVariants.{NoPlan, Stage, Inter}
use Rattle.sig_types.specs.Counts.{Counts}
use Rattle.sig_types.specs.Pass.{End, Done, Faulted, Stuck, Unfinished, begun}
use Rattle.pua_model.specs.Plan.{PlanOf, IsPlan, HasStage, interstage_at, interstage_between, joins, no_interstage}
use Rattle.stage_machine.specs.Orders.{Until, place_at, refused_order, refused_without}
use Rattle.vap_code.specs.Codes.{CodeOf}
use Rattle.vap_code.specs.Machine.{machine}
use Rattle.controller.specs.Past.{Site, Past, next_second}
use Rattle.controller.specs.Second.{pass_of, place_after}
use Rattle.controller.specs.Seen.{sights_in}
use Rattle.controller.specs.World.{place_before, world_in}
use Rattle.trace_told.specs.Ended.{Given, ending, ending_after, ending_in, given_of, is_obeyed}
use Rattle.trace_told.specs.EndLaws.{EndingsAreOrders, with_ending}
use Rattle.trace_told.specs.EndLines.{IsNumber, begun_in, first_line}
use Rattle.trace_told.proofs.EndsBegan.{all_obeyed, begun_of, between, stages_of}
use Rattle.trace_told.proofs.EndsKept.{first_is, seen_first}
use Rattle.trace_told.proofs.EndOrders.{ending_is_obeyed, none_is, orders_now}
use Rattle.trace_told.proofs.EndsSeen.{commands_are_seen}

pub endings_are_orders : EndingsAreOrders
endings_are_orders code site past frame is =
    orders_now site.plan (next_second past) is past.orders (pass_of (machine code) site past frame) (given_of code site past frame)
    (commands_are_seen code (world_in site.plan past (past.frames ++ frame ∷ [])) (begun past.store) refl)

-- the stages of an interstage
record AreStages (plan : PlanOf) (a b : ℕ) : Type 0 where
  pub from : HasStage plan a
  pub to : HasStage plan b

found_stages : (plan : PlanOf) (o : Option ℕ) (a b : ℕ) → IsPlan plan → interstage_between plan a b ≡ o → refused_without o ≡ None → AreStages plan a b
found_stages plan None a b is e obeyed = absurd (let no : ⊥ = cc in no)
found_stages plan (Some i) a b is e obeyed =
    let found = position-Some (joins a b) plan.interstages i no_interstage e in
    let whole = is.interstages i found.0 in
    ends (interstage_at plan i).from (interstage_at plan i).to found.1 whole.from whole.to
  where
    ends : (m n : ℕ) → (m == a && n == b) ≡ true → HasStage plan m → HasStage plan n → AreStages plan a b
    ends m n joined from to = go (m == a) (n == b) refl refl joined
      where
        go : (x y : Bool) → (m == a) ≡ x → (n == b) ≡ y → (x && y) ≡ true → AreStages plan a b
        go true true x y both = record { from = subst (HasStage plan) (eqb-true m a x) from; to = subst (HasStage plan) (eqb-true n b y) to }
        go true false x y both = absurd (let no : ⊥ = cc in no)
        go false y' x y both = absurd (let no : ⊥ = cc in no)

-- an interstage that is obeyed is one of stages of the plan
obeyed_stages : (plan : PlanOf) (place : StagePlace) (a b : ℕ) → IsPlan plan → refused_order plan place a b ≡ None → AreStages plan a b
obeyed_stages plan NoPlan a b is obeyed = absurd (let no : ⊥ = cc in no)
obeyed_stages plan (Inter from to t) a b is obeyed = absurd (let no : ⊥ = cc in no)
obeyed_stages plan (Stage s) a b is obeyed = go (s.0 == a) obeyed
  where
    go : (same : Bool) → (if same then refused_without (interstage_between plan a b) else Some WrongStage) ≡ None → AreStages plan a b
    go true obeyed = found_stages plan (interstage_between plan a b) a b is refl obeyed
    go false obeyed = absurd (let no : ⊥ = cc in no)

-- a stage has a number from 1 to 32
pub number_is : (plan : PlanOf) (a : ℕ) → IsPlan plan → HasStage plan a → IsNumber a
number_is plan a is has = let most : length plan.stages ≤ 32 = is.stages_at_most in record { least = has.0; most = omega (arith, most, has.1) }

-- the command that ended a stage
pub record IsEnding (code : CodeOf) (site : Site) (past : Past) (frame : Counts) (from to : StageNo) : Type 0 where
  pub given : Given
  pub ends : ending_in code site past frame ≡ Some given
  pub command : given.command ≡ Interstage from to
  pub line : first_line from.0 to.0 (sights_in code site past frame) ≡ Some given.line
  pub from_stage : HasStage site.plan from.0
  pub to_stage : HasStage site.plan to.0
  pub obeyed : refused_order site.plan (place_before site.plan past) from.0 to.0 ≡ None

from_ending : (how : End) (ends : Option Given) (g : Given) → ending_after how ends ≡ Some g → ends ≡ Some g
from_ending (Done s) ends g is = is
from_ending (Faulted kind line) ends g is = absurd (let no : ⊥ = cc in no)
from_ending Stuck ends g is = absurd (let no : ⊥ = cc in no)
from_ending Unfinished ends g is = absurd (let no : ⊥ = cc in no)

-- a command of these stages
commands_them : (c : Command) (from to : StageNo) → between c ≡ Some (from, to) → c ≡ Interstage from to
commands_them (Interstage a b) from to is =
    let same : ◌≡◌ {A = StageNo × StageNo} (a, b) (from, to) = cc in
    λ j. Interstage ((same j).0) ((same j).1)
commands_them (SgGreen g) from to is = absurd (let no : ⊥ = cc in no)
commands_them (SgRed g) from to is = absurd (let no : ⊥ = cc in no)
commands_them (ClearFronts d) from to is = absurd (let no : ⊥ = cc in no)
commands_them (ClearRears d) from to is = absurd (let no : ⊥ = cc in no)
commands_them (SetCycle n) from to is = absurd (let no : ⊥ = cc in no)

module _ (code : CodeOf) (site : Site) (past : Past) (frame : Counts) (is : IsPlan site.plan) (k : ℕ) (until : Until site.plan past.orders k)
    (second : next_second past ≡ k + 1) where
  abbrev how : End
  how = pass_of (machine code) site past frame

  -- the interstage that is in its first second is that of the command that ended a stage
  pub begun_is : begun_in (place_after site past how) ≡ stages_of (ending_in code site past frame)
  begun_is =
      ap (λ os. begun_in (place_at site.plan os (next_second past))) (endings_are_orders code site past frame is)
      ∙ subst (λ n. begun_in (place_at site.plan (with_ending n past.orders (ending_after how (ending site.plan (place_at site.plan past.orders n) (given_of code site past frame)))) n)
      ≡ stages_of (ending_after how (ending site.plan (place_at site.plan past.orders n) (given_of code site past frame)))) (sym second)
      (begun_of site.plan is past.orders k until (ending_after how (ending site.plan (place_at site.plan past.orders (k + 1)) (given_of code site past frame)))
      (all_obeyed site.plan (place_at site.plan past.orders (k + 1)) how (given_of code site past frame)))

  -- where an interstage is in its first second
  pub ending_is : (from to : StageNo) → begun_in (place_after site past how) ≡ Some (from, to) → IsEnding code site past frame from to
  ending_is from to now = go (ending_in code site past frame) refl (sym begun_is ∙ now)
    where
      go : (ends : Option Given) → ending_in code site past frame ≡ ends → stages_of ends ≡ Some (from, to) → IsEnding code site past frame from to
      go None e stages = absurd (let no : ⊥ = cc in no)
      go (Some g) e stages =
          let command : g.command ≡ Interstage from to = commands_them g.command from to stages in
          let ends : ending site.plan (place_before site.plan past) (given_of code site past frame) ≡ Some g = from_ending how (ending site.plan (place_before site.plan past) (given_of code site past frame)) g e in
          let obeyed : is_obeyed site.plan (place_before site.plan past) (Interstage from to) ≡ true =
          ap (is_obeyed site.plan (place_before site.plan past)) (sym command) ∙ ending_is_obeyed site.plan (place_before site.plan past) (given_of code site past frame) g ends in
          let none : refused_order site.plan (place_before site.plan past) from.0 to.0 ≡ None = none_is (refused_order site.plan (place_before site.plan past) from.0 to.0) obeyed in
          let found = obeyed_stages site.plan (place_before site.plan past) from.0 to.0 is none in
          record {
            given = g;
            ends = e;
            command = command;
            line = sym (seen_first site.plan is.stages_at_most (world_in site.plan past (past.frames ++ frame ∷ [])) refl from.0 to.0 found.from found.to (sights_in code site past frame))
                ∙ first_is site.plan (place_before site.plan past) (given_of code site past frame) g from to ends command;
            from_stage = found.from;
            to_stage = found.to;
            obeyed = none;
          }
