-- The stages of the interstage that begins in a second.
use Rattle.std.proofs.Common.{◌≡◌, ℕ, suc, ◌+◌, ◌-◌, ◌≤◌, Bool, true, false, List, [], ◌∷◌, Option, Some, None, refl, ap, arith, nat_lt, if◌then◌else◌}
use Rattle.sig_types.specs.declared.numbers.Command.{Command}
use Rattle.sig_types.specs.declared.numbers.Command.TheVariants.{Interstage, SgGreen, SgRed, ClearFronts, ClearRears, SetCycle}
use Rattle.sig_types.specs.declared.numbers.StageNo.{StageNo}
use Rattle.sig_types.specs.declared.numbers.StagePlace.{StagePlace}
use Rattle.sig_types.specs.declared.numbers.StagePlace.TheVariants.{Stage, Inter}
use Rattle.sig_types.specs.Pass.{End, Done, Faulted, Stuck, Unfinished}
use Rattle.pua_model.specs.Plan.{PlanOf, IsPlan}
use Rattle.stage_machine.specs.Orders.{Order, Until, over, place_at, stage}
use Rattle.trace_told.specs.Ended.{Given, ending, ending_after, is_obeyed}
use Rattle.trace_told.specs.EndLaws.{with_ending, with_order}
use Rattle.trace_told.specs.EndLines.{begun_in}
use Rattle.trace_told.proofs.EndOrders.{ending_is_obeyed, just_begun, long, none_is}

-- the stages of a command of an interstage
abbrev pub between : Command → Option (StageNo × StageNo)
between (Interstage a b) = Some (a, b)
between (SgGreen g) = None
between (SgRed g) = None
between (ClearFronts d) = None
between (ClearRears d) = None
between (SetCycle n) = None

-- the stages of the command that ends a stage, if one does
abbrev pub stages_of : Option Given → Option (StageNo × StageNo)
stages_of None = None
stages_of (Some g) = between g.command

-- no rule refuses what ends a stage
abbrev pub Obeyed : PlanOf → StagePlace → Option Given → Type 0
Obeyed plan place None = Unit {0}
Obeyed plan place (Some g) = is_obeyed plan place g.command ≡ true

pub all_obeyed : (plan : PlanOf) (place : StagePlace) (how : End) (gs : List Given) → Obeyed plan place (ending_after how (ending plan place gs))
all_obeyed plan place (Done s) gs = go (ending plan place gs) refl
  where
    go : (ends : Option Given) → ending plan place gs ≡ ends → Obeyed plan place ends
    go None is = tt
    go (Some g) is = ending_is_obeyed plan place gs g is
all_obeyed plan place (Faulted kind line) gs = tt
all_obeyed plan place Stuck gs = tt
all_obeyed plan place Unfinished gs = tt

-- an order of a second before isn't in its first second
not_first : (plan : PlanOf) (orders : List Order) (k : ℕ) → Until plan orders k → begun_in (place_at plan orders (k + 1)) ≡ None
unfolding place_at
not_first plan [] k until = refl
not_first plan (o ∷ os) k until = go (nat_lt (k + 1) (over plan o))
  where
    go : (b : Bool) → begun_in (if b then Inter (stage o.from) (stage o.to) (k + 1 - o.second) else Stage (stage o.to)) ≡ None
    go true =
        let begun : o.second ≤ k = until.0 in
        let on : k + 1 - o.second ≡ suc (k - o.second) = omega arith in
        ap (λ (t : ℕ). begun_in (Inter (stage o.from) (stage o.to) t)) on
    go false = refl

module _ (plan : PlanOf) (is : IsPlan plan) (orders : List Order) (k : ℕ) (until : Until plan orders k) where
  begun_by : (c : Command) → is_obeyed plan (place_at plan orders (k + 1)) c ≡ true → begun_in (place_at plan (with_order (k + 1) orders c) (k + 1)) ≡ between c
  begun_by (Interstage a b) obeyed =
      let o : Order = record { second = k + 1; from = a.0; to = b.0 } in
      ap begun_in (just_begun plan (k + 1) o orders refl (long plan (place_at plan orders (k + 1)) a.0 b.0 is (none_is _ obeyed)))
  begun_by (SgGreen g) obeyed = absurd (let no : ⊥ = cc in no)
  begun_by (SgRed g) obeyed = absurd (let no : ⊥ = cc in no)
  begun_by (ClearFronts d) obeyed = absurd (let no : ⊥ = cc in no)
  begun_by (ClearRears d) obeyed = absurd (let no : ⊥ = cc in no)
  begun_by (SetCycle n) obeyed = absurd (let no : ⊥ = cc in no)

  -- the interstage that is in its first second is that of the command that ended a stage
  pub begun_of : (ends : Option Given) → Obeyed plan (place_at plan orders (k + 1)) ends →
      begun_in (place_at plan (with_ending (k + 1) orders ends) (k + 1)) ≡ stages_of ends
  begun_of None obeyed = not_first plan orders k until
  begun_of (Some g) obeyed = begun_by g.command obeyed
