-- The line of the command that ends a stage is that of the first command between its stages.
use Rattle.std.proofs.Common.{◌≡◌, ◌∙◌, ℕ, ◌≤◌, Bool, true, false, List, [], ◌∷◌, ◌++◌, ◌&&◌, ◌==◌, inl, inr, Option, Some, None, ℤ, refl, sym, ap, arith, length, nat_le, if◌then◌else◌}
use Rattle.std.specs.Prelude.{pos, negsuc}
use Rattle.std.proofs.lemmas.Bool.{eqb-true, eq-eqb, le-leb}
use Rattle.std.proofs.lemmas.Bool.Decides.{eqb_tells}
use Rattle.sig_types.specs.declared.kinds.CommandKind.{CommandKind}
use Rattle.sig_types.specs.declared.kinds.CommandKind.TheVariants as kind
use Rattle.sig_types.specs.declared.numbers.Command.{Command}
use Rattle.sig_types.specs.declared.numbers.Command.TheVariants.{Interstage, SgGreen, SgRed, ClearFronts, ClearRears, SetCycle}
use Rattle.sig_types.specs.declared.numbers.StageNo.{StageNo}
use Rattle.sig_types.specs.declared.numbers.StagePlace.{StagePlace}
use Rattle.sig_types.specs.Pass.{World}
use Rattle.pua_model.specs.Plan.{PlanOf, HasStage, group_of, stage_of}
use Rattle.sig_types.specs.Detectors.{detector_of}
use Rattle.vap_code.specs.declared.Instr.{Instr}
use Rattle.vap_code.specs.declared.Instr.TheVariants.{Do}
use Rattle.vap_code.specs.Sights.{Sight}
use Rattle.controller.specs.Cycles.{by_length}
use Rattle.controller.specs.World.{by_group, by_stages, command_in}
use Rattle.trace_told.specs.Ended.{Given, ending, given_by, given_in, is_obeyed, with_line}
use Rattle.trace_told.specs.EndLines.{both, commanded, first_line, is_pair, stage_in}
use Rattle.trace_told.proofs.EndOrders.{ending_is_obeyed}

-- whether this is the command of the interstage from stage a to stage b
abbrev pub is_between : ℕ → ℕ → Command → Bool
is_between a b (Interstage m n) = m.0 == a && n.0 == b
is_between a b (SgGreen g) = false
is_between a b (SgRed g) = false
is_between a b (ClearFronts d) = false
is_between a b (ClearRears d) = false
is_between a b (SetCycle n) = false

-- the line of the first such command
abbrev pub first_given : ℕ → ℕ → List Given → Option ℕ
first_given a b [] = None
first_given a b (g ∷ gs) = if is_between a b g.command then Some g.line else first_given a b gs

and_true : (x y : Bool) → (x && y) ≡ true → (x ≡ true) × (y ≡ true)
and_true true y is = (refl, is)
and_true false y is = absurd (let no : ⊥ = cc in no)

-- equal commands of interstages are obeyed or refused alike
same_obeyed : (plan : PlanOf) (place : StagePlace) (a b : StageNo) (c : Command) → is_between a.0 b.0 c ≡ true →
    is_obeyed plan place c ≡ is_obeyed plan place (Interstage a b)
same_obeyed plan place a b (Interstage m n) is =
    let both = and_true (m.0 == a.0) (n.0 == b.0) is in
    let from : m ≡ a = ap (λ (s : ℕ). record { 0 = s }) (eqb-true m.0 a.0 both.0) in
    let to : n ≡ b = ap (λ (s : ℕ). record { 0 = s }) (eqb-true n.0 b.0 both.1) in
    λ j. is_obeyed plan place (Interstage (from j) (to j))
same_obeyed plan place a b (SgGreen g) is = absurd (let no : ⊥ = cc in no)
same_obeyed plan place a b (SgRed g) is = absurd (let no : ⊥ = cc in no)
same_obeyed plan place a b (ClearFronts d) is = absurd (let no : ⊥ = cc in no)
same_obeyed plan place a b (ClearRears d) is = absurd (let no : ⊥ = cc in no)
same_obeyed plan place a b (SetCycle n) is = absurd (let no : ⊥ = cc in no)

this_between : (a b : ℕ) → (a == a && b == b) ≡ true
this_between a b = λ j. eq-eqb a a refl j && eq-eqb b b refl j

-- the command that ends a stage is the first one between its stages
pub first_is : (plan : PlanOf) (place : StagePlace) (gs : List Given) (g : Given) (a b : StageNo) → ending plan place gs ≡ Some g →
    g.command ≡ Interstage a b → first_given a.0 b.0 gs ≡ Some g.line
first_is plan place [] g a b is commands = absurd (let no : ⊥ = cc in no)
first_is plan place (h ∷ gs) g a b is commands = go (is_obeyed plan place h.command) refl is (λ e. first_is plan place gs g a b e commands)
  where
    other : (such : Bool) → is_between a.0 b.0 h.command ≡ such → is_obeyed plan place h.command ≡ false → ending plan place gs ≡ Some g →
        first_given a.0 b.0 gs ≡ Some g.line → (if such then Some h.line else first_given a.0 b.0 gs) ≡ Some g.line
    other true such refused is rest =
        let yes : is_obeyed plan place h.command ≡ true =
        same_obeyed plan place a b h.command such ∙ ap (is_obeyed plan place) (sym commands) ∙ ending_is_obeyed plan place gs g is in
        absurd (let no : ⊥ = cc in no)
    other false such refused is rest = rest

    go : (obeyed : Bool) → is_obeyed plan place h.command ≡ obeyed → (if obeyed then Some h else ending plan place gs) ≡ Some g →
        (ending plan place gs ≡ Some g → first_given a.0 b.0 gs ≡ Some g.line) →
        (if is_between a.0 b.0 h.command then Some h.line else first_given a.0 b.0 gs) ≡ Some g.line
    go true obeyed is rest =
        let same : h ≡ g = cc in
        let such : is_between a.0 b.0 h.command ≡ true =
        ap (λ (g : Given). is_between a.0 b.0 g.command) same ∙ ap (is_between a.0 b.0) commands ∙ this_between a.0 b.0 in
        ap (λ (t : Bool). if t then Some h.line else first_given a.0 b.0 gs) such ∙ ap (λ (g : Given). Some g.line) same
    go false obeyed is rest = other (is_between a.0 b.0 h.command) refl obeyed is (rest is)

-- whether this is stage a
abbrev is_at : ℕ → Option ℕ → Bool
is_at a None = false
is_at a (Some m) = m == a

within : (a n : ℕ) → 1 ≤ a → a ≤ n → (nat_le 1 a && nat_le a n) ≡ true
within a n least most = λ j. le-leb 1 a least j && le-leb a n most j

module _ (plan : PlanOf) (few : length plan.stages ≤ 32) where
  -- a stage of the plan is named by the same numbers, whatever number of stages there may be
  same_named : (a : ℕ) (x : ℤ) → HasStage plan a → is_at a (stage_of plan x) ≡ is_at a (stage_in x)
  unfolding stage_of
  same_named a (negsuc n) has = refl
  same_named a (pos m) has = elim (eqb_tells m a) [
    | inl same ↦ here (nat_le 1 m && nat_le m (length plan.stages)) (nat_le 1 m && nat_le m 32)
        ((λ j. nat_le 1 (same.1 j) && nat_le (same.1 j) (length plan.stages)) ∙ within a (length plan.stages) has.0 has.1)
        ((λ j. nat_le 1 (same.1 j) && nat_le (same.1 j) 32) ∙ within a 32 has.0 (omega (arith, few, has.1)))
    | inr other ↦ elsewhere (nat_le 1 m && nat_le m (length plan.stages)) (nat_le 1 m && nat_le m 32) other.0
  ]
    where
      here : (t u : Bool) → t ≡ true → u ≡ true → is_at a (if t then Some m else None) ≡ is_at a (if u then Some m else None)
      here t u named also = λ j. is_at a (if (named ∙ sym also) j then Some m else None)

      elsewhere : (t u : Bool) → (m == a) ≡ false → is_at a (if t then Some m else None) ≡ is_at a (if u then Some m else None)
      elsewhere true true apart = refl
      elsewhere true false apart = apart
      elsewhere false true apart = sym apart
      elsewhere false false apart = refl

  module _ (a b : ℕ) (from : HasStage plan a) (to : HasStage plan b) (line : ℕ) (rest : List Given) where
    -- the line of a command where it is such, else that of the rest
    abbrev chosen : Bool → Option ℕ
    chosen such = if such then Some line else first_given a b rest

    by_two : (p q : Option ℕ) → first_given a b (with_line line (by_stages p q) ++ rest) ≡ chosen (is_at a p && is_at b q)
    by_two None q = refl
    by_two (Some m) None = go (m == a)
      where
        go : (t : Bool) → first_given a b rest ≡ chosen (t && false)
        go true = refl
        go false = refl
    by_two (Some m) (Some n) = refl

    both_at : (p q : Option ℕ) → (is_at a p && is_at b q) ≡ is_pair a b (both p q)
    both_at None q = refl
    both_at (Some m) None = go (m == a)
      where
        go : (t : Bool) → (t && false) ≡ false
        go true = refl
        go false = refl
    both_at (Some m) (Some n) = refl

    by_one : (f : ℕ → Command) (o : Option ℕ) → ((n : ℕ) → is_between a b (f n) ≡ false) → first_given a b (with_line line (by_group f o) ++ rest) ≡ first_given a b rest
    by_one f None other = refl
    by_one f (Some n) other = ap chosen (other n)

    by_cycle : (x : ℤ) → first_given a b (with_line line (by_length x) ++ rest) ≡ first_given a b rest
    by_cycle (negsuc n) = refl
    by_cycle (pos n) = go (nat_le n 9999)
      where
        go : (t : Bool) → first_given a b (with_line line (if t then Some (SetCycle n) else None) ++ rest) ≡ first_given a b rest
        go true = refl
        go false = refl

    -- one sight: what it gives, and the stages that it commands
    at_sight : (w : World) → w.command ≡ command_in plan → (operands : List ℤ) (i : Instr) →
        first_given a b (given_by w line operands i ++ rest) ≡ chosen (is_pair a b (commanded i operands))
    unfolding command_in
    at_sight w is [] (Do kind.Interstage) = refl
    at_sight w is (y ∷ []) (Do kind.Interstage) = refl
    at_sight w is (y ∷ x ∷ below) (Do kind.Interstage) =
        ap (λ (command : CommandKind → ℤ → ℤ → Option Command). first_given a b (with_line line (command kind.Interstage x y) ++ rest)) is
        ∙ by_two (stage_of plan x) (stage_of plan y)
        ∙ (λ j. chosen (same_named a x from j && same_named b y to j))
        ∙ ap chosen (both_at (stage_in x) (stage_in y))
    at_sight w is [] (Do kind.SgGreen) = refl
    at_sight w is (x ∷ below) (Do kind.SgGreen) =
        ap (λ (command : CommandKind → ℤ → ℤ → Option Command). first_given a b (with_line line (command kind.SgGreen x (pos 0)) ++ rest)) is
        ∙ by_one _ (group_of plan x) (λ n. refl)
    at_sight w is [] (Do kind.SgRed) = refl
    at_sight w is (x ∷ below) (Do kind.SgRed) =
        ap (λ (command : CommandKind → ℤ → ℤ → Option Command). first_given a b (with_line line (command kind.SgRed x (pos 0)) ++ rest)) is
        ∙ by_one _ (group_of plan x) (λ n. refl)
    at_sight w is [] (Do kind.ClearFronts) = refl
    at_sight w is (x ∷ below) (Do kind.ClearFronts) =
        ap (λ (command : CommandKind → ℤ → ℤ → Option Command). first_given a b (with_line line (command kind.ClearFronts x (pos 0)) ++ rest)) is
        ∙ by_one _ (detector_of x) (λ n. refl)
    at_sight w is [] (Do kind.ClearRears) = refl
    at_sight w is (x ∷ below) (Do kind.ClearRears) =
        ap (λ (command : CommandKind → ℤ → ℤ → Option Command). first_given a b (with_line line (command kind.ClearRears x (pos 0)) ++ rest)) is
        ∙ by_one _ (detector_of x) (λ n. refl)
    at_sight w is [] (Do kind.SetCycle) = refl
    at_sight w is (x ∷ below) (Do kind.SetCycle) =
        ap (λ (command : CommandKind → ℤ → ℤ → Option Command). first_given a b (with_line line (command kind.SetCycle x (pos 0)) ++ rest)) is
        ∙ by_cycle x
    at_sight w is operands i = refl

  -- the first command that is given between two stages is the first that is seen
  pub seen_first : (w : World) → w.command ≡ command_in plan → (a b : ℕ) → HasStage plan a → HasStage plan b → (sights : List Sight) →
      first_given a b (given_in w sights) ≡ first_line a b sights
  seen_first w is a b from to [] = refl
  seen_first w is a b from to (s ∷ sights) =
      at_sight a b from to s.state.line (given_in w sights) w is s.state.operands s.instr
      ∙ ap (λ (o : Option ℕ). if is_pair a b (commanded s.instr s.state.operands) then Some s.state.line else o) (seen_first w is a b from to sights)
