-- Where a run spends its units, by what it does with fewer.
use Rattle.std.proofs.Common.{◌≡◌, ℕ, zero, suc, ◌+◌, List, [], ◌++◌, Option, Some, None, refl, sym, ap, ◌∙◌, subst, arith}
use Rattle.std.specs.Prelude.{◌≤◌, length, slice_get}
use Rattle.sig_types.specs.declared.kinds.FaultKind.TheVariants.{Budget}
use Rattle.sig_types.specs.Pass.{World}
use Rattle.vap_code.specs.declared.Instr.{Instr}
use Rattle.vap_code.specs.declared.Instr.TheVariants.{Tick}
use Rattle.vap_code.specs.Machine.{State, Step, Goes, Ends, End, Faulted, tick, act, step_at, after, exec}
use Rattle.vap_code.specs.Sights.{seen, sights_after, sights_of}
use Rattle.laws.specs.UnitsSpent.{line_by, spent_in, with_units, UnitsTellLines, FewerUnitsSuffice, BudgetIsSpent, UnitsAreFew}
use Rattle.laws.proofs.OtherUnits.{lift, lifted, Plain, Fair, fair_act, fair_end}

no_line : (i : Instr) → Plain i → (units : ℕ) → line_by i units ≡ []
no_line (Tick line) plain units = cc
no_line _ plain units = refl

-- no place of no list
none_there : {A : Type 0} (k : ℕ) (a : A) {B : Type 0} → slice_get [] k ≡ Some a → B
none_there k a e = cc

pub some_is : (l line : ℕ) → Some l ≡ Some line → l ≡ line
some_is l line e = cc

module _ (instrs : List Instr) (starts : List ℕ) (world : World) (n : ℕ) where
  -- the lines of the rest of a run, after a step
  abbrev rest : Step → List ℕ
  rest t = spent_in (sights_after t (sights_of instrs starts world n))

  -- the end of the rest
  abbrev end_of : Step → End
  end_of t = after t (exec instrs starts world n)

  module _ (i : Instr) (plain : Plain i) (s : State) where
    abbrev done : Step
    done = act starts world i s

    own : done ≡ lift s.units done
    own = lifted starts world s.units i plain s

    -- nothing is spent but in the rest
    lines : line_by i s.units ++ rest done ≡ rest (lift s.units done)
    lines = ap (λ l. l ++ rest done) (no_line i plain s.units) ∙ ap rest own

  -- ---- which unit is spent where

  abbrev Tells : State → Type 0
  Tells s = (k line : ℕ) → slice_get (spent_in (sights_of instrs starts world n s)) k ≡ Some line
      → exec instrs starts world n (with_units k s) ≡ Faulted Budget line

  tells_lift : ((s : State) → Tells s) → (k u line : ℕ) (t : Step) → slice_get (rest (lift u t)) k ≡ Some line
      → end_of (lift k t) ≡ Faulted Budget line
  tells_lift go k u line (Ends how) e = none_there k line e
  tells_lift go k u line (Goes s) e = go (with_units u s) k line e

  tells_tick : ((s : State) → Tells s) → (k l units : ℕ) (s : State) (line : ℕ)
      → slice_get (line_by (Tick l) units ++ rest (tick s l units)) k ≡ Some line
      → end_of (tick (with_units k s) l k) ≡ Faulted Budget line
  tells_tick go k l zero s line e = none_there k line e
  tells_tick go zero l (suc units) s line e = ap (Faulted Budget) (some_is l line e)
  tells_tick go (suc k) l (suc units) s line e = go (record s { place = s.place + 1; line = l; units = units }) k line e

  tells_plain : ((s : State) → Tells s) → (k : ℕ) (i : Instr) → Plain i → (s : State) (line : ℕ)
      → slice_get (line_by i s.units ++ rest (act starts world i s)) k ≡ Some line
      → end_of (act starts world i (with_units k s)) ≡ Faulted Budget line
  tells_plain go k i plain s line e =
      ap end_of (lifted starts world k i plain s)
      ∙ tells_lift go k s.units line (act starts world i s) (subst (λ ls. slice_get ls k ≡ Some line) (lines i plain s) e)

  tells_at : ((s : State) → Tells s) → (k : ℕ) (o : Option Instr) (s : State) (line : ℕ)
      → slice_get (spent_in (seen o s ++ sights_after (step_at starts world o s) (sights_of instrs starts world n))) k ≡ Some line
      → end_of (step_at starts world o (with_units k s)) ≡ Faulted Budget line
  tells_at go k None s line e = none_there k line e
  tells_at go k (Some (Tick l)) s line e = tells_tick go k l s.units s line e
  tells_at go k (Some i) s line e = tells_plain go k i refl s line e

  -- ---- fewer units suffice

  abbrev Suffices : State → Type 0
  Suffices s = (k : ℕ) → length (spent_in (sights_of instrs starts world n s)) ≤ k → k ≤ s.units
      → exec instrs starts world n (with_units k s) ≡ exec instrs starts world n s

  suffices_lift : ((s : State) → Suffices s) → (k u : ℕ) (t : Step) → length (rest (lift u t)) ≤ k → k ≤ u
      → end_of (lift k t) ≡ end_of (lift u t)
  suffices_lift go k u (Ends how) few low = refl
  suffices_lift go k u (Goes s) few low = go (with_units u s) k few low

  suffices_tick : ((s : State) → Suffices s) → (k l units : ℕ) (s : State)
      → length (line_by (Tick l) units ++ rest (tick s l units)) ≤ k → k ≤ units
      → end_of (tick (with_units k s) l k) ≡ end_of (tick s l units)
  suffices_tick go zero l zero s few low = refl
  suffices_tick go (suc k) l zero s few low = absurd (omega arith)
  suffices_tick go zero l (suc units) s few low = absurd (omega arith)
  suffices_tick go (suc k) l (suc units) s few low =
      go (record s { place = s.place + 1; line = l; units = units }) k (omega arith) (omega arith)

  suffices_plain : ((s : State) → Suffices s) → (k : ℕ) (i : Instr) → Plain i → (s : State)
      → length (line_by i s.units ++ rest (act starts world i s)) ≤ k → k ≤ s.units
      → end_of (act starts world i (with_units k s)) ≡ end_of (act starts world i s)
  suffices_plain go k i plain s few low =
      ap end_of (lifted starts world k i plain s)
      ∙ suffices_lift go k s.units (act starts world i s) (subst (λ ls. length ls ≤ k) (lines i plain s) few) low
      ∙ ap end_of (sym (own i plain s))

  suffices_at : ((s : State) → Suffices s) → (k : ℕ) (o : Option Instr) (s : State)
      → length (spent_in (seen o s ++ sights_after (step_at starts world o s) (sights_of instrs starts world n))) ≤ k → k ≤ s.units
      → end_of (step_at starts world o (with_units k s)) ≡ end_of (step_at starts world o s)
  suffices_at go k None s few low = refl
  suffices_at go k (Some (Tick l)) s few low = suffices_tick go k l s.units s few low
  suffices_at go k (Some i) s few low = suffices_plain go k i refl s few low

  -- ---- all units are spent before a run ends for want of them

  abbrev Spends : State → Type 0
  Spends s = (line : ℕ) → exec instrs starts world n s ≡ Faulted Budget line
      → s.units ≤ length (spent_in (sights_of instrs starts world n s))

  spends_lift : ((s : State) → Spends s) → (u : ℕ) (t : Step) → Fair t → (line : ℕ)
      → end_of (lift u t) ≡ Faulted Budget line → u ≤ length (rest (lift u t))
  spends_lift go u (Ends how) fair line e = absurd (fair_end how line fair e)
  spends_lift go u (Goes s) fair line e = go (with_units u s) line e

  spends_tick : ((s : State) → Spends s) → (l units : ℕ) (s : State) (line : ℕ)
      → end_of (tick s l units) ≡ Faulted Budget line → units ≤ length (line_by (Tick l) units ++ rest (tick s l units))
  spends_tick go l zero s line e = omega arith
  spends_tick go l (suc units) s line e =
      let all = go (record s { place = s.place + 1; line = l; units = units }) line e in omega (arith, all)

  spends_plain : ((s : State) → Spends s) → (i : Instr) → Plain i → (s : State) (line : ℕ)
      → end_of (act starts world i s) ≡ Faulted Budget line
      → s.units ≤ length (line_by i s.units ++ rest (act starts world i s))
  spends_plain go i plain s line e =
      subst (λ ls. s.units ≤ length ls) (sym (lines i plain s))
      (spends_lift go s.units (act starts world i s) (fair_act starts world i plain s) line (sym (ap end_of (own i plain s)) ∙ e))

  spends_at : ((s : State) → Spends s) → (o : Option Instr) (s : State) (line : ℕ)
      → end_of (step_at starts world o s) ≡ Faulted Budget line
      → s.units ≤ length (spent_in (seen o s ++ sights_after (step_at starts world o s) (sights_of instrs starts world n)))
  spends_at go None s line e = cc
  spends_at go (Some (Tick l)) s line e = spends_tick go l s.units s line e
  spends_at go (Some i) s line e = spends_plain go i refl s line e

  -- ---- no run spends more units than it has

  abbrev Within : State → Type 0
  Within s = length (spent_in (sights_of instrs starts world n s)) ≤ s.units

  within_lift : ((s : State) → Within s) → (u : ℕ) (t : Step) → length (rest (lift u t)) ≤ u
  within_lift go u (Ends how) = omega arith
  within_lift go u (Goes s) = go (with_units u s)

  within_tick : ((s : State) → Within s) → (l units : ℕ) (s : State)
      → length (line_by (Tick l) units ++ rest (tick s l units)) ≤ units
  within_tick go l zero s = omega arith
  within_tick go l (suc units) s =
      let few = go (record s { place = s.place + 1; line = l; units = units }) in omega (arith, few)

  within_plain : ((s : State) → Within s) → (i : Instr) → Plain i → (s : State)
      → length (line_by i s.units ++ rest (act starts world i s)) ≤ s.units
  within_plain go i plain s =
      subst (λ ls. length ls ≤ s.units) (sym (lines i plain s)) (within_lift go s.units (act starts world i s))

  within_at : ((s : State) → Within s) → (o : Option Instr) (s : State)
      → length (spent_in (seen o s ++ sights_after (step_at starts world o s) (sights_of instrs starts world n))) ≤ s.units
  within_at go None s = omega arith
  within_at go (Some (Tick l)) s = within_tick go l s.units s
  within_at go (Some i) s = within_plain go i refl s

pub units_tell : UnitsTellLines
units_tell instrs starts world zero k s line e = none_there k line e
units_tell instrs starts world (suc n) k s line e =
    tells_at instrs starts world n (λ t j l. units_tell instrs starts world n j t l) k (slice_get instrs s.place) s line e

pub fewer_units_suffice : FewerUnitsSuffice
fewer_units_suffice instrs starts world zero k s few low = refl
fewer_units_suffice instrs starts world (suc n) k s few low =
    suffices_at instrs starts world n (λ t j. fewer_units_suffice instrs starts world n j t) k (slice_get instrs s.place) s few low

pub budget_is_spent : BudgetIsSpent
budget_is_spent instrs starts world zero s line e = cc
budget_is_spent instrs starts world (suc n) s line e =
    spends_at instrs starts world n (λ t l. budget_is_spent instrs starts world n t l) (slice_get instrs s.place) s line e

pub units_are_few : UnitsAreFew
units_are_few instrs starts world zero s = omega arith
units_are_few instrs starts world (suc n) s =
    within_at instrs starts world n (λ t. units_are_few instrs starts world n t) (slice_get instrs s.place) s
