-- Where a run spends a unit, a statement of that line has begun: the unit is that of the statement, or that of the return to it.
use Rattle.std.proofs.Common.{◌≡◌, ℕ, zero, suc, ◌+◌, List, [], ◌∷◌, ◌++◌, ◌⊎◌, inl, inr, Bool, true, false, cond, Option, Some, None, refl, sym, ap, ◌∙◌, subst, arith}
use Rattle.std.specs.Prelude.{slice_get, ℤ}
use Rattle.sig_types.specs.Number.{holds}
use Rattle.sig_types.specs.Pass.{World}
use Rattle.vap_code.specs.declared.Instr.{Instr}
use Rattle.vap_code.specs.declared.Instr.TheVariants.{Tick, Jump, JumpZero, Call, Ret}
use Rattle.vap_code.specs.Machine.{State, Step, Goes, Ends, with_slot, on_one, tick, back, next, at_place, act, step_at}
use Rattle.vap_code.specs.Sights.{Sight, seen, sights_after, sights_of}
use Rattle.vap_code.specs.Valid.{is_call}
use Rattle.laws.specs.UnitsSpent.{line_by, spent_in}
use Rattle.laws.proofs.OtherUnits.{Onward, computes, onward}
use Rattle.laws.proofs.OrderlyCode.{calls, behind, Open, Orderly, behind_this}
use Rattle.laws.proofs.UnitsSpent.{some_is}

-- each of what is seen
abbrev pub Each_sight : (Sight → Type 0) → List Sight → Type 0
Each_sight P [] = Unit {0}
Each_sight P (x ∷ xs) = P x × Each_sight P xs

-- an instruction spends no unit, or one at its line
pub spends_or_not : (i : Instr) (units : ℕ) → (line_by i units ≡ []) ⊎ ((l : ℕ) × (line_by i units ≡ l ∷ []))
spends_or_not (Tick l) zero = inl refl
spends_or_not (Tick l) (suc units) = inr (l, refl)
spends_or_not _ units = inl refl

-- what holds of the line of each unit holds of a line at which one is spent
pub spent_holds : (P : ℕ → Type 0) (xs : List Sight) (k line : ℕ)
    → Each_sight (λ x. (l : ℕ) → line_by x.instr x.state.units ≡ l ∷ [] → P l) xs → slice_get (spent_in xs) k ≡ Some line → P line
spent_holds P [] k line each e = cc
spent_holds P (x ∷ xs) k line each e = elim (spends_or_not x.instr x.state.units) [
  | inl none ↦ spent_holds P xs k line each.1 (subst (λ ls. slice_get (ls ++ spent_in xs) k ≡ Some line) none e)
  | inr one ↦ at (λ j. spent_holds P xs j line each.1) k one.0 one.1 (subst (λ ls. slice_get (ls ++ spent_in xs) k ≡ Some line) one.1 e)
]
  where
    at : ((j : ℕ) → slice_get (spent_in xs) j ≡ Some line → P line) → (k l : ℕ) → line_by x.instr x.state.units ≡ l ∷ []
        → slice_get (l ∷ spent_in xs) k ≡ Some line → P line
    at go zero l is e = subst P (some_is l line e) (each.0 l is)
    at go (suc k) l is e = go k e

module _ (instrs : List Instr) (starts : List ℕ) (world : World) where
  -- what is seen at a place stands there
  abbrev pub Stands : Sight → Type 0
  Stands x = slice_get instrs x.state.place ≡ Some x.instr

  pub each_stands : (n : ℕ) (s : State) → Each_sight Stands (sights_of instrs starts world n s)
  each_stands zero s = tt
  each_stands (suc n) s = at (λ t. each_stands n t) (slice_get instrs s.place) refl
    where
      rest : ((t : State) → Each_sight Stands (sights_of instrs starts world n t)) → (t : Step)
          → Each_sight Stands (sights_after t (sights_of instrs starts world n))
      rest go (Goes t) = go t
      rest go (Ends how) = tt

      at : ((t : State) → Each_sight Stands (sights_of instrs starts world n t)) → (o : Option Instr) → slice_get instrs s.place ≡ o
          → Each_sight Stands (seen o s ++ sights_after (step_at starts world o s) (sights_of instrs starts world n))
      at go None e = tt
      at go (Some i) e = (e, rest go (act starts world i s))

module _ (instrs : List Instr) (starts : List ℕ) (world : World)
    (orderly : (p : ℕ) (i : Instr) → slice_get instrs p ≡ Some i → Orderly instrs p i)
    (opens : (k q : ℕ) → slice_get starts k ≡ Some q → Open instrs q) (Begun : ℕ → Type 0) where
  -- its line has begun, if it spends a unit
  abbrev pub Spends : Sight → Type 0
  Spends x = (l : ℕ) → line_by x.instr x.state.units ≡ l ∷ [] → Begun l

  -- its line has begun, if it spends a unit behind no call
  abbrev pub Begins : Sight → Type 0
  Begins x = (l : ℕ) → line_by x.instr x.state.units ≡ l ∷ [] → behind instrs x.state.place ≡ false → Begun l

  -- the line of a tick at a place has begun
  abbrev Owed : ℕ → Type 0
  Owed q = (l : ℕ) → slice_get instrs q ≡ Some (Tick l) → Begun l

  -- the places to which a run goes back
  abbrev Noted : List ℕ → Type 0
  Noted [] = Unit {0}
  Noted (q ∷ noted) = ((calls (slice_get instrs q) ≡ false) × Owed q) × Noted noted

  -- how a run stands: the statements to which it will go back have begun
  pub record Stands_so (s : State) : Type 0 where
    noted : Noted s.noted
    here : behind instrs s.place ≡ true → Owed s.place
    called : calls (slice_get instrs s.place) ≡ true → Owed (s.place + 1)

  abbrev After : Step → Type 0
  After (Goes t) = Stands_so t
  After (Ends how) = Unit {0}

  not_both : {A : Type 0} {b : Bool} → b ≡ true → b ≡ false → A
  not_both e f = cc

  -- at an open place
  pub opened : (t : State) → Open instrs t.place → Noted t.noted → Stands_so t
  opened t o noted = record {
    noted = noted;
    here = λ b. not_both b o.none_before;
    called = λ c. not_both c o.none_there;
  }

  a_call : (o : Option Instr) → calls o ≡ true → (r : ℕ) × (o ≡ Some (Call r))
  a_call (Some (Call r)) e = (r, refl)
  a_call (Some _) e = cc
  a_call None e = cc

  same_instr : (i j : Instr) → Some i ≡ Some j → i ≡ j
  same_instr i j e = cc

  same_tick : (l line : ℕ) → Some (Tick l) ≡ Some (Tick line) → l ≡ line
  same_tick l line e = cc

  -- on to the next place
  next_one : (s t : State) (i : Instr) → slice_get instrs s.place ≡ Some i → is_call i ≡ false
      → ((line : ℕ) → i ≡ Tick line → Begun line) → t.place ≡ s.place + 1 → t.noted ≡ s.noted → Noted s.noted → Stands_so t
  next_one s t i e none told at same noted = record {
    noted = subst Noted (sym same) noted;
    here = λ b. not_both b (behind_this instrs s.place t.place i (sym at) e none);
    called = λ c.
        let r = a_call (slice_get instrs t.place) c in
        let k = orderly t.place (Call r.0) r.1 in
        let p : k.before ≡ s.place = omega (arith, k.is_before, at) in
        let tick = same_instr i (Tick k.line) (sym e ∙ subst (λ q. slice_get instrs q ≡ Some (Tick k.line)) p k.tick_before) in
        λ l there. subst Begun (same_tick k.line l (sym k.tick_behind ∙ there)) (told k.line tick);
  }

  -- an instruction that only computes
  computed : (s : State) (i : Instr) → computes i ≡ true → is_call i ≡ false → ((line : ℕ) → i ≡ Tick line → Begun line)
      → slice_get instrs s.place ≡ Some i → Noted s.noted → After (act starts world i s)
  computed s i c none told e noted = on (act starts world i s) (onward starts world i c s)
    where
      on : (t : Step) → Onward s t → After t
      on (Goes t) o = next_one s t i e none told o.0 o.1 noted
      on (Ends how) o = tt

  ticked : (s : State) (l units : ℕ) → slice_get instrs s.place ≡ Some (Tick l)
      → ((m : ℕ) → line_by (Tick l) units ≡ m ∷ [] → Begun m) → Noted s.noted → After (tick s l units)
  ticked s l zero e told noted = tt
  ticked s l (suc units) e told noted =
      next_one s (record s { place = s.place + 1; line = l; units = units }) (Tick l) e refl
      (λ line is. subst Begun (tick_is l line is) (told l refl)) refl refl noted
    where
      tick_is : (l line : ℕ) → Tick l ≡ Tick line → l ≡ line
      tick_is l line e = cc

  gone_back : (s : State) (noted : List ℕ) → Noted noted → After (back s noted)
  gone_back s [] all = tt
  gone_back s (q ∷ noted) all = record { noted = all.1; here = λ b. all.0.1; called = λ c. not_both c all.0.0 }

  entered : (s : State) (r : ℕ) → slice_get instrs s.place ≡ Some (Call r) → Stands_so s
      → (o : Option ℕ) → slice_get starts r ≡ o
      → After (with_slot o (λ place. Goes (record s { place = place; noted = (s.place + 1) ∷ s.noted })))
  entered s r e so None at = tt
  entered s r e so (Some place) at =
      let k = orderly s.place (Call r) e in
      opened (record s { place = place; noted = (s.place + 1) ∷ s.noted }) (opens r place at)
      ((ap calls k.tick_behind, so.called (ap calls e)), so.noted)

  jumped : (s : State) (t : ℕ) → slice_get instrs s.place ≡ Some (JumpZero t) → Noted s.noted → (xs : List ℤ)
      → After (on_one xs (λ v below. cond (holds v) (next s below) (at_place s below t)))
  jumped s t e noted [] = tt
  jumped s t e noted (v ∷ below) = elim (holds v) as (λ b. After (cond b (next s below) (at_place s below t))) [
    | true ↦ next_one s (record s { place = s.place + 1; operands = below }) (JumpZero t) e refl (λ line is. cc) refl refl noted
    | false ↦ opened (record s { place = t; operands = below }) (orderly s.place (JumpZero t) e) noted
  ]

  acted : (s : State) (i : Instr) → slice_get instrs s.place ≡ Some i → Stands_so s
      → ((m : ℕ) → line_by i s.units ≡ m ∷ [] → Begun m) → After (act starts world i s)
  acted s (Tick l) e so told = ticked s l s.units e told so.noted
  acted s (Jump t) e so told = opened (record s { place = t }) (orderly s.place (Jump t) e) so.noted
  acted s (JumpZero t) e so told = jumped s t e so.noted s.operands
  acted s (Call r) e so told = entered s r e so (slice_get starts r) refl
  acted s Ret e so told = gone_back s s.noted so.noted
  acted s i e so told = computed s i refl refl (λ line is. cc) e so.noted

  -- what spends a unit is a tick
  its_tick : (i : Instr) (units l : ℕ) → line_by i units ≡ l ∷ [] → i ≡ Tick l
  its_tick (Tick m) zero l is = cc
  its_tick (Tick m) (suc units) l is = ap Tick (head_is m l is)
    where
      head_is : (m l : ℕ) → (m ∷ []) ≡ (l ∷ []) → m ≡ l
      head_is m l e = cc
  its_tick _ units l is = cc

  -- a unit is spent by a statement that begins, or by a return
  spends : (s : State) → Stands_so s → (i : Instr) → slice_get instrs s.place ≡ Some i → (b : Bool) → behind instrs s.place ≡ b
      → ((l : ℕ) → line_by i s.units ≡ l ∷ [] → behind instrs s.place ≡ false → Begun l)
      → (l : ℕ) → line_by i s.units ≡ l ∷ [] → Begun l
  spends s so i e false b begins l is = begins l is b
  spends s so i e true b begins l is = so.here b l (e ∙ ap Some (its_tick i s.units l is))

  module _ (n : ℕ) (go : (s : State) → Stands_so s → Each_sight Begins (sights_of instrs starts world n s)
      → Each_sight Spends (sights_of instrs starts world n s)) where
    spends_after : (t : Step) → After t → Each_sight Begins (sights_after t (sights_of instrs starts world n))
        → Each_sight Spends (sights_after t (sights_of instrs starts world n))
    spends_after (Goes t) so each = go t so each
    spends_after (Ends how) so each = tt

    spends_at : (s : State) → Stands_so s → (o : Option Instr) → slice_get instrs s.place ≡ o
        → Each_sight Begins (seen o s ++ sights_after (step_at starts world o s) (sights_of instrs starts world n))
        → Each_sight Spends (seen o s ++ sights_after (step_at starts world o s) (sights_of instrs starts world n))
    spends_at s so None e each = tt
    spends_at s so (Some i) e each =
        let spent = spends s so i e (behind instrs s.place) refl each.0 in
        (spent, spends_after (act starts world i s) (acted s i e so spent) each.1)

  -- where each statement that begins has begun, so has the statement of each unit
  pub each_spends : (n : ℕ) (s : State) → Stands_so s → Each_sight Begins (sights_of instrs starts world n s)
      → Each_sight Spends (sights_of instrs starts world n s)
  each_spends zero s so each = tt
  each_spends (suc n) s so each =
      spends_at n (λ t so each. each_spends n t so each) s so (slice_get instrs s.place) refl each
