-- The seconds that the guard makes.
use Rattle.std.proofs.Common.{◌≡◌, ℕ, zero, suc, ◌+◌, ◌-◌, ◌<◌, ◌≤◌, Bool, true, false, refl, arith, sym, subst, inl, inr, ap, ◌∙◌, List, [], ◌∷◌, ◌++◌, length, slice_index_or}
use Rattle.std.proofs.lemmas.Bool.{cases_eq}
use Rattle.std.proofs.Math.ListN.{length-append}
use Rattle.sig_types.specs.declared.aspect.Aspect.{Aspect}
use Rattle.sig_types.specs.Turns.{History, shown, trace, is_on}
use Rattle.sig_types.specs.Rules.{Rules, IsTwoWay}
use Rattle.sig_guard.specs.Safety.{IsHistory, Safe, Sequence}
use Rattle.sig_guard.specs.Step.{last, guard_picture, starts_below}
use Rattle.sig_guard.proofs.Agree.{AgreeBelow}
use Rattle.sig_guard.proofs.Pictures.{trace-append_old, trace-append_new}
use Rattle.sig_guard.proofs.LawProofs.{step_keeps_safe}
use Rattle.sig_guard.proofs.StepKept.{Making, making_of}
use Rattle.sig_response.specs.Onward.{onward}
use Rattle.sig_response.proofs.Seconds.{off_stays, on_stays}

-- a safe history whose last second is m
pub record Begun (r : Rules) (h : History) (m : ℕ) : Type 0 where
  pub len : length h ≡ suc m
  pub two_way : IsTwoWay r
  pub history : IsHistory r.count h
  pub safe : Safe r h

pub onward-length : (r : Rules) (h : History) (w : ℕ → List Bool) (n : ℕ) → length (onward r h w n) ≡ length h + n
unfolding onward
onward-length r h w zero = omega arith
onward-length r h w (suc n) = length-append (onward r h w n) _ ∙ omega (arith, onward-length r h w n)

-- the history stays safe
pub onward-begun : (r : Rules) (h : History) (w : ℕ → List Bool) (m n : ℕ) → Begun r h m → Begun r (onward r h w n) (m + n)
unfolding onward
onward-begun r h w m zero begun = record { len = omega (arith, begun.len); two_way = begun.two_way; history = begun.history; safe = begun.safe }
onward-begun r h w m (suc n) begun =
    let before = onward-begun r h w m n begun in
    let next = step_keeps_safe r (onward r h w n) (w n) before.two_way before.history before.safe in
    record {
      len = length-append (onward r h w n) _ ∙ omega (arith, before.len);
      two_way = before.two_way;
      history = next.0;
      safe = next.1;
    }

pub last_is : (r : Rules) (h : History) (m : ℕ) → Begun r h m → last h ≡ m
last_is r h m begun = omega (arith, begun.len)

pub making : (r : Rules) (h : History) (m : ℕ) → Begun r h m → Making r h
making r h m begun = making_of r h begun.history

-- the sequence of a group
pub sequence_of : (r : Rules) (h : History) (m g : ℕ) → Begun r h m → g < r.count → Sequence (r.red_amber g) (r.amber g) (trace h g) (suc m)
sequence_of r h m g begun lt = subst (λ (n : ℕ). Sequence (r.red_amber g) (r.amber g) (trace h g) n) begun.len (begun.safe.sequence g lt)

-- one second more
pub onward-next : (r : Rules) (h : History) (w : ℕ → List Bool) (n : ℕ) →
    onward r h w (suc n) ≡ onward r h w n ++ (starts_below r (onward r h w n) (w n) r.count).picture ∷ []
unfolding onward guard_picture
onward-next r h w n = refl

pub onward-now : (r : Rules) (h : History) (w : ℕ → List Bool) (m n g : ℕ) → Begun r h m →
    trace (onward r h w (suc n)) g (suc (m + n)) ≡ shown (starts_below r (onward r h w n) (w n) r.count).picture g
onward-now r h w m n g begun =
    ap (λ (k : History). trace k g (suc (m + n))) (onward-next r h w n)
    ∙ trace-append_new (onward r h w n) (starts_below r (onward r h w n) (w n) r.count).picture g (suc (m + n)) (onward-begun r h w m n begun).len

-- the seconds that were made stay as they are
pub onward-agree : (r : Rules) (h : History) (w : ℕ → List Bool) (m j n g : ℕ) → Begun r h m → j ≤ n →
    AgreeBelow (suc (m + j)) (trace (onward r h w j) g) (trace (onward r h w n) g)
onward-agree r h w m j zero g begun le =
    let same : 0 ≡ j = omega arith in
    record { at = λ t lt. ap (λ (k : ℕ). trace (onward r h w k) g t) (sym same) }
onward-agree r h w m j (suc n) g begun le = elim (cases_eq j (suc n)) [
  | inl same ↦ record { at = λ t lt. ap (λ (k : ℕ). trace (onward r h w k) g t) same }
  | inr ne ↦ (
      let le' : j ≤ n = omega arith in
      record {
        at = λ t lt. (onward-agree r h w m j n g begun le').at t lt
            ∙ (trace-append_old (onward r h w n) (starts_below r (onward r h w n) (w n) r.count).picture g (suc (m + n)) (onward-begun r h w m n begun).len).at t (omega arith)
            ∙ ap (λ (k : History). trace k g t) (sym (onward-next r h w n));
      })
]

-- what group g shows n seconds after m
abbrev pub at : Rules → History → (ℕ → List Bool) → ℕ → ℕ → ℕ → Aspect
at r h w m g n = trace (onward r h w n) g (m + n)

pub at_trace : (r : Rules) (h : History) (w : ℕ → List Bool) (m j n g : ℕ) → Begun r h m → j ≤ n → at r h w m g j ≡ trace (onward r h w n) g (m + j)
at_trace r h w m j n g begun le = (onward-agree r h w m j n g begun le).at (m + j) (omega arith)

-- the same by the number of the second
pub at_second : (r : Rules) (h : History) (w : ℕ → List Bool) (m n i g : ℕ) → Begun r h m → m ≤ i → i ≤ m + n →
    at r h w m g (i - m) ≡ trace (onward r h w n) g i
at_second r h w m n i g begun lo hi =
    let place : m + (i - m) ≡ i = omega arith in
    at_trace r h w m (i - m) n g begun (omega arith) ∙ ap (trace (onward r h w n) g) place

-- a group of which red is wished stays off
pub stays_off : (r : Rules) (h : History) (w : ℕ → List Bool) (m g j n : ℕ) → Begun r h m → g < r.count → j ≤ n →
    ((k : ℕ) → j ≤ k → k < n → slice_index_or (w k) g false ≡ false) → is_on (at r h w m g j) ≡ false → is_on (at r h w m g n) ≡ false
stays_off r h w m g j zero begun lt le red off = (let same : j ≡ 0 = omega arith in rw same at off)
stays_off r h w m g j (suc n) begun lt le red off = elim (cases_eq j (suc n)) [
  | inl same ↦ rw same at off
  | inr ne ↦ (
      let there = ap (λ (k : ℕ). is_on (trace (onward r h w n) g k)) (last_is r (onward r h w n) (m + n) (onward-begun r h w m n begun)) in
      let before = stays_off r h w m g j n begun lt (omega arith) (λ k lo hi. red k lo (omega arith)) off in
      let now = off_stays r (onward r h w n) (w n) g (making r (onward r h w n) (m + n) (onward-begun r h w m n begun)) lt (red n (omega arith) (omega arith)) (there ∙ before) in
      let next : m + suc n ≡ suc (m + n) = omega arith in
      ap (λ (k : ℕ). is_on (trace (onward r h w (suc n)) g k)) next ∙ ap is_on (onward-now r h w m n g begun) ∙ now)
]

-- and one of which green is wished stays on
pub stays_on : (r : Rules) (h : History) (w : ℕ → List Bool) (m g j n : ℕ) → Begun r h m → g < r.count → j ≤ n →
    ((k : ℕ) → j ≤ k → k < n → slice_index_or (w k) g false ≡ true) → is_on (at r h w m g j) ≡ true → is_on (at r h w m g n) ≡ true
stays_on r h w m g j zero begun lt le green on = (let same : j ≡ 0 = omega arith in rw same at on)
stays_on r h w m g j (suc n) begun lt le green on = elim (cases_eq j (suc n)) [
  | inl same ↦ rw same at on
  | inr ne ↦ (
      let there = ap (λ (k : ℕ). is_on (trace (onward r h w n) g k)) (last_is r (onward r h w n) (m + n) (onward-begun r h w m n begun)) in
      let before = stays_on r h w m g j n begun lt (omega arith) (λ k lo hi. green k lo (omega arith)) on in
      let now = on_stays r (onward r h w n) (w n) g (making r (onward r h w n) (m + n) (onward-begun r h w m n begun)) lt (green n (omega arith) (omega arith)) (there ∙ before) in
      let next : m + suc n ≡ suc (m + n) = omega arith in
      ap (λ (k : ℕ). is_on (trace (onward r h w (suc n)) g k)) next ∙ ap is_on (onward-now r h w m n g begun) ∙ now)
]

pub at_next : (r : Rules) (h : History) (w : ℕ → List Bool) (m n g : ℕ) → Begun r h m →
    at r h w m g (suc n) ≡ shown (starts_below r (onward r h w n) (w n) r.count).picture g
at_next r h w m n g begun =
    let next : m + suc n ≡ suc (m + n) = omega arith in
    ap (λ (k : ℕ). trace (onward r h w (suc n)) g k) next ∙ onward-now r h w m n g begun
