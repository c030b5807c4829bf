-- A group of which green is wished turns green in time.
use Rattle.std.proofs.Common.{◌≡◌, ℕ, zero, suc, ◌+◌, ◌-◌, ◌<◌, ◌≤◌, max, Bool, true, false, not, Option, Some, None, is_some, refl, arith, sym, inl, inr, ap, ◌∙◌, List}
use Rattle.std.proofs.lemmas.Bool.{cases_Bool, cases_lt, and_parts, le-ltb}
use Rattle.sig_types.specs.declared.aspect.Aspect.{Aspect}
use Rattle.sig_types.specs.declared.aspect.Aspect.TheVariants.{Red, RedAmber, Green, Amber}
use Rattle.sig_types.specs.Turns.{History, trace, is_red, is_on, turns_red_at, ends_at}
use Rattle.sig_types.specs.Words.{last_below}
use Rattle.sig_types.specs.Rules.{Rules}
use Rattle.sig_types.proofs.LastBelow.{IsLast, last_below-some}
use Rattle.sig_guard.specs.Step.{last, is_short, is_red_short}
use Rattle.sig_guard.proofs.StepKept.{some_is}
use Rattle.sig_response.specs.Bounds.{ends_within, free_within, green_within}
use Rattle.sig_response.specs.Onward.{onward, IsWishedRed, IsWishedGreen}
use Rattle.sig_response.proofs.Greatest.{greatest_least}
use Rattle.sig_response.proofs.Seconds.{LeavesFree, on_and_off, red_starts}
use Rattle.sig_response.proofs.Onwards.{last_is, Begun, making, sequence_of, onward-begun, onward-next, at_next, at, at_second, stays_on}
use Rattle.sig_response.proofs.Reds.{off_in_time, end_in_time}
use Rattle.sig_response.proofs.Still.{off_is_red, on_then_green}

pub not_red : (x : Aspect) → not (is_red x) ≡ true → x ≡ Red → ⊥
not_red Red h e = cc
not_red RedAmber h e = cc
not_red Green h e = cc
not_red Amber h e = cc

-- a red that began at u at the latest is not too short in second u + least
long_enough : (least t u : ℕ) (a : ℕ → Aspect) → ((j : ℕ) → u ≤ j → j < t → a j ≡ Red) → u + least ≤ t →
    is_short least (last_below (turns_red_at a) t) t ≡ false
long_enough least t u a red le = go (last_below (turns_red_at a) t) refl
  where
    early : (v : ℕ) → IsLast (turns_red_at a) t v → v ≤ u
    early zero last = omega arith
    early (suc v) last = elim (cases_lt u (suc v)) [
      | inl lt ↦ absurd (not_red (a v) (and_parts _ _ last.here).0 (red v (omega arith) (omega (arith, last.below))))
      | inr ge ↦ ge
    ]

    go : (o : Option ℕ) → last_below (turns_red_at a) t ≡ o → is_short least o t ≡ false
    go None is = refl
    go (Some v) is = le-ltb t (v + least) (omega (arith, early v (last_below-some (turns_red_at a) t v is), le))

-- the groups in conflict with g: red is wished of each
abbrev pub AreWishedRed : Rules → (ℕ → List Bool) → ℕ → ℕ → Type 0
AreWishedRed r w n g = (i : ℕ) → i < r.count → is_some (r.between i g) ≡ true → IsWishedRed w n i

-- by the second after n each has ended, and long enough ago
leaves_free : (r : Rules) (h : History) (w : ℕ → List Bool) (m g n i z : ℕ) → Begun r h m → i < r.count → 1 ≤ r.minimum_green i → IsWishedRed w (suc n) i →
    r.between i g ≡ Some z → free_within r g i ≤ suc n + r.red_amber g → LeavesFree r (onward r h w n) (w n) g i z
leaves_free r h w m g n i z begun lt least red pair le = record {
  red = red n (omega arith);
  off = ap is_on (sym (at_next r h w m n i begun)) ∙ off_in_time r h w m i (suc n) begun lt least red (omega (arith, bound));
  far = λ b le' ends. (
      let there : ends_at (trace (onward r h w (suc n)) i) b ≡ true = rw (sym (onward-next r h w n)) at ends in
      let early = end_in_time r h w m i (suc n) b begun lt least red (omega (arith, le', here)) there in
      omega (arith, early, bound, here));
}
  where
    here : last (onward r h w n) ≡ m + n
    here = last_is r (onward r h w n) (m + n) (onward-begun r h w m n begun)

    bound : ends_within r i + max z (r.red_amber g) ≤ suc n + r.red_amber g
    bound = rw pair at le

-- green is wished, and red of the groups in conflict: the group is on, its red-amber before it is green
on_in_time : (r : Rules) (h : History) (w : ℕ → List Bool) (m g n : ℕ) → Begun r h m → g < r.count → 1 ≤ r.minimum_red g →
    ((i : ℕ) → i < r.count → 1 ≤ r.minimum_green i) → IsWishedGreen w n g → AreWishedRed r w n g →
    r.amber g + r.minimum_red g ≤ n → ((i : ℕ) → i < r.count → free_within r g i ≤ n + r.red_amber g) → is_on (at r h w m g n) ≡ true
on_in_time r h w m g zero begun lt least greens green reds le free = absurd (omega arith)
on_in_time r h w m g (suc n) begun lt least greens green reds le free = elim (cases_Bool (is_on (at r h w m g n))) [
  | inl on ↦ stays_on r h w m g n (suc n) begun lt (omega arith) (λ k lo hi. green k hi) on
  | inr off ↦ ap is_on (at_next r h w m n g begun) ∙ red_starts r (onward r h w n) (w n) g (making r (onward r h w n) (m + n) (onward-begun r h w m n begun)) lt
      (green n (omega arith)) (ap (trace (onward r h w n) g) here ∙ red off (m + n) (omega arith) (omega arith)) (long off)
      (λ i z lt' pair. leaves_free r h w m g n i z begun lt' (greens i lt') (reds i lt' (some_is _ z pair)) pair (free i lt'))
]
  where
    here : last (onward r h w n) ≡ m + n
    here = last_is r (onward r h w n) (m + n) (onward-begun r h w m n begun)

    off_all : is_on (at r h w m g n) ≡ false → (j : ℕ) → j ≤ n → is_on (at r h w m g j) ≡ false
    off_all off j le' = elim (cases_Bool (is_on (at r h w m g j))) [
      | inl on ↦ absurd (on_and_off (at r h w m g n) (stays_on r h w m g j n begun lt le' (λ k lo hi. green k (omega arith)) on) off)
      | inr is ↦ is
    ]

    red : is_on (at r h w m g n) ≡ false → (j : ℕ) → m + r.amber g ≤ j → j ≤ m + n → trace (onward r h w n) g j ≡ Red
    red off j lo hi = off_is_red (r.red_amber g) (r.amber g) (trace (onward r h w n) g) (suc (m + n)) m j
        (sequence_of r (onward r h w n) (m + n) g (onward-begun r h w m n begun) lt) (omega arith)
        (λ i low high. ap is_on (sym (at_second r h w m n i g begun low (omega arith))) ∙ off_all off (i - m) (omega arith)) lo

    long : is_on (at r h w m g n) ≡ false → is_red_short r (onward r h w n) g ≡ false
    long off = long_enough (r.minimum_red g) (suc (last (onward r h w n))) (m + r.amber g) (trace (onward r h w n) g)
        (λ j lo hi. red off j lo (omega (arith, hi, here))) (omega (arith, here))

-- and it is green its red-amber later
pub green_in_time : (r : Rules) (h : History) (w : ℕ → List Bool) (m g n : ℕ) → Begun r h m → g < r.count → 1 ≤ r.minimum_red g →
    ((i : ℕ) → i < r.count → 1 ≤ r.minimum_green i) → IsWishedGreen w n g → AreWishedRed r w n g → green_within r g ≤ n → at r h w m g n ≡ Green
green_in_time r h w m g n begun lt least greens green reds le =
    on_then_green r h w m g n begun lt green (n - r.red_amber g) (omega arith)
    (on_in_time r h w m g (n - r.red_amber g) begun lt least greens (λ k hi. green k (omega arith)) (λ i lt' pair k hi. reds i lt' pair k (omega arith))
    (omega arith) (λ i lt'. (let most = greatest_least (free_within r g) r.count i lt' in omega (arith, most))))
