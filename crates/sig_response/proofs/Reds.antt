-- A group of which red is wished turns red in time.
use Rattle.std.proofs.Common.{◌≡◌, ℕ, zero, suc, ◌+◌, ◌-◌, ◌<◌, ◌≤◌, Bool, true, false, not, Option, Some, None, refl, arith, sym, inl, inr, ap, ◌∙◌, List}
use Rattle.std.proofs.lemmas.Bool.{cases_Bool, cases_lt, and_parts, le-ltb}
use Rattle.sig_types.specs.declared.aspect.Aspect.{Aspect}
use Rattle.sig_types.specs.declared.aspect.Aspect.TheVariants.{Red, RedAmber, Green, Amber}
use Rattle.sig_types.specs.Turns.{History, trace, is_green, is_on, turns_green_at, ends_at}
use Rattle.sig_types.specs.Words.{last_below}
use Rattle.sig_types.specs.Rules.{Rules}
use Rattle.sig_types.proofs.LastBelow.{IsLast, last_below-some}
use Rattle.sig_guard.specs.Step.{last, is_short, is_green_short}
use Rattle.sig_guard.proofs.SequenceKept.{ends_parts}
use Rattle.sig_response.specs.Bounds.{ends_within, red_within}
use Rattle.sig_response.specs.Onward.{onward, IsWishedRed}
use Rattle.sig_response.proofs.Seconds.{on_and_off, green_ends}
use Rattle.sig_response.proofs.Onwards.{last_is, Begun, making, sequence_of, onward-begun, at_next, at, at_second, stays_off}
use Rattle.sig_response.proofs.Still.{green_on, on_is_green, off_then_red}

not_green : (x : Aspect) → not (is_green x) ≡ true → x ≡ Green → ⊥
not_green Red h e = cc
not_green RedAmber h e = cc
not_green Green h e = cc
not_green Amber h e = cc

-- a green that began at u at the latest is not too short in second u + least
long_enough : (least t u : ℕ) (a : ℕ → Aspect) → ((j : ℕ) → u ≤ j → j < t → a j ≡ Green) → u + least ≤ t →
    is_short least (last_below (turns_green_at a) t) t ≡ false
long_enough least t u a green le = go (last_below (turns_green_at a) t) refl
  where
    early : (v : ℕ) → IsLast (turns_green_at a) t v → v ≤ u
    early zero last = omega arith
    early (suc v) last = elim (cases_lt u (suc v)) [
      | inl lt ↦ absurd (not_green (a v) (and_parts _ _ last.here).0 (green v (omega arith) (omega (arith, last.below))))
      | inr ge ↦ ge
    ]

    go : (o : Option ℕ) → last_below (turns_green_at a) t ≡ o → is_short least o t ≡ false
    go None is = refl
    go (Some v) is = le-ltb t (v + least) (omega (arith, early v (last_below-some (turns_green_at a) t v is), le))

-- red is wished: the group is off after its red-amber and its minimum green
pub off_in_time : (r : Rules) (h : History) (w : ℕ → List Bool) (m g n : ℕ) → Begun r h m → g < r.count → 1 ≤ r.minimum_green g → IsWishedRed w n g →
    ends_within r g ≤ n → is_on (at r h w m g n) ≡ false
off_in_time r h w m g zero begun lt least red le = absurd (omega arith)
off_in_time r h w m g (suc n) begun lt least red le = elim (cases_Bool (is_on (at r h w m g n))) [
  | inl on ↦ ap is_on (at_next r h w m n g begun) ∙ green_ends r (onward r h w n) (w n) g (making r (onward r h w n) (m + n) now) lt (red n (omega arith)) (ap (trace (onward r h w n) g) here ∙ green on (m + n) (omega arith) (omega arith)) (long on)
  | inr off ↦ stays_off r h w m g n (suc n) begun lt (omega arith) (λ k lo hi. red k hi) off
]
  where
    now : Begun r (onward r h w n) (m + n)
    now = onward-begun r h w m n begun

    here : last (onward r h w n) ≡ m + n
    here = last_is r (onward r h w n) (m + n) now

    on_all : is_on (at r h w m g n) ≡ true → (j : ℕ) → j ≤ n → is_on (at r h w m g j) ≡ true
    on_all on j le' = elim (cases_Bool (is_on (at r h w m g j))) [
      | inl is ↦ is
      | inr off ↦ absurd (on_and_off (at r h w m g n) on (stays_off r h w m g j n begun lt le' (λ k lo hi. red k (omega arith)) off))
    ]

    green : is_on (at r h w m g n) ≡ true → (j : ℕ) → m + r.red_amber g ≤ j → j ≤ m + n → trace (onward r h w n) g j ≡ Green
    green on j lo hi = on_is_green (r.red_amber g) (r.amber g) (trace (onward r h w n) g) (suc (m + n)) m j
        (sequence_of r (onward r h w n) (m + n) g now lt) (omega arith)
        (λ i low high. ap is_on (sym (at_second r h w m n i g begun low (omega arith))) ∙ on_all on (i - m) (omega arith)) lo

    long : is_on (at r h w m g n) ≡ true → is_green_short r (onward r h w n) g ≡ false
    long on = long_enough (r.minimum_green g) (suc (last (onward r h w n))) (m + r.red_amber g) (trace (onward r h w n) g)
        (λ j lo hi. green on j lo (omega (arith, hi, here))) (omega (arith, here))

-- an end of it lies no later
pub end_in_time : (r : Rules) (h : History) (w : ℕ → List Bool) (m g n b : ℕ) → Begun r h m → g < r.count → 1 ≤ r.minimum_green g → IsWishedRed w n g →
    b ≤ m + n → ends_at (trace (onward r h w n) g) b ≡ true → b ≤ m + ends_within r g
end_in_time r h w m g n zero begun lt least red le ends = omega arith
end_in_time r h w m g n (suc b) begun lt least red le ends = elim (cases_lt b (m + ends_within r g)) [
  | inl early ↦ early
  | inr late ↦ absurd (
      let off = off_in_time r h w m g (b - m) begun lt least (λ k hi. red k (omega arith)) (omega arith) in
      on_and_off (trace (onward r h w n) g b) (green_on _ (ends_parts (trace (onward r h w n) g) b ends).0)
      (ap is_on (sym (at_second r h w m n b g begun (omega arith) (omega arith))) ∙ off))
]

-- and it is red an amber later
pub red_in_time : (r : Rules) (h : History) (w : ℕ → List Bool) (m g n : ℕ) → Begun r h m → g < r.count → 1 ≤ r.minimum_green g → IsWishedRed w n g →
    red_within r g ≤ n → at r h w m g n ≡ Red
red_in_time r h w m g n begun lt least red le =
    off_then_red r h w m g n begun lt red (ends_within r g) (omega arith)
    (off_in_time r h w m g (ends_within r g) begun lt least (λ k hi. red k (omega arith)) (omega arith))
