-- A group that stays on is green, and one that stays off is red.
use Rattle.std.proofs.Common.{◌≡◌, ℕ, zero, suc, ◌+◌, ◌-◌, ◌<◌, ◌≤◌, Bool, true, false, refl, arith, sym, inl, inr, ap, ◌∙◌, List}
use Rattle.std.proofs.lemmas.Bool.{cases_lt}
use Rattle.sig_types.specs.declared.aspect.Aspect.{Aspect}
use Rattle.sig_types.specs.declared.aspect.Aspect.TheVariants.{Red, RedAmber, Green, Amber}
use Rattle.sig_types.specs.Turns.{History, trace, is_red, is_green, is_on, starts_at, ends_at}
use Rattle.sig_types.specs.Rules.{Rules}
use Rattle.sig_guard.specs.Safety.{Sequence}
use Rattle.sig_guard.proofs.SequenceKept.{starts_parts, ends_parts}
use Rattle.sig_guard.proofs.RedAmberRun.{StartedAt, found_start}
use Rattle.sig_guard.proofs.MovesKept.{EndedAt, found_end}
use Rattle.sig_response.specs.Onward.{onward, IsWishedRed, IsWishedGreen}
use Rattle.sig_response.proofs.Seconds.{on_cases, off_cases, on_and_off}
use Rattle.sig_response.proofs.Onwards.{Begun, sequence_of, onward-begun, at, at_second, stays_off, stays_on}

-- a red-amber second t has its start less than ra seconds before
late_start : (ra am : ℕ) (a : ℕ → Aspect) (n t : ℕ) → Sequence ra am a n → t < n → a t ≡ RedAmber →
    (s : ℕ) × ((starts_at a (suc s) ≡ true) × (suc s ≤ t) × (t < suc s + ra))
late_start ra am a n t kept inside is = go (found_start ra am a n t kept inside is)
  where
    go : (s : ℕ) × StartedAt a t s → (s : ℕ) × ((starts_at a (suc s) ≡ true) × (suc s ≤ t) × (t < suc s + ra))
    go (zero, from) = absurd (let none = from.starts in cc)
    go (suc s, from) = (
      s,
      (
        from.starts,
        from.le,
        elim (cases_lt t (suc s + ra)) [
          | inl lt ↦ lt
          | inr ge ↦ absurd (
              let green = kept.then_green (suc s) from.starts (omega arith) in
              let amber = from.stays (suc s + ra) (omega arith) (omega arith) in
              let clash : Green ≡ RedAmber = sym green ∙ amber in cc)
        ],
      ),
    )

-- an amber second t has its end less than am seconds before
late_end : (ra am : ℕ) (a : ℕ → Aspect) (n t : ℕ) → Sequence ra am a n → t < n → a t ≡ Amber →
    (b : ℕ) × ((ends_at a (suc b) ≡ true) × (suc b ≤ t) × (t < suc b + am))
late_end ra am a n t kept inside is = go (found_end ra am a n t kept inside is)
  where
    go : (b : ℕ) × EndedAt a t b → (b : ℕ) × ((ends_at a (suc b) ≡ true) × (suc b ≤ t) × (t < suc b + am))
    go (zero, from) = absurd (let late = from.later in omega (arith, late))
    go (suc b, from) = (
      b,
      (
        from.ends,
        from.le,
        elim (cases_lt t (suc b + am)) [
          | inl lt ↦ lt
          | inr ge ↦ absurd (
              let red = kept.then_red (suc b) from.later from.ends (omega arith) in
              let amber = from.stays (suc b + am) (omega arith) (omega arith) in
              let clash : Red ≡ Amber = sym red ∙ amber in cc)
        ],
      ),
    )

pub red_off : (x : Aspect) → is_red x ≡ true → is_on x ≡ false
red_off Red h = refl
red_off RedAmber h = absurd (cc)
red_off Green h = absurd (cc)
red_off Amber h = absurd (cc)

pub green_on : (x : Aspect) → is_green x ≡ true → is_on x ≡ true
green_on Red h = absurd (cc)
green_on RedAmber h = absurd (cc)
green_on Green h = refl
green_on Amber h = absurd (cc)

-- a group that is on from second m to t is green, once its red-amber is over
pub on_is_green : (ra am : ℕ) (a : ℕ → Aspect) (n m t : ℕ) → Sequence ra am a n → t < n → ((i : ℕ) → m ≤ i → i ≤ t → is_on (a i) ≡ true) →
    m + ra ≤ t → a t ≡ Green
on_is_green ra am a n m t kept inside on le = elim (on_cases (a t) (on t (omega arith) (omega arith))) [
  | inl amber ↦ absurd (go (late_start ra am a n t kept inside amber))
  | inr green ↦ green
]
  where
    go : (s : ℕ) × ((starts_at a (suc s) ≡ true) × (suc s ≤ t) × (t < suc s + ra)) → ⊥
    go (s, from) = on_and_off (a s) (on s (omega (arith, from.2, le)) (omega (arith, from.1))) (red_off (a s) (starts_parts a s from.0).0)

-- and one that is off is red, once its amber is over
pub off_is_red : (ra am : ℕ) (a : ℕ → Aspect) (n m t : ℕ) → Sequence ra am a n → t < n → ((i : ℕ) → m ≤ i → i ≤ t → is_on (a i) ≡ false) →
    m + am ≤ t → a t ≡ Red
off_is_red ra am a n m t kept inside off le = elim (off_cases (a t) (off t (omega arith) (omega arith))) [
  | inl red ↦ red
  | inr amber ↦ absurd (go (late_end ra am a n t kept inside amber))
]
  where
    go : (b : ℕ) × ((ends_at a (suc b) ≡ true) × (suc b ≤ t) × (t < suc b + am)) → ⊥
    go (b, from) = on_and_off (a b) (green_on (a b) (ends_parts a b from.0).0) (off b (omega (arith, from.2, le)) (omega (arith, from.1)))

-- a group that is on in second j, and of which green goes on being wished, is green once its red-amber is over
pub on_then_green : (r : Rules) (h : History) (w : ℕ → List Bool) (m g n : ℕ) → Begun r h m → g < r.count → IsWishedGreen w n g →
    (j : ℕ) → j + r.red_amber g ≤ n → is_on (at r h w m g j) ≡ true → at r h w m g n ≡ Green
on_then_green r h w m g n begun lt green j le on =
    on_is_green (r.red_amber g) (r.amber g) (trace (onward r h w n) g) (suc (m + n)) (m + j) (m + n)
    (sequence_of r (onward r h w n) (m + n) g (onward-begun r h w m n begun) lt) (omega arith)
    (λ i lo hi. ap is_on (sym (at_second r h w m n i g begun (omega arith) hi))
    ∙ stays_on r h w m g j (i - m) begun lt (omega arith) (λ k low high. green k (omega arith)) on) (omega arith)

-- and one that is off, and of which red goes on being wished, is red once its amber is over
pub off_then_red : (r : Rules) (h : History) (w : ℕ → List Bool) (m g n : ℕ) → Begun r h m → g < r.count → IsWishedRed w n g →
    (j : ℕ) → j + r.amber g ≤ n → is_on (at r h w m g j) ≡ false → at r h w m g n ≡ Red
off_then_red r h w m g n begun lt red j le off =
    off_is_red (r.red_amber g) (r.amber g) (trace (onward r h w n) g) (suc (m + n)) (m + j) (m + n)
    (sequence_of r (onward r h w n) (m + n) g (onward-begun r h w m n begun) lt) (omega arith)
    (λ i lo hi. ap is_on (sym (at_second r h w m n i g begun (omega arith) hi))
    ∙ stays_off r h w m g j (i - m) begun lt (omega arith) (λ k low high. red k (omega arith)) off) (omega arith)
