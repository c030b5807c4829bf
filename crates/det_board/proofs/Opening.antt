-- The rule at the start.
use Rattle.std.proofs.Common.{◌≡◌, ℕ, zero, suc, ◌+◌, ◌*◌, ◌<◌, ◌≤◌, List, [], ◌∷◌, length, take, refl, sym, ap, ◌∙◌, subst, arith, replicate, Some, None}
use Rattle.std.specs.Prelude.{slice_index, slice_index_or}
use Rattle.std.proofs.lemmas.List.{take-replicate, get_or-replicate}
use mathlib.Core.Option.{some, some-injective, some-ne-none}
use lib.ListN.{get_elem?}
use Rattle.atomic_table.specs.Table.{opening}
use Rattle.det_board.specs.declared.view.View.{View}
use Rattle.det_board.specs.declared.view.View.TheVariants.{Tick}
use Rattle.det_board.specs.Rule.{last_from, last_read, owned_by, fronts_word, rears_word, CountsAt, Fits, Keeps, opening_view}
use Rattle.det_board.specs.Passes.{AreSums, events_at}

pub all_zero : (n d : ℕ) → let z : ℕ × ℕ = (0, 0) in slice_index_or (replicate n z) d z ≡ z
all_zero zero d = refl
all_zero (suc n) zero = refl
all_zero (suc n) (suc d) = all_zero n d

-- the sums of no counts
pub zero_sums : AreSums (replicate 64 (0, 0)) (replicate 16 0)
zero_sums = record {
  size = refl;
  sums_count = refl;
  sum = λ g low. let z : ℕ × ℕ = (0, 0) in
      let none : (d : ℕ) → events_at (replicate 64 z) d ≡ 0 = λ d. ap (λ (p : ℕ × ℕ). p.0 + p.1) (all_zero 64 d) in
      let n : ℕ = 4 * g in
      get_or-replicate 16 g 0 0 low ∙ (λ i. sym (none n) i + sym (none (n + 1)) i + (sym (none (n + 2)) i + sym (none (n + 3)) i));
}

zeros : (n i : ℕ) → slice_index (replicate n 0) i ≡ 0
zeros zero i = refl
zeros (suc n) zero = refl
zeros (suc n) (suc i) = zeros n i

empties : (n i : ℕ) → let e : List ℕ = [] in slice_index_or (replicate n e) i [] ≡ e
empties zero i = refl
empties (suc n) zero = refl
empties (suc n) (suc i) = empties n i

pub nothing_read : (n i : ℕ) → let e : List ℕ = [] in last_read (replicate n e) i ≡ 0
nothing_read n i = ap (last_from 0) (empties n i)

pub length-same : {A : Type 0} → (n : ℕ) (x : A) → length (replicate n x) ≡ n
length-same zero x = refl
length-same (suc n) x = ap suc (length-same n x)

owned_at : (n d : ℕ) (c : ℕ × ℕ) → let z : ℕ × ℕ = (0, 0) in slice_index_or (replicate n (Some z)) d None ≡ Some c → (d < n) × (c ≡ z)
owned_at zero d c e = absurd (cc)
owned_at (suc n) zero c e = (omega arith, some_is e)
  where
    some_is : {a b : ℕ × ℕ} → Some a ≡ Some b → b ≡ a
    some_is e = cc
owned_at (suc n) (suc d) c e = let r = owned_at n d c e in (omega (arith, r.0), r.1)

pub owned_first : (n d : ℕ) → d < n → let z : ℕ × ℕ = (0, 0) in slice_index_or (replicate n (Some z)) d None ≡ Some z
owned_first zero d h = absurd (omega arith)
owned_first (suc n) zero h = refl
owned_first (suc n) (suc d) h = owned_first n d (omega arith)

pub opens : (detectors : ℕ) → Keeps detectors (opening (replicate (8 * detectors) 0) [] (opening_view detectors))
opens detectors =
    let z : ℕ × ℕ = (0, 0) in
    let none_loaded : List ℕ = [] in
    let W = replicate (8 * detectors) 0 in
    let L = replicate (8 * detectors) none_loaded in
    let O = replicate detectors (Some z) in
    let zero_words : (i : ℕ) → slice_index W i ≡ 0 = zeros (8 * detectors) in
    let seat : ℕ = 0 in
    let F : (d : ℕ) (c : ℕ × ℕ) → owned_by (Tick 0 L O) d ≡ Some c → (d < detectors) × (seat ≡ seat) × CountsAt W d c = λ d c e. let at =
    owned_at detectors d c e in (
      at.0,
      refl,
      subst (CountsAt W d) (sym at.1)
          (record { fronts = zero_words (fronts_word d); rears = zero_words (rears_word d); ordered = omega arith; bounded = omega arith }),
    ) in
    record {
      tick = 0;
      dealt = 0;
      loads = L;
      owned = O;
      owner = λ _. 0;
      word_count = length-same (8 * detectors) 0;
      load_count = length-same (8 * detectors) none_loaded;
      ticks = refl;
      fits = λ i v e. one i v e F;
      has_owner = λ d inside. (Tick 0 L O, refl, (z, owned_first detectors d inside));
      read = λ w inside. let a = nothing_read (8 * detectors) w in omega arith;
      reached = (
        [],
        λ i. record {
          fronts = λ d. zero_words (fronts_word d) i;
          rears = λ d. zero_words (rears_word d) i;
          fronts_read =
              λ d. nothing_read (8 * detectors) (fronts_word d) i;
          rears_read = λ d. nothing_read (8 * detectors) (rears_word d) i;
        },
      );
    }
  where
    one : (i : ℕ) (v : View) → get_elem? (opening_view detectors ∷ []) i ≡ some v →
        ((d : ℕ) (c : ℕ × ℕ) → owned_by (opening_view detectors) d ≡ Some c → (d < detectors) × (let seat : ℕ = 0 in seat ≡ seat)
        × CountsAt (replicate (8 * detectors) 0) d c) → Fits detectors (replicate (8 * detectors) 0) 0 (λ _. 0) i v
    one zero v e F = subst (λ u. Fits detectors (replicate (8 * detectors) 0) 0 (λ _. 0) 0 u) (some-injective (opening_view detectors) v e)
        (record { one_tick = λ _. refl; one_owner = F })
    one (suc i) v e F = absurd (some-ne-none v (sym e))

pub opens_at : (detectors : ℕ) (ws : List ℕ) → ws ≡ replicate (8 * detectors) 0 → Keeps detectors (opening ws [] (opening_view detectors))
opens_at detectors ws e = subst (λ w. Keeps detectors (opening w [] (opening_view detectors))) (sym e) (opens detectors)

pub opens_front : (detectors n : ℕ) (zs : List ℕ) → zs ≡ replicate 512 0 → n ≡ detectors → detectors ≤ 64 →
    Keeps detectors (opening (take (8 * n) zs) [] (opening_view detectors))
opens_front detectors n zs e same low = opens_at detectors (take (8 * n) zs)
    (ap (take (8 * n)) e ∙ take-replicate (8 * n) 512 0 (omega arith) ∙ ap (λ k. replicate (8 * k) 0) same)
