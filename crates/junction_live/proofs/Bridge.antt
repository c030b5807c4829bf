-- Sums over the places of a frame, and the counts of detectors.
use Rattle.std.proofs.Common.{◌≡◌, ◌∙◌, ℕ, ◌+◌, ◌-◌, ◌<◌, ◌≤◌, List, [], ◌∷◌, ◌++◌, length, take, ap, subst, arith, length-append}
use Rattle.std.specs.Prelude.{slice_index_or}
use Rattle.std.specs.List.{sum_by}
use Rattle.std.proofs.lemmas.List.{take_all}
use Rattle.sig_types.specs.Counts.{AreFrames, Counts, Takes, fronts, rears, count_in, count_to}
use Rattle.junction_live.specs.Play.{all_fronts, all_rears, fronts_in, rears_in}

fronts_count : (fs : List Counts) (d n : ℕ) → length fs ≤ n → count_to fronts fs (d + 1) n ≡ all_fronts d fs
fronts_count fs d n le =
    let place : d + 1 - 1 ≡ d = omega arith in
    ap (λ l. sum_by (count_in fronts (d + 1)) l) (take_all n fs le)
    ∙ ap (λ (k : ℕ). sum_by (λ (f : Counts). (slice_index_or f k (0, 0)).0) fs) place

rears_count : (fs : List Counts) (d n : ℕ) → length fs ≤ n → count_to rears fs (d + 1) n ≡ all_rears d fs
rears_count fs d n le =
    let place : d + 1 - 1 ≡ d = omega arith in
    ap (λ l. sum_by (count_in rears (d + 1)) l) (take_all n fs le)
    ∙ ap (λ (k : ℕ). sum_by (λ (f : Counts). (slice_index_or f k (0, 0)).1) fs) place

pub takes_from : (fs : List Counts) (f : Counts) → length fs < 604801 → length f ≡ 64 →
    ((d : ℕ) → d < 64 → (all_rears d (fs ++ f ∷ []) ≤ all_fronts d (fs ++ f ∷ [])) × (all_fronts d (fs ++ f ∷ []) ≤ 2147483647)) → Takes fs f
takes_from fs f few size sums = record {
  few = few;
  size = size;
  counts = λ d some most.
      let p = d - 1 in
      let lt : p < 64 = omega (arith, most) in
      let back : p + 1 ≡ d = omega (arith, some) in
      let long : length (fs ++ f ∷ []) ≤ length fs + 1 = omega (arith, length-append fs (f ∷ [])) in
      let s = sums p lt in
      let a = fronts_count (fs ++ f ∷ []) p (length fs + 1) long in
      let b = rears_count (fs ++ f ∷ []) p (length fs + 1) long in
      let within : count_to rears (fs ++ f ∷ []) (p + 1) (length fs + 1) ≤ count_to fronts (fs ++ f ∷ []) (p + 1) (length fs + 1) = omega (arith, a, b, s.0) in
      let bounded : count_to fronts (fs ++ f ∷ []) (p + 1) (length fs + 1) ≤ 2147483647 = omega (arith, a, s.1) in (
        subst (λ n. count_to rears (fs ++ f ∷ []) n (length fs + 1) ≤ count_to fronts (fs ++ f ∷ []) n (length fs + 1)) back within,
        subst (λ n. count_to fronts (fs ++ f ∷ []) n (length fs + 1) ≤ 2147483647) back bounded,
      );
}

-- frames of a detector file, by the places of detectors
pub record ByPlace (fs : List Counts) : Type 0 where
  pub count : length fs ≤ 604800
  pub fronts : (n d : ℕ) → n < length fs → d < 64 → fronts_in d (slice_index_or fs n []) ≤ 99
  pub rears : (n d : ℕ) → n < length fs → d < 64 → rears_in d (slice_index_or fs n []) ≤ 99
  pub ordered : (n d : ℕ) → n ≤ length fs → d < 64 → all_rears d (take n fs) ≤ all_fronts d (take n fs)

pub by_place : (fs : List Counts) → AreFrames fs → ByPlace fs
by_place fs are = record {
  count = are.few;
  fronts = λ n d lt low. (let place : d + 1 - 1 ≡ d = omega arith in
      subst (λ (k : ℕ). fronts_in k (slice_index_or fs n []) ≤ 99) place (are.fronts_fit n (d + 1) lt (omega arith) (omega arith)));
  rears = λ n d lt low. (let place : d + 1 - 1 ≡ d = omega arith in
      subst (λ (k : ℕ). rears_in k (slice_index_or fs n []) ≤ 99) place (are.rears_fit n (d + 1) lt (omega arith) (omega arith)));
  ordered = λ n d le low. (let place : d + 1 - 1 ≡ d = omega arith in
      subst (λ (k : ℕ). all_rears k (take n fs) ≤ all_fronts k (take n fs)) place (are.behind n (d + 1) le (omega arith) (omega arith)));
}
