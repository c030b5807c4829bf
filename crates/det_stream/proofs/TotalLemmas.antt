-- The counts so far, frame by frame.
use Rattle.std.proofs.Common.{◌≡◌, ℕ, zero, suc, ◌+◌, ◌-◌, ◌*◌, ◌<◌, ◌≤◌, Bool, List, [], ◌∷◌, ◌++◌, length, get_or, sum_by, nat_lt, Some, None, refl, sym, ap, ◌∙◌, arith, length-append, inl, inr}
use Rattle.std.proofs.lemmas.Bool.{le-ltb, lt-ltb, cases_lt}
use Rattle.std.proofs.lemmas.List.{take_all, get_or_append_left}
use Rattle.std.proofs.lemmas.List.Sums.{sum_by_push}
use Rattle.std.proofs.Math.Seq.{get_or-append_seam}
use Rattle.sig_types.specs.Counts.{Counts, Kind, fronts, rears, count_in, count_to, AreFrames, IsZeroOutside, Takes}
use Rattle.sig_types.specs.Words.{least_below}
use Rattle.det_stream.specs.Stream.{least_ahead}
use Rattle.det_stream.specs.Totals.{counts_at, HasAtMost, RearsWithinFronts, SilentWithinFronts, IsSum, AreTotals, least_ahead_in}
use Rattle.sig_types.proofs.LastBelow.{least_below-never, least_below-at}
use Rattle.sig_types.proofs.FrameLaws.{count_before}

pub none_ahead : (totals : Counts) → RearsWithinFronts totals → least_ahead_in totals ≡ None
none_ahead totals behind = least_below-never (λ p. nat_lt (counts_at totals p).0 (counts_at totals p).1) 64
    (λ j lt. le-ltb (counts_at totals j).0 (counts_at totals j).1 (behind j lt))

-- a detector without counts in the frame has those that it had
pub silent_sum : (totals frame : Counts) (k : ℕ) → counts_at frame k ≡ (0, 0) →
    ((counts_at totals k).0 ≡ (counts_at totals k).0 + (counts_at frame k).0) × ((counts_at totals k).1 ≡ (counts_at totals k).1 + (counts_at frame k).1)
silent_sum totals frame k none = rw none (omega arith, omega arith)

-- the counts so far, where no detector of a span has more rears than fronts
pub within_span : (totals frame : Counts) (low high place : ℕ) → IsZeroOutside low high frame → high ≤ place → SilentWithinFronts frame totals →
    ((k : ℕ) → k < place → (counts_at totals k).1 ≤ (counts_at totals k).0) → RearsWithinFronts totals
within_span totals frame low high place outside end silent inside p lt = elim (cases_lt p place) [
  | inl before ↦ inside p before
  | inr after ↦ silent p lt (outside.after p (omega arith))
]

-- the other detectors have what they had
pub silent_within : (old frame new : Counts) → RearsWithinFronts old → IsSum old frame new → SilentWithinFronts frame new
silent_within old frame new within sum p lt none =
    let f : (counts_at frame p).0 ≡ 0 = ap (λ (x : ℕ × ℕ). x.0) none in
    let r : (counts_at frame p).1 ≡ 0 = ap (λ (x : ℕ × ℕ). x.1) none in
    omega (arith, sum.fronts_are p lt, sum.rears_are p lt, within p lt, f, r)

pub one_ahead : (totals : Counts) (n : ℕ) → (counts_at totals n).0 < (counts_at totals n).1 → n < 64 →
    ((j : ℕ) → j < n → (counts_at totals j).1 ≤ (counts_at totals j).0) → least_ahead_in totals ≡ Some n
one_ahead totals n here lt before = least_below-at (λ p. nat_lt (counts_at totals p).0 (counts_at totals p).1) 64 n
    (lt-ltb (counts_at totals n).0 (counts_at totals n).1 here) lt
    (λ j below. le-ltb (counts_at totals j).0 (counts_at totals j).1 (before j below))

least_same : (p q : ℕ → Bool) (n : ℕ) → ((j : ℕ) → j < n → p j ≡ q j) → least_below p n ≡ least_below q n
unfolding least_below
least_same p q zero same = refl
least_same p q (suc n) same = rw (least_same p q n (λ j lt. same j (omega arith)), same n (omega arith)) refl

-- the counts so far are sums over all frames
count_all : (kind : Kind) (frames : List Counts) (d : ℕ) → count_to kind frames d (length frames) ≡ sum_by (count_in kind d) frames
count_all kind frames d = ap (sum_by (count_in kind d)) (take_all (length frames) frames (omega arith))

pub ahead_is : (totals : Counts) (frames : List Counts) → AreTotals totals frames → least_ahead frames ≡ least_ahead_in totals
unfolding least_ahead
ahead_is totals frames are = least_same (λ p. nat_lt (sum_by (count_in fronts (p + 1)) frames) (sum_by (count_in rears (p + 1)) frames))
    (λ p. nat_lt (counts_at totals p).0 (counts_at totals p).1) 64
    (λ j lt. (let f : sum_by (count_in fronts (j + 1)) frames ≡ (counts_at totals j).0 = sym (are.fronts_are j lt ∙ count_all fronts frames (j + 1)) in
    let r : sum_by (count_in rears (j + 1)) frames ≡ (counts_at totals j).1 = sym (are.rears_are j lt ∙ count_all rears frames (j + 1)) in
    rw (f, r) refl))

count_pushed : (kind : Kind) (frames : List Counts) (frame : Counts) (d : ℕ) →
    count_to kind (frames ++ frame ∷ []) d (length (frames ++ frame ∷ [])) ≡ count_to kind frames d (length frames) + count_in kind d frame
count_pushed kind frames frame d = count_all kind (frames ++ frame ∷ []) d ∙ sum_by_push (count_in kind d) frames frame ∙
    ap (λ (n : ℕ). n + count_in kind d frame) (sym (count_all kind frames d))

place_is : (p : ℕ) → p + 1 - 1 ≡ p
place_is p = omega arith

pub totals_more : (old frame new : Counts) (frames : List Counts) → AreTotals old frames → IsSum old frame new → AreTotals new (frames ++ frame ∷ [])
totals_more old frame new frames are sum = record {
  fronts_are = λ p lt. (let one : count_in fronts (p + 1) frame ≡ (counts_at frame p).0 = rw (place_is p) refl in
      sum.fronts_are p lt ∙ ap (λ (n : ℕ). n + (counts_at frame p).0) (are.fronts_are p lt) ∙
      sym (count_pushed fronts frames frame (p + 1) ∙ ap (λ (n : ℕ). count_to fronts frames (p + 1) (length frames) + n) one));
  rears_are = λ p lt. (let one : count_in rears (p + 1) frame ≡ (counts_at frame p).1 = rw (place_is p) refl in
      sum.rears_are p lt ∙ ap (λ (n : ℕ). n + (counts_at frame p).1) (are.rears_are p lt) ∙
      sym (count_pushed rears frames frame (p + 1) ∙ ap (λ (n : ℕ). count_to rears frames (p + 1) (length frames) + n) one));
}

-- what holds of each of these frames and of one more holds of all
each_more : (P : Counts → Type 0) (frames : List Counts) (frame : Counts) → ((n : ℕ) → n < length frames → P (get_or frames n [])) → P frame →
    (n : ℕ) → n < length (frames ++ frame ∷ []) → P (get_or (frames ++ frame ∷ []) n [])
each_more P frames frame each one n lt = elim (cases_lt n (length frames)) [
  | inl inside ↦ rw (get_or_append_left frames (frame ∷ []) [] n inside) (each n inside)
  | inr outside ↦ (let last : n ≡ length frames = omega (arith, length-append frames (frame ∷ []), lt, outside) in
      rw (last, get_or-append_seam frames frame [] []) one)
]

pub frames_more : (frames : List Counts) (frame totals : Counts) → AreFrames frames → length frames < 604800 → length frame ≡ 64 → HasAtMost 99 frame →
    AreTotals totals (frames ++ frame ∷ []) → RearsWithinFronts totals → AreFrames (frames ++ frame ∷ [])
frames_more frames frame totals are few size small sums behind = record {
  few = omega (arith, length-append frames (frame ∷ []), few);
  sizes = each_more (λ f. length f ≡ 64) frames frame are.sizes size;
  fronts_fit = λ n d lt least most. each_more (λ f. count_in fronts d f ≤ 99) frames frame (λ i inside. are.fronts_fit i d inside least most)
      (small (d - 1) (omega arith)).0 n lt;
  rears_fit = λ n d lt least most. each_more (λ f. count_in rears d f ≤ 99) frames frame (λ i inside. are.rears_fit i d inside least most)
      (small (d - 1) (omega arith)).1 n lt;
  behind = λ n d le least most. elim (cases_lt n (length frames + 1)) [
    | inl inside ↦ (let within : n ≤ length frames = omega arith in
        rw (count_before fronts frames frame d n within, count_before rears frames frame d n within) (are.behind n d within least most))
    | inr outside ↦ (
        let last : n ≡ length (frames ++ frame ∷ []) = omega (arith, length-append frames (frame ∷ []), le, outside) in
        let place : d - 1 + 1 ≡ d = omega arith in
        let f = rw place at (sums.fronts_are (d - 1) (omega arith)) in
        let r = rw place at (sums.rears_are (d - 1) (omega arith)) in
        rw last (omega (arith, f, r, behind (d - 1) (omega arith))))
  ];
}

-- the next frame can be taken
pub takes_next : (second : ℕ) (frames : List Counts) (frame totals : Counts) → second < 604800 → length frames < 604800 → length frame ≡ 64 →
    AreTotals totals (frames ++ frame ∷ []) → HasAtMost (99 * (second + 1)) totals → RearsWithinFronts totals → Takes frames frame
takes_next second frames frame totals early few size sums most behind = record {
  few = omega arith;
  size = size;
  counts = λ d least greatest. (
      let whole : length (frames ++ frame ∷ []) ≡ length frames + 1 = length-append frames (frame ∷ []) in
      let place : d - 1 + 1 ≡ d = omega arith in
      let f = rw (place, whole) at (sums.fronts_are (d - 1) (omega arith)) in
      let r = rw (place, whole) at (sums.rears_are (d - 1) (omega arith)) in
      (omega (arith, f, r, behind (d - 1) (omega arith)), omega (arith, f, early, (most (d - 1) (omega arith)).0)));
}
