-- Accepted lines give frames as a detector file has them.
use Rattle.std.proofs.Common.{◌≡◌, ◌∙◌, ℕ, zero, suc, ◌+◌, ◌-◌, ◌<◌, ◌≤◌, Bool, true, false, not, List, [], ◌∷◌, ◌++◌, length, map, take, get_or, sum_by, nat_lt, nat_le, Option, Some, None, refl, sym, ap, subst, arith, ◌⊎◌, inl, inr, ◌&&◌, replicate}
use Rattle.std.specs.Str.Lines.{lines}
use Rattle.std.proofs.lemmas.Bool.{cases_lt, leb-false, leb-true, ltb-false}
use Rattle.std.proofs.lemmas.List.{take_all, take_more, length-take-le, length-set, length-map}
use Rattle.std.proofs.lemmas.List.Sums.{fold_push}
use Rattle.sig_types.specs.Counts.{AreFrames, Counts, fronts, rears, count_in, count_to}
use Rattle.sig_types.specs.FirstRefused.{first_refused, or_next, refused_to, when, with_line}
use Rattle.sig_types.proofs.LastBelow.{least_below-none}
use Rattle.det_stream.specs.declared.refusal.StreamWhy.{StreamWhy}
use Rattle.det_stream.specs.Entries.{Numbers, entries_of, entries_reason, frame_of, judge_entry, last_detector, numbers_of, numbers_why, with_entry}
use Rattle.det_stream.specs.Laws.{StreamsAreFrames}
use Rattle.det_stream.specs.Stream.{ahead_reason, before_refused, judge, judge_line, least_ahead, stream_of}
use Rattle.det_stream.specs.Totals.{HasAtMost}
use Rattle.det_stream.proofs.EntryLemmas.{entries_frame, frame_whole, small_put, zero_counts}

neither : {W : Type 0} (a b : Option W) → or_next a b ≡ None → (a ≡ None) × (b ≡ None)
neither None b is = (refl, is)
neither (Some x) b is = cc

unless : {W : Type 0} (b : Bool) (why : W) → when b why ≡ None → b ≡ false
unless true why is = cc
unless false why is = refl

-- of an accepted list each item is accepted
accepted_at : {A W : Type 0} (judge : List A → A → Option W) (xs : List A) (d : A) (n k : ℕ) → refused_to judge xs d n ≡ None → k < n →
    judge (take k xs) (get_or xs k d) ≡ None
unfolding refused_to
accepted_at judge xs d zero k is below = absurd (omega arith)
accepted_at judge xs d (suc n) k is below =
    let parts = neither (refused_to judge xs d n) (judge (take n xs) (get_or xs n d)) is in
    elim (cases_lt k n) [
      | inl before ↦ accepted_at judge xs d n k parts.0 before
      | inr last ↦ (let e : k ≡ n = omega arith in rw e parts.1)
    ]

-- ---- the entries of a line

-- counts of 64 detectors, of at most 99
record IsSmall (counts : Counts) : Type 0 where
  size : length counts ≡ 64
  small : HasAtMost 99 counts

within_both : (a b : Bool) → not (a && b) ≡ false → (a ≡ true) × (b ≡ true)
within_both true true e = (refl, refl)
within_both true false e = cc
within_both false b e = cc

put_small : (last : ℕ) (o : Option Numbers) (counts : Counts) → numbers_why last o ≡ None → IsSmall counts → IsSmall (with_entry counts o)
put_small last None counts none small = cc
put_small last (Some e) counts none small =
    let known = neither _ _ none in
    let range = neither _ _ known.1 in
    let d = within_both (nat_le 1 e.0) (nat_le e.0 64) (unless _ _ known.0) in
    let c = within_both (nat_le e.1 99) (nat_le e.2 99) (unless _ _ range.0) in
    record {
      size = length-set counts (e.0 - 1) (e.1, e.2) ∙ small.size;
      small = small_put counts e.0 e.1 e.2 small.small small.size (leb-true 1 e.0 d.0) (leb-true e.0 64 d.1) (leb-true e.1 99 c.0) (leb-true e.2 99 c.1);
    }

entries_small : (es : List (List ℕ)) (n : ℕ) → n ≤ length es → refused_to judge_entry es [] n ≡ None → IsSmall (entries_frame (take n es))
unfolding refused_to
entries_small es zero le none = record { size = refl; small = zero_counts 99 }
entries_small es (suc n) le none =
    let parts = neither (refused_to judge_entry es [] n) (judge_entry (take n es) (get_or es n [])) none in
    let before = entries_small es n (omega arith) parts.0 in
    let e : suc n ≡ n + 1 = omega arith in
    let pushed : entries_frame (take (suc n) es) ≡ with_entry (entries_frame (take n es)) (numbers_of (get_or es n [])) =
    ap (λ (k : ℕ). entries_frame (take k es)) e ∙ ap entries_frame (take_more es n [] (omega arith))
    ∙ fold_push (λ counts entry. with_entry counts (numbers_of entry)) (replicate 64 (0, 0)) (take n es) (get_or es n []) in
    subst IsSmall (sym pushed) (put_small (last_detector (take n es)) (numbers_of (get_or es n [])) (entries_frame (take n es)) parts.1 before)

line_small : (line : List ℕ) → entries_reason line ≡ None → IsSmall (frame_of line)
line_small line none =
    let es : List (List ℕ) = entries_of line in
    subst IsSmall (ap entries_frame (take_all (length es) es (omega arith)) ∙ frame_whole line) (entries_small es (length es) (omega arith) none)

-- ---- the lines of a file

-- what the judgement of an accepted line says
record IsAccepted (before : List (List ℕ)) (line : List ℕ) : Type 0 where
  few : length before < 604800
  right : entries_reason line ≡ None
  within : least_ahead (map frame_of (before ++ line ∷ [])) ≡ None

unnumbered : (n : ℕ) (o : Option StreamWhy) → with_line n o ≡ None → o ≡ None
unnumbered n None is = refl
unnumbered n (Some why) is = cc

none_ahead : (o : Option ℕ) → ahead_reason o ≡ None → o ≡ None
none_ahead None is = refl
none_ahead (Some p) is = cc

line_accepted : (before : List (List ℕ)) (line : List ℕ) → judge before line ≡ None → IsAccepted before line
unfolding judge_line
line_accepted before line none =
    let many = neither _ _ (unnumbered (length before + 1) (judge_line before line) none) in
    let long = neither _ _ many.1 in
    let entries = neither _ _ long.1 in
    let ahead = neither _ _ entries.1 in
    record {
      few = leb-false 604800 (length before) (unless _ _ many.0);
      right = entries.0;
      within = none_ahead (least_ahead (map frame_of (before ++ line ∷ []))) ahead.0;
    }

-- no detector has more rears than fronts in these frames
not_ahead : (frames : List Counts) (d : ℕ) → least_ahead frames ≡ None → 1 ≤ d → d ≤ 64 → sum_by (count_in rears d) frames ≤ sum_by (count_in fronts d) frames
unfolding least_ahead
not_ahead frames d none least most =
    let place : d - 1 + 1 ≡ d = omega arith in
    let off = least_below-none (λ p. nat_lt (sum_by (count_in fronts (p + 1)) frames) (sum_by (count_in rears (p + 1)) frames)) 64 none (d - 1) (omega arith) in
    let here : nat_lt (sum_by (count_in fronts d) frames) (sum_by (count_in rears d) frames) ≡ false = rw place at off in
    ltb-false (sum_by (count_in fronts d) frames) (sum_by (count_in rears d) frames) here

mapped_at : (xs : List (List ℕ)) (k : ℕ) → k < length xs → get_or (map frame_of xs) k [] ≡ frame_of (get_or xs k [])
mapped_at [] k lt = absurd (omega arith)
mapped_at (x ∷ xs) zero lt = refl
mapped_at (x ∷ xs) (suc k) lt = mapped_at xs k (omega arith)

taken_at : (xs : List (List ℕ)) (n k : ℕ) → k < n → get_or (take n xs) k [] ≡ get_or xs k []
taken_at xs zero k lt = absurd (omega arith)
taken_at [] (suc n) k lt = refl
taken_at (x ∷ xs) (suc n) zero lt = refl
taken_at (x ∷ xs) (suc n) (suc k) lt = taken_at xs n k (omega arith)

mapped_front : (xs : List (List ℕ)) (n k : ℕ) → k ≤ n → take k (map frame_of (take n xs)) ≡ map frame_of (take k xs)
mapped_front xs n zero le = refl
mapped_front xs zero (suc k) le = absurd (omega arith)
mapped_front [] (suc n) (suc k) le = refl
mapped_front (x ∷ xs) (suc n) (suc k) le = ap (λ l. frame_of x ∷ l) (mapped_front xs n k (omega arith))

module _ (xs : List (List ℕ)) (n : ℕ) (inside : n ≤ length xs) (none : refused_to judge xs [] n ≡ None) where
  here : (k : ℕ) → k < n → IsAccepted (take k xs) (get_or xs k [])
  here k lt = line_accepted (take k xs) (get_or xs k []) (accepted_at judge xs [] n k none lt)

  abbrev frames : List Counts
  frames = map frame_of (take n xs)

  size : length frames ≡ n
  size = length-map (take n xs) frame_of ∙ length-take-le n xs inside

  frame_at : (k : ℕ) → k < n → get_or frames k [] ≡ frame_of (get_or xs k [])
  frame_at k lt = mapped_at (take n xs) k (omega (arith, lt, length-take-le n xs inside)) ∙ ap frame_of (taken_at xs n k lt)

  small_at : (k : ℕ) → k < n → IsSmall (get_or frames k [])
  small_at k lt = subst IsSmall (sym (frame_at k lt)) (line_small (get_or xs k []) (here k lt).right)

  few : (k : ℕ) → k ≤ n → k ≤ 604800
  few zero le = omega arith
  few (suc k) le = omega (arith, (here k (omega (arith, le))).few, length-take-le k xs (omega (arith, le, inside)))

  behind_at : (k d : ℕ) → k ≤ n → 1 ≤ d → d ≤ 64 → count_to rears frames d k ≤ count_to fronts frames d k
  behind_at zero d le least most = omega arith
  behind_at (suc k) d le least most =
      let e : suc k ≡ k + 1 = omega arith in
      let front : take (suc k) frames ≡ map frame_of (take k xs ++ get_or xs k [] ∷ []) =
      mapped_front xs n (suc k) le ∙ ap (λ (j : ℕ). map frame_of (take j xs)) e ∙ ap (map frame_of) (take_more xs k [] (omega (arith, le, inside))) in
      rw front (not_ahead (map frame_of (take k xs ++ get_or xs k [] ∷ [])) d (here k (omega (arith, le))).within least most)

  accepted_are_frames : AreFrames frames
  accepted_are_frames = record {
    few = omega (arith, size, few n (omega arith));
    sizes = λ k lt. (small_at k (omega (arith, lt, size))).size;
    fronts_fit = λ k d lt least most. ((small_at k (omega (arith, lt, size))).small (d - 1) (omega arith)).0;
    rears_fit = λ k d lt least most. ((small_at k (omega (arith, lt, size))).small (d - 1) (omega arith)).1;
    behind = λ k d le least most. behind_at k d (omega (arith, le, size)) least most;
  }

-- ---- the first refused line

either : (o next : Option (ℕ × StreamWhy)) (at : ℕ × StreamWhy) → or_next o next ≡ Some at → (o ≡ Some at) ⊎ ((o ≡ None) × (next ≡ Some at))
either (Some w) next at is = inl is
either None next at is = inr (refl, is)

numbered : (n : ℕ) (o : Option StreamWhy) (at : ℕ × StreamWhy) → with_line n o ≡ Some at → at.0 ≡ n
numbered n None at is = cc
numbered n (Some why) at is = let e : (n, why) ≡ at = cc in sym (ap (λ (p : ℕ × StreamWhy). p.0) e)

-- the lines before the first refused one are accepted
before_first : (xs : List (List ℕ)) (n : ℕ) (at : ℕ × StreamWhy) → n ≤ length xs → refused_to judge xs [] n ≡ Some at →
    (at.0 - 1 ≤ length xs) × (refused_to judge xs [] (at.0 - 1) ≡ None)
unfolding refused_to
before_first xs zero at le is = cc
before_first xs (suc n) at le is = elim (either (refused_to judge xs [] n) (judge (take n xs) (get_or xs n [])) at is) [
  | inl early ↦ before_first xs n at (omega arith) early
  | inr here ↦ (
      let line = numbered (length (take n xs) + 1) (judge_line (take n xs) (get_or xs n [])) at here.1 in
      let place : at.0 - 1 ≡ n = omega (arith, line, length-take-le n xs (omega arith)) in
      (omega (arith, place, le), rw place here.0))
]

front_frames : (xs : List (List ℕ)) (o : Option (ℕ × StreamWhy)) → first_refused judge xs [] ≡ o → AreFrames (map frame_of (before_refused o xs))
front_frames xs None is =
    subst (λ l. AreFrames (map frame_of l)) (take_all (length xs) xs (omega arith)) (accepted_are_frames xs (length xs) (omega arith) is)
front_frames xs (Some at) is =
    let first = before_first xs (length xs) at (omega arith) is in
    accepted_are_frames xs (at.0 - 1) first.0 first.1

pub streams_are_frames : StreamsAreFrames
unfolding stream_of
streams_are_frames bytes = front_frames (lines bytes) (first_refused judge (lines bytes) []) refl
