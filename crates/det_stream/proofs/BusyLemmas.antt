-- The lines in which a detector has counts.
use Rattle.std.proofs.Common.{◌≡◌, ℕ, zero, suc, ◌+◌, ◌-◌, ◌<◌, ◌≤◌, true, List, [], ◌∷◌, ◌++◌, length, map, set, refl, sym, ap, ◌∙◌, arith, subst, add-one, length-append, inl, inr, ◌==◌, ◌&&◌}
use Rattle.std.proofs.lemmas.Bool.{cases_Bool, cases_lt, and_parts, eqb-true, eq-eqb, ne_eqb}
use Rattle.std.proofs.lemmas.List.{ext_get_or, get_or_append_left, get_or-map, length-map, map-append, get_or-set_same, get_or-set_other}
use Rattle.std.proofs.lemmas.List.Elements.{All-head, All-tail, All-append, All-nil, All-cons, filter-append}
use Rattle.std.specs.Prelude.{filter, slice_index_or}
use Rattle.std.specs.List.{All}
use Rattle.std.proofs.Math.Seq.{get_or-append_seam}
use Rattle.sig_types.specs.Counts.{AreFrames, Counts}
use Rattle.det_stream.specs.Totals.{HasAtMost}
use Rattle.det_stream.specs.declared.busy.BusyLine.{BusyLine}
use Rattle.det_stream.specs.Busy.{is_busy, busy_counts, busy_line, counts_in_line, frame_of_line, frames_of, line_kept, line_number, AreSilent, KeepsLine, AreKept}

pub length-frames_of : (ds : List (List BusyLine)) (n : ℕ) → length (frames_of ds n) ≡ n
unfolding frames_of
length-frames_of ds zero = refl
length-frames_of ds (suc n) = omega (arith, length-append (frames_of ds n) (frame_of_line n ds ∷ []), length-frames_of ds n)

pub no_frames : (ds : List (List BusyLine)) → frames_of ds 0 ≡ []
unfolding frames_of
no_frames ds = refl

no_counts : (c : ℕ × ℕ) → (c.0 == 0 && c.1 == 0) ≡ true → (0, 0) ≡ c
no_counts c e =
    let parts = and_parts (c.0 == 0) (c.1 == 0) e in
    (λ i. (sym (eqb-true c.0 0 parts.0) i, sym (eqb-true c.1 0 parts.1) i))

-- the line of one detector more was kept
pub one_place : (n p : ℕ) (f : Counts) (first lists : List (List BusyLine)) (l : List BusyLine) → length lists ≡ 64 → p < 64 →
    ((d : ℕ) → d < p → d < 64 → slice_index_or lists d [] ≡ slice_index_or first d [] ++ line_kept n (slice_index_or f d (0, 0))) →
    ((d : ℕ) → p ≤ d → slice_index_or lists d [] ≡ slice_index_or first d []) → l ≡ slice_index_or lists p [] ++ line_kept n (slice_index_or f p (0, 0)) →
    ((d : ℕ) → d < p + 1 → d < 64 → slice_index_or (set lists p l) d [] ≡ slice_index_or first d [] ++ line_kept n (slice_index_or f d (0, 0)))
    × ((d : ℕ) → p + 1 ≤ d → slice_index_or (set lists p l) d [] ≡ slice_index_or first d [])
one_place n p f first lists l size low done left is = (
  λ d lt inside. elim (cases_lt d p) [
    | inl before ↦ get_or-set_other lists p d l [] (λ e. omega (arith, e, before)) ∙ done d before inside
    | inr after ↦ (let here : d ≡ p = omega arith in
        rw here (get_or-set_same lists p l [] (omega (arith, size, low)) ∙ is ∙
        ap (λ bs. bs ++ line_kept n (slice_index_or f p (0, 0))) (left p (omega arith))))
  ],
  λ d after. get_or-set_other lists p d l [] (λ e. omega (arith, e, after)) ∙ left d (omega arith),
)

number_is : (n : ℕ) (c : ℕ × ℕ) → line_number (busy_line n c) ≡ n
unfolding line_number busy_line
number_is n c = omega arith

counts_are : (n : ℕ) (c : ℕ × ℕ) → (busy_line n c).counts ≡ c
unfolding busy_line
counts_are n c = refl

-- a later line changes nothing in this one
earlier : (k n : ℕ) (c : ℕ × ℕ) (bs : List BusyLine) → k < n → counts_in_line k (bs ++ line_kept n c) ≡ counts_in_line k bs
earlier k n c [] lt = elim (cases_Bool (c.0 == 0 && c.1 == 0)) [
  | inl e ↦ rw e refl
  | inr e ↦ rw (e, number_is n c, ne_eqb n k (λ same. omega (arith, same, lt))) refl
]
earlier k n c (b ∷ bs) lt = rw (earlier k n c bs lt) refl

-- the line that was kept last
latest : (n : ℕ) (c : ℕ × ℕ) (bs : List BusyLine) → All (λ b. line_number b < n) bs → counts_in_line n (bs ++ line_kept n c) ≡ c
latest n c [] before = elim (cases_Bool (c.0 == 0 && c.1 == 0)) [
  | inl e ↦ rw e (no_counts c e)
  | inr e ↦ rw (e, number_is n c, eq-eqb n n refl) (counts_are n c)
]
latest n c (b ∷ bs) before =
    let lt : line_number b < n = All-head (λ b. line_number b < n) b bs before in
    rw (ne_eqb (line_number b) n (λ same. omega (arith, same, lt))) (latest n c bs (All-tail (λ b. line_number b < n) b bs before))

at : (ds : List (List BusyLine)) (n d : ℕ) → d < length ds → slice_index_or (frame_of_line n ds) d (0, 0) ≡ counts_in_line n (slice_index_or ds d [])
at ds n d lt = get_or-map (counts_in_line n) ds d [] (0, 0) lt

module _ (n : ℕ) (f : Counts) (old new : List (List BusyLine)) (kept : AreKept n old) (keeps : KeepsLine n f old new) where
  frame_stays : (k : ℕ) → k < n → frame_of_line k new ≡ frame_of_line k old
  frame_stays k lt =
      ext_get_or (0, 0) (frame_of_line k new) (frame_of_line k old)
      (omega (arith, keeps.size, kept.size, length-map new (counts_in_line k), length-map old (counts_in_line k)))
      (λ d inside. (let low : d < 64 = omega (arith, inside, keeps.size, length-map new (counts_in_line k)) in
      at new k d (omega (arith, keeps.size)) ∙ ap (counts_in_line k) (keeps.each d low) ∙ earlier k n (slice_index_or f d (0, 0)) (slice_index_or old d []) lt
      ∙ sym (at old k d (omega (arith, kept.size)))))

  frame_is : length f ≡ 64 → frame_of_line n new ≡ f
  frame_is size =
      ext_get_or (0, 0) (frame_of_line n new) f (omega (arith, keeps.size, size, length-map new (counts_in_line n)))
      (λ d inside. (let low : d < 64 = omega (arith, inside, keeps.size, length-map new (counts_in_line n)) in
      at new n d (omega (arith, keeps.size)) ∙ ap (counts_in_line n) (keeps.each d low) ∙
      latest n (slice_index_or f d (0, 0)) (slice_index_or old d []) (kept.before d low)))

  frames_stay : (k : ℕ) → k ≤ n → frames_of new k ≡ frames_of old k
  unfolding frames_of
  frames_stay zero le = refl
  frames_stay (suc k) le = rw (frames_stay k (omega arith), frame_stays k (omega arith)) refl

  -- one frame more
  one_more : length f ≡ 64 → frames_of new (suc n) ≡ frames_of old n ++ f ∷ []
  unfolding frames_of
  one_more size = rw (frames_stay n (omega arith), frame_is size) refl

  pub frames_more : length f ≡ 64 → frames_of new (n + 1) ≡ frames_of old n ++ f ∷ []
  frames_more size = subst (λ k. frames_of new k ≡ frames_of old n ++ f ∷ []) (sym (add-one n)) (one_more size)

  -- and one line more is kept
  pub kept_more : length f ≡ 64 → AreKept (n + 1) new
  kept_more size = record {
    size = keeps.size;
    before = λ d low. before_more d low;
    counts = λ d low. counts_more d low;
  }
    where
      one_before : (c : ℕ × ℕ) → All (λ b. line_number b < n + 1) (line_kept n c)
      one_before c = elim (cases_Bool (c.0 == 0 && c.1 == 0)) [
        | inl e ↦ rw e (All-nil (λ b. line_number b < n + 1))
        | inr e ↦ rw e (All-cons (λ b. line_number b < n + 1) (busy_line n c) [] (omega (arith, number_is n c)) (All-nil (λ b. line_number b < n + 1)))
      ]

      before_more : (d : ℕ) → d < 64 → All (λ b. line_number b < n + 1) (slice_index_or new d [])
      before_more d low = rw (keeps.each d low) (All-append (λ b. line_number b < n + 1) (slice_index_or old d []) (line_kept n (slice_index_or f d (0, 0)))
          (λ i b lt. (let less = kept.before d low i b lt in omega (arith, less))) (one_before (slice_index_or f d (0, 0))))

      one_counts : (c : ℕ × ℕ) → map (λ b. b.counts) (line_kept n c) ≡ filter is_busy (c ∷ [])
      one_counts c = elim (cases_Bool (c.0 == 0 && c.1 == 0)) [
        | inl e ↦ rw e refl
        | inr e ↦ rw (e, counts_are n c) refl
      ]

      counts_more : (d : ℕ) → d < 64 → map (λ b. b.counts) (slice_index_or new d []) ≡ busy_counts d (frames_of new (n + 1))
      counts_more d low =
          let c = slice_index_or f d (0, 0) in
          let counts_at_d : Counts → ℕ × ℕ = λ g. slice_index_or g d (0, 0) in
          ap (map (λ b. b.counts)) (keeps.each d low) ∙ map-append (λ b. b.counts) (slice_index_or old d []) (line_kept n c)
          ∙ ap (λ l. l ++ map (λ b. b.counts) (line_kept n c)) (kept.counts d low) ∙ ap (λ l. busy_counts d (frames_of old n) ++ l) (one_counts c)
          ∙ sym (ap (busy_counts d) (frames_more size) ∙ ap (filter is_busy) (map-append counts_at_d (frames_of old n) (f ∷ []))
          ∙ filter-append is_busy (map counts_at_d (frames_of old n)) (c ∷ []))

pub kept_none : (ds : List (List BusyLine)) → AreSilent ds → AreKept 0 ds
unfolding frames_of
kept_none ds silent = record {
  size = silent.size;
  before = λ d low. rw (silent.none d low) (All-nil (λ b. line_number b < 0));
  counts = λ d low. rw (silent.none d low) refl;
}

-- the last of frames that a detector file has has small counts
pub small_counts : (fs : List Counts) (f : Counts) → AreFrames (fs ++ f ∷ []) → HasAtMost 99 f
small_counts fs f are p low =
    let here : slice_index_or (fs ++ f ∷ []) (length fs) [] ≡ f = get_or-append_seam fs f [] [] in
    let inside : length fs < length (fs ++ f ∷ []) = omega (arith, length-append fs (f ∷ [])) in
    let back : p + 1 - 1 ≡ p = omega arith in (
      rw (here, back) at (are.fronts_fit (length fs) (p + 1) inside (omega arith) (omega arith)),
      rw (here, back) at (are.rears_fit (length fs) (p + 1) inside (omega arith) (omega arith)),
    )

-- the frame at a place
pub frame_at : (ds : List (List BusyLine)) (n k : ℕ) → k < n → slice_index_or (frames_of ds n) k [] ≡ frame_of_line k ds
unfolding frames_of
frame_at ds zero k lt = absurd (omega arith)
frame_at ds (suc n) k lt = elim (cases_lt k n) [
  | inl before ↦ get_or_append_left (frames_of ds n) (frame_of_line n ds ∷ []) [] k (omega (arith, length-frames_of ds n, before)) ∙ frame_at ds n k before
  | inr after ↦ (let last : k ≡ n = omega arith in
      rw last (ap (λ i. slice_index_or (frames_of ds n ++ frame_of_line n ds ∷ []) i []) (sym (length-frames_of ds n)) ∙
      get_or-append_seam (frames_of ds n) (frame_of_line n ds) [] []))
]

-- a frame that has the counts of a line at each place is that line's
pub is_frame : (ds : List (List BusyLine)) (n k : ℕ) (f : Counts) → k < n → length ds ≡ 64 → length f ≡ 64 →
    ((d : ℕ) → d < 64 → slice_index_or f d (0, 0) ≡ counts_in_line k (slice_index_or ds d [])) → f ≡ slice_index_or (frames_of ds n) k []
is_frame ds n k f lt size long each =
    ext_get_or (0, 0) f (frame_of_line k ds) (omega (arith, size, long, length-map ds (counts_in_line k)))
    (λ d inside. (let low : d < 64 = omega (arith, inside, long) in each d low ∙ sym (at ds k d (omega (arith, size, low)))))
    ∙ sym (frame_at ds n k lt)
