-- Frames as they are drawn.
use Rattle.std.proofs.Common.{
  ◌≡◌,
  ◌∙◌,
  ℕ,
  zero,
  suc,
  ◌+◌,
  ◌-◌,
  ◌<◌,
  [],
  ◌∷◌,
  ◌++◌,
  length,
  map,
  replicate,
  set,
  refl,
  sym,
  ap,
  arith,
  fold,
  slice_set,
  Bool,
  true,
  false,
  ◌≤◌,
  ◌%◌,
  ◌==◌,
  if◌then◌else◌,
  append_assoc,
  add-one,
}
use Rattle.std.proofs.lemmas.List.{append-nil, length-map, map-append}
use Rattle.std.proofs.lemmas.List.Sums.{fold-append}
use Rattle.std.proofs.Math.Seq.{set-append_seam}
use Rattle.rand_pcg.specs.Lcg.{Lcg}
use Rattle.rand_pcg.specs.Pcg.{pcg32}
use Rattle.sig_types.specs.Counts.{Counts}
use Rattle.junction_run.specs.Drawn.{
  words_from,
  after_words,
  drawn_pair,
  places_to,
  places_from,
  vehicles_at,
  after_frame,
  after_frames,
  frames_from,
  frame_from,
  generator_of,
  drawn,
}

-- one word more
words_from-more : (n : ℕ) (g : Lcg) → words_from (suc n) g ≡ words_from n g ++ (pcg32 (after_words n g)).0 ∷ []
words_from-more zero g = refl
words_from-more (suc n) g = ap (λ ws. (pcg32 g).0 ∷ ws) (words_from-more n (pcg32 g).1)

pub after_words-more : (n : ℕ) (g : Lcg) → after_words (suc n) g ≡ (pcg32 (after_words n g)).1
after_words-more zero g = refl
after_words-more (suc n) g = after_words-more n (pcg32 g).1

pub length-words : (n : ℕ) (g : Lcg) → length (words_from n g) ≡ n
length-words zero g = refl
length-words (suc n) g = ap suc (length-words n (pcg32 g).1)

-- the counts of one detector more
drawn_front-more : (n : ℕ) (g : Lcg) →
    map drawn_pair (words_from (n + 1) g) ≡ map drawn_pair (words_from n g) ++ drawn_pair (pcg32 (after_words n g)).0 ∷ []
drawn_front-more n g =
    ap (λ k. map drawn_pair (words_from k g)) (add-one n) ∙ ap (map drawn_pair) (words_from-more n g)
    ∙ map-append drawn_pair (words_from n g) ((pcg32 (after_words n g)).0 ∷ [])

-- a frame whose first n detectors are drawn
abbrev pub drawn_to : ℕ → Lcg → Counts
drawn_to n g = map drawn_pair (words_from n g) ++ replicate (64 - n) (0, 0)

-- one detector more
pub drawn_to-more : (n : ℕ) (g : Lcg) → n < 64 → set (drawn_to n g) n (drawn_pair (pcg32 (after_words n g)).0) ≡ drawn_to (n + 1) g
drawn_to-more n g lt =
    let front : Counts = map drawn_pair (words_from n g) in
    let pair : ℕ × ℕ = drawn_pair (pcg32 (after_words n g)).0 in
    let rest : Counts = replicate (64 - (n + 1)) (0, 0) in
    let left : 64 - n ≡ suc (64 - (n + 1)) = omega arith in
    let size : length front ≡ n = length-map (words_from n g) drawn_pair ∙ length-words n g in
    ap (λ k. set (front ++ replicate k (0, 0)) n pair) left
    ∙ ap (λ k. set (front ++ (0, 0) ∷ rest) k pair) (sym size)
    ∙ set-append_seam front (0, 0) rest pair
    ∙ sym (ap (λ l. l ++ rest) (drawn_front-more n g) ∙ append_assoc front (pair ∷ []) rest)

-- one detector more, of which nothing comes
pub drawn_to-silent : (n : ℕ) (g : Lcg) → n < 64 → drawn_pair (pcg32 (after_words n g)).0 ≡ (0, 0) → drawn_to n g ≡ drawn_to (n + 1) g
drawn_to-silent n g lt silent =
    let front : Counts = map drawn_pair (words_from n g) in
    let rest : Counts = replicate (64 - (n + 1)) (0, 0) in
    let left : 64 - n ≡ suc (64 - (n + 1)) = omega arith in
    ap (λ k. front ++ replicate k (0, 0)) left
    ∙ ap (λ pair. front ++ pair ∷ rest) (sym silent)
    ∙ sym (ap (λ l. l ++ rest) (drawn_front-more n g) ∙ append_assoc front (drawn_pair (pcg32 (after_words n g)).0 ∷ []) rest)

-- one place more
places_to-more : (n : ℕ) (g : Lcg) → places_to (n + 1) g ≡ places_to n g ++ (if (pcg32 (after_words n g)).0 % 8 == 0 then n ∷ [] else [])
places_to-more n g = ap (λ k. places_to k g) (add-one n)

-- one place more, whose word tells of a vehicle
pub places_to-vehicle : (n : ℕ) (g : Lcg) → ((pcg32 (after_words n g)).0 % 8 == 0) ≡ true → places_to (n + 1) g ≡ places_to n g ++ n ∷ []
places_to-vehicle n g is = places_to-more n g ∙ ap (λ hit. places_to n g ++ (if hit then n ∷ [] else [])) is

-- one place more, whose word tells of none
pub places_to-silent : (n : ℕ) (g : Lcg) → ((pcg32 (after_words n g)).0 % 8 == 0) ≡ false → places_to (n + 1) g ≡ places_to n g
places_to-silent n g is =
    places_to-more n g ∙ ap (λ hit. places_to n g ++ (if hit then n ∷ [] else [])) is ∙ append-nil (places_to n g)

-- one detector more, with a vehicle or without
one_more : (hit : Bool) (n : ℕ) (g : Lcg) → n < 64 → ((pcg32 (after_words n g)).0 % 8 == 0) ≡ hit →
    fold (λ counts place. slice_set counts place (1, 1)) (drawn_to n g) (if hit then n ∷ [] else []) ≡ drawn_to (n + 1) g
one_more true n g lt is =
    ap (λ b. set (drawn_to n g) n (if b then (1, 1) else (0, 0))) (sym is) ∙ drawn_to-more n g lt
one_more false n g lt is = drawn_to-silent n g lt (ap (λ b. if b then (1, 1) else (0, 0)) is)

-- the vehicles at the places that are drawn make the frame
pub vehicles_at-places : (n : ℕ) (g : Lcg) → n ≤ 64 → vehicles_at (places_to n g) ≡ drawn_to n g
vehicles_at-places zero g le = refl
vehicles_at-places (suc n) g le =
    let word : ℕ = (pcg32 (after_words n g)).0 in
    let before : vehicles_at (places_to n g) ≡ drawn_to n g = vehicles_at-places n g (omega arith) in
    fold-append (λ counts place. set counts place (1, 1)) (replicate 64 (0, 0)) (places_to n g) (if word % 8 == 0 then n ∷ [] else [])
    ∙ ap (λ counts. fold (λ counts place. set counts place (1, 1)) counts (if word % 8 == 0 then n ∷ [] else [])) before
    ∙ one_more (word % 8 == 0) n g (omega arith) refl
    ∙ ap (λ k. drawn_to k g) (add-one n)

-- the vehicles at the places of a second make its frame
pub vehicles_at-frame : (g : Lcg) → vehicles_at (places_from g) ≡ frame_from g
unfolding places_from frame_from
vehicles_at-frame g = vehicles_at-places 12 g (omega arith)

-- one frame more
pub after_frames-more : (n : ℕ) (g : Lcg) → after_frames (suc n) g ≡ after_frame (after_frames n g)
after_frames-more zero g = refl
after_frames-more (suc n) g = after_frames-more n (after_frame g)

frames_from-more : (n : ℕ) (g : Lcg) → frames_from (suc n) g ≡ frames_from n g ++ frame_from (after_frames n g) ∷ []
frames_from-more zero g = refl
frames_from-more (suc n) g = ap (λ fs. frame_from g ∷ fs) (frames_from-more n (after_frame g))

pub drawn-more : (seed n : ℕ) → drawn seed (n + 1) ≡ drawn seed n ++ frame_from (after_frames n (generator_of seed)) ∷ []
unfolding drawn
drawn-more seed n = ap (λ k. frames_from k (generator_of seed)) (add-one n) ∙ frames_from-more n (generator_of seed)

pub drawn-none : (seed : ℕ) → drawn seed 0 ≡ []
unfolding drawn
drawn-none seed = refl
