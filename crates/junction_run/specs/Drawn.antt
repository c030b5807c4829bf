-- The frames of a sample, drawn from a seed.
use Rattle.std.specs.Prelude.{ℕ, zero, suc, ◌%◌, ◌==◌, List, [], ◌∷◌, ◌++◌, fold, map, replicate, slice_set, if◌then◌else◌}
use Rattle.rand_pcg.specs.Lcg.{Lcg, started, increment_of}
use Rattle.rand_pcg.specs.Pcg.{pcg32, multiplier_64}
use Rattle.sig_types.specs.Counts.{Counts}

-- so many words of 32 bits, from a generator on
abbrev pub words_from : ℕ → Lcg → List ℕ
words_from zero g = []
words_from (suc n) g = (pcg32 g).0 ∷ words_from n (pcg32 g).1

-- the generator after so many words
abbrev pub after_words : ℕ → Lcg → Lcg
after_words zero g = g
after_words (suc n) g = after_words n (pcg32 g).1

-- one front and one rear where 8 divides the word
abbrev pub drawn_pair : ℕ → ℕ × ℕ
drawn_pair word = if word % 8 == 0 then (1, 1) else (0, 0)

-- the places below n whose words tell of a vehicle
abbrev pub places_to : ℕ → Lcg → List ℕ
places_to zero g = []
places_to (suc n) g = places_to n g ++ (if (pcg32 (after_words n g)).0 % 8 == 0 then n ∷ [] else [])

-- the places whose words tell of a vehicle in a second
unfoldable pub places_from : Lcg → List ℕ
places_from g = places_to 12 g

-- one front and one rear at each of these places, and nothing elsewhere
abbrev pub vehicles_at : List ℕ → Counts
vehicles_at places = fold (λ counts place. slice_set counts place (1, 1)) (replicate 64 (0, 0)) places

-- the frame of a second: a word for each of detectors 1 to 12, and nothing for the others
unfoldable pub frame_from : Lcg → Counts
frame_from g = map drawn_pair (words_from 12 g) ++ replicate 52 (0, 0)

-- the generator after a frame
unfoldable pub after_frame : Lcg → Lcg
after_frame g = after_words 12 g

-- the generator after so many frames
abbrev pub after_frames : ℕ → Lcg → Lcg
after_frames zero g = g
after_frames (suc n) g = after_frames n (after_frame g)

-- so many frames, from a generator on
abbrev pub frames_from : ℕ → Lcg → List Counts
frames_from zero g = []
frames_from (suc n) g = frame_from g ∷ frames_from n (after_frame g)

-- the generator of a seed, in stream 1
unfoldable pub generator_of : ℕ → Lcg
generator_of seed = started 64 multiplier_64 seed (increment_of 64 1)

-- the frames of so many seconds
unfoldable pub drawn : (seed seconds : ℕ) → List Counts
drawn seed seconds = frames_from seconds (generator_of seed)
