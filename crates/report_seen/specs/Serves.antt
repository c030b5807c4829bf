-- Detectors that are asked for because they serve a group.
use Rattle.std.specs.Prelude.{ℕ, ◌-◌, ◌==◌, Bool, false, true, List, [], ◌∷◌, ◌++◌, fold, replicate, slice_index_or, slice_set, Option, None, Some, if◌then◌else◌}
use Rattle.std.specs.List.{slice_split}
use Rattle.std.specs.Option.{option_and_then, option_map}
use Rattle.sig_types.specs.Text.{cut_at, is_name, number_of, within}
use Rattle.log_read.specs.Fields.{place_of}
use Rattle.log_sums.specs.declared.serves.Serve.{Serve}

-- the chosen detectors and one more, where that is there and wasn't chosen yet
abbrev pub chosen_more : List Bool → Option ℕ → Option (List Bool)
chosen_more chosen None = None
chosen_more chosen (Some d) = if slice_index_or chosen (d - 1) false then None else Some (slice_set chosen (d - 1) true)

-- what was chosen so far, and a further number from 1 to 64
abbrev pub with_detector : Option (List Bool) → List ℕ → Option (List Bool)
with_detector None word = None
with_detector (Some chosen) word = chosen_more chosen (within 1 64 (number_of word))

-- the detectors that these words name, each once
abbrev pub detector_items : List (List ℕ) → Option (List Bool)
detector_items words = fold with_detector (Some (replicate 64 false)) words

-- the detectors of a list that is parted by commas
abbrev pub detectors_in : List ℕ → Option (List Bool)
detectors_in text = detector_items (slice_split (λ b. b == 44) text)

-- the detectors before a colon, and the name of a group behind it
abbrev pub serve_parts : List ℕ × List ℕ → Option (List Bool × List ℕ)
serve_parts p = if is_name p.1 then option_map (λ d. (d, p.1)) (detectors_in p.0) else None

-- DETECTORS:GROUP
unfoldable pub serve_in : List ℕ → Option (List Bool × List ℕ)
serve_in word = option_and_then serve_parts (cut_at 58 word)

-- the detectors and the group, where one of these has the name
unfoldable pub serve_for : List (List ℕ) → List ℕ → Option Serve
serve_for names word = option_and_then (λ p. option_map (λ g. record { group = g; detectors = p.0 }) (place_of names p.1)) (serve_in word)

-- what was named so far, and what a further word names
abbrev pub with_serve : List (List ℕ) → Option (List Serve) → List ℕ → Option (List Serve)
with_serve names None word = None
with_serve names (Some serves) word = option_map (λ s. serves ++ s ∷ []) (serve_for names word)

-- what these words name, where each group is one of these
abbrev pub serves_for : List (List ℕ) → List (List ℕ) → Option (List Serve)
serves_for names words = fold (with_serve names) (Some []) words

-- every second word
abbrev pub serve_words : List (List ℕ) → List (List ℕ)
serve_words [] = []
serve_words (word ∷ []) = []
serve_words (option ∷ word ∷ rest) = word ∷ serve_words rest
