-- The rule of the board: what its words and the views of its seats have to do with one another.
use Rattle.std.specs.Prelude.{◌≡◌, ℕ, suc, ◌+◌, ◌*◌, ◌<◌, ◌≤◌, List, [], ◌∷◌, ◌++◌, length, Option, Some, None, slice_index, slice_index_or, slice_set, replicate, ◌==◌, if◌then◌else◌}
use mathlib.Core.Option.{some}
use lib.ListN.{get_elem?}
use Rattle.atomic_table.specs.Table.{State, Step, Me}
use Rattle.det_board.specs.declared.view.View.{View}
use Rattle.det_board.specs.declared.view.View.TheVariants.{Tick, Feeder, Spent}
use Rattle.det_board.specs.Interleaving.{Marks, Reached}

-- the most fronts of a detector
abbrev pub most_fronts : ℕ
most_fronts = 2147483647

-- the place of the word with the fronts of the detector at place d
abbrev pub fronts_word : ℕ → ℕ
fronts_word d = 8 * d

-- the place of the word with its rears
abbrev pub rears_word : ℕ → ℕ
rears_word d = 8 * d + 1

-- the last of a list of values, or n where it is empty
abbrev pub last_from : ℕ → List ℕ → ℕ
last_from n [] = n
last_from n (x ∷ xs) = last_from x xs

-- the value that was read of a word last, or 0 where it was never read
abbrev pub last_read : List (List ℕ) → ℕ → ℕ
last_read loads word = last_from 0 (slice_index_or loads word [])

-- the loads with one more of a word
abbrev pub loads_after : List (List ℕ) → ℕ → ℕ → List (List ℕ)
loads_after loads word n = slice_set loads word (slice_index_or loads word [] ++ n ∷ [])

-- the counts of the detector at place d that a view owns
abbrev pub owned_by : View → ℕ → Option (ℕ × ℕ)
owned_by (Tick dealt loads owned) d = slice_index_or owned d None
owned_by (Feeder k fronts rears) d = if d == k then Some (fronts, rears) else None
owned_by Spent d = None

-- the view is the tick's
abbrev pub IsTick : View → Type 0
IsTick (Tick dealt loads owned) = Unit {0}
IsTick (Feeder k fronts rears) = ⊥
IsTick Spent = ⊥

-- the values that a view knows it loaded
abbrev pub loads_of : View → List (List ℕ)
loads_of (Tick dealt loads owned) = loads
loads_of (Feeder k fronts rears) = []
loads_of Spent = []

-- the words and the tick's view, as a state of the interleaving
abbrev pub marks_of : List ℕ → List (List ℕ) → Marks
marks_of words loads = record {
  fronts = λ d. slice_index words (fronts_word d);
  rears = λ d. slice_index words (rears_word d);
  fronts_read = λ d. last_read loads (fronts_word d);
  rears_read = λ d. last_read loads (rears_word d);
}

-- the owner's counts c of the detector at place d are its two words; its rears are at most its fronts
pub record CountsAt (words : List ℕ) (d : ℕ) (c : ℕ × ℕ) : Type 0 where
  pub fronts : slice_index words (fronts_word d) ≡ c.0
  pub rears : slice_index words (rears_word d) ≡ c.1
  pub ordered : c.1 ≤ c.0
  pub bounded : c.0 ≤ most_fronts

-- the view of seat i is the tick's only at the tick's seat, and the seat owns what it says that it owns
pub record Fits (detectors : ℕ) (words : List ℕ) (tick : ℕ) (owner : ℕ → ℕ) (i : ℕ) (v : View) : Type 0 where
  pub one_tick : IsTick v → i ≡ tick
  pub one_owner : (d : ℕ) (c : ℕ × ℕ) → owned_by v d ≡ Some c → (d < detectors) × (owner d ≡ i) × CountsAt words d c

-- the seat i owns the detector at place d
abbrev pub Owns : List View → ℕ → ℕ → Type 0
Owns views d i = (v : View) × (get_elem? views i ≡ some v) × ((c : ℕ × ℕ) × (owned_by v d ≡ Some c))

-- the rule of the board: one seat is the tick's; each detector has one owner, whose counts are its two words; what was read
-- of a word is at most what stands there; and words and loads are reached by events
pub record Keeps (detectors : ℕ) (s : State (Unit {0}) View) : Type 0 where
  pub tick : ℕ
  pub dealt : ℕ
  pub loads : List (List ℕ)
  pub owned : List (Option (ℕ × ℕ))
  pub owner : ℕ → ℕ
  pub word_count : length s.words ≡ 8 * detectors
  pub load_count : length loads ≡ 8 * detectors
  pub ticks : get_elem? s.views tick ≡ some (Tick dealt loads owned)
  pub fits : (i : ℕ) (v : View) → get_elem? s.views i ≡ some v → Fits detectors s.words tick owner i v
  pub has_owner : (d : ℕ) → d < detectors → Owns s.views d (owner d)
  pub read : (w : ℕ) → w < 8 * detectors → last_read loads w ≤ slice_index s.words w
  pub reached : Reached (marks_of s.words loads)

-- the tick's view before any detector is dealt
abbrev pub opening_view : ℕ → View
opening_view detectors = Tick 0 (replicate (8 * detectors) []) (replicate detectors (Some (0, 0)))

-- the tick's seat gives up the detector that is dealt next, and the new seat has it
abbrev pub dealt_from : View → View
dealt_from (Tick dealt loads owned) = Tick (suc dealt) loads (slice_set owned dealt None)
dealt_from (Feeder k fronts rears) = Feeder k fronts rears
dealt_from Spent = Spent

-- the view of a feeder that gets these counts
abbrev pub feeder_of : ℕ → Option (ℕ × ℕ) → View
feeder_of d (Some c) = Feeder d c.0 c.1
feeder_of d None = Spent

-- the view of the seat that gets the detector dealt next
abbrev pub dealt_to : View → View
dealt_to (Tick dealt loads owned) = feeder_of dealt (slice_index_or owned dealt None)
dealt_to (Feeder k fronts rears) = Spent
dealt_to Spent = Spent

-- the tick's seat takes in a feeder's
abbrev pub given_back : View → View → View
given_back (Tick dealt loads owned) (Feeder d fronts rears) = Tick dealt loads (slice_set owned d (Some (fronts, rears)))
given_back (Tick dealt loads owned) (Tick a b c) = Tick dealt loads owned
given_back (Tick dealt loads owned) Spent = Tick dealt loads owned
given_back (Feeder k fronts rears) w = Feeder k fronts rears
given_back Spent w = Spent

-- a feeder's view with one front more
abbrev pub with_front : View → View
with_front (Feeder k fronts rears) = Feeder k (fronts + 1) rears
with_front (Tick a b c) = Tick a b c
with_front Spent = Spent

-- a feeder's view with one rear more
abbrev pub with_rear : View → View
with_rear (Feeder k fronts rears) = Feeder k fronts (rears + 1)
with_rear (Tick a b c) = Tick a b c
with_rear Spent = Spent

-- the tick's view with one load more
abbrev pub with_load : ℕ → ℕ → View → View
with_load word n (Tick dealt loads owned) = Tick dealt (loads_after loads word n) owned
with_load word n (Feeder k fronts rears) = Feeder k fronts rears
with_load word n Spent = Spent

-- what a step of each kind tells its seat: a front
abbrev pub Fronts : Step (Unit {0}) → Me (Unit {0}) View → ℕ → Me (Unit {0}) View → Type 0
Fronts s v found w = w ≡ (with_front v.0, v.1)

-- a rear
abbrev pub Rears : Step (Unit {0}) → Me (Unit {0}) View → ℕ → Me (Unit {0}) View → Type 0
Rears s v found w = w ≡ (with_rear v.0, v.1)

-- a load of a rears word: what it found is at least what was read of the word before
abbrev pub ReadsRears : Step (Unit {0}) → Me (Unit {0}) View → ℕ → Me (Unit {0}) View → Type 0
ReadsRears s v found w =
    (w ≡ (with_load s.word found v.0, v.1)) × (last_read (loads_of v.0) s.word ≤ found) × (found ≤ most_fronts)

-- a load of a fronts word: what it found is also at least the rears that were read last
abbrev pub ReadsFronts : Step (Unit {0}) → Me (Unit {0}) View → ℕ → Me (Unit {0}) View → Type 0
ReadsFronts s v found w =
    (w ≡ (with_load s.word found v.0, v.1)) × (last_read (loads_of v.0) s.word ≤ found) × (found ≤ most_fronts)
    × (last_read (loads_of v.0) (s.word + 1) ≤ found)

-- how many detectors were dealt
abbrev pub dealt_of : View → ℕ
dealt_of (Tick dealt loads owned) = dealt
dealt_of (Feeder k fronts rears) = 0
dealt_of Spent = 0

-- the counts of the detectors that the tick's view owns
abbrev pub owned_of : View → List (Option (ℕ × ℕ))
owned_of (Tick dealt loads owned) = owned
owned_of (Feeder k fronts rears) = []
owned_of Spent = []
