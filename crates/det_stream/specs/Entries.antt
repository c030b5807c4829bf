-- The entries of a line.
use Rattle.std.specs.Prelude.{ℕ, ◌-◌, Bool, not, ◌&&◌, ◌||◌, List, [], ◌∷◌, length, take, replicate, slice_index_or, slice_set, fold, nat_le, Option, Some, None, Result, Ok, Err, is_some, true, ◌≡◌, ◌≤◌, if◌then◌else◌, ◌==◌}
use Rattle.std.specs.List.{position_or_len, slice_split}
use Rattle.sig_types.specs.Counts.{Counts}
use Rattle.sig_types.specs.FirstRefused.{first_reason, first_refused, when}
use Rattle.sig_types.specs.Text.{number_of}
use Rattle.det_stream.specs.declared.refusal.StreamWhy.{StreamWhy}
use Rattle.det_stream.specs.declared.refusal.StreamWhy.TheVariants as why

-- an empty line has no entry; the entries of another are parted by one space
abbrev pub entries_of : List ℕ → List (List ℕ)
entries_of [] = []
entries_of (b ∷ bs) = slice_split (λ c. c == 32) (b ∷ bs)

-- where the entry that a text begins with ends: at its first space, or its end
abbrev pub entry_end : List ℕ → ℕ
entry_end text = position_or_len (λ c. c == 32) text

-- the entry that a text begins with
abbrev pub first_entry : List ℕ → List ℕ
first_entry text = take (entry_end text) text

-- there is a space or the end of the text at this place
abbrev pub ends_at : List ℕ → ℕ → Bool
ends_at text n = n == length text || slice_index_or text n 0 == 32

-- a decimal number of at most 9 digits
abbrev pub field_number : List ℕ → Option ℕ
field_number bs = if nat_le (length bs) 9 then number_of bs else None

-- a detector, its fronts and its rears
abbrev pub Numbers : Type 0
Numbers = ℕ × ℕ × ℕ

-- the three numbers, where each is there
abbrev pub all_three : Option ℕ → Option ℕ → Option ℕ → Option Numbers
all_three None f r = None
all_three (Some d) None r = None
all_three (Some d) (Some f) None = None
all_three (Some d) (Some f) (Some r) = Some (d, f, r)

-- the numbers of three parts; other parts have none
abbrev pub numbers_in : List (List ℕ) → Option Numbers
numbers_in (d ∷ f ∷ r ∷ []) = all_three (field_number d) (field_number f) (field_number r)
numbers_in _ = None

-- the three parts of an entry, cut at its colons
abbrev pub HasParts : List ℕ → List ℕ → List ℕ → List ℕ → Type 0
HasParts entry d f r = slice_split (λ c. c == 58) entry ≡ d ∷ f ∷ r ∷ []

-- the three of an entry, each of which is a number
pub record AreNumbers (numbers : Option Numbers) (d f r : Option ℕ) : Type 0 where
  pub are : numbers ≡ all_three d f r
  pub detector : is_some d ≡ true
  pub fronts : is_some f ≡ true
  pub rears : is_some r ≡ true

-- the numbers of an entry of the form d:f:r
unfoldable pub numbers_of : List ℕ → Option Numbers
numbers_of entry = numbers_in (slice_split (λ c. c == 58) entry)

-- a text begins with an entry of this length that has these numbers
pub record BeginsWith (text : List ℕ) (n : ℕ) (numbers : Numbers) : Type 0 where
  pub end_is : entry_end text ≡ n
  pub numbers_are : numbers_of (take n text) ≡ Some numbers
  pub inside : n ≤ length text

-- the numbers of an entry are those of these three parts
abbrev pub HasNumbers : List ℕ → List ℕ → List ℕ → List ℕ → Type 0
HasNumbers entry d f r = AreNumbers (numbers_of entry) (number_of d) (number_of f) (number_of r)

-- the first reason to refuse an entry after one of the detector `last`, 0 where there is none
abbrev pub numbers_why : ℕ → Option Numbers → Option StreamWhy
numbers_why last None = Some why.Entry
numbers_why last (Some n) = first_reason (
    when (not (nat_le 1 n.0 && nat_le n.0 64)) why.Unknown
    ∷ when (not (nat_le n.1 99 && nat_le n.2 99)) why.Range
    ∷ when (nat_le n.0 last) why.Order
    ∷ [])

-- the detector, and 0 for no entry
abbrev pub detector_in : Option Numbers → ℕ
detector_in None = 0
detector_in (Some n) = n.0

-- the detector of the last of these entries, 0 where there is none
abbrev pub last_detector : List (List ℕ) → ℕ
last_detector before = detector_in (numbers_of (slice_index_or before (length before - 1) []))

-- the first reason to refuse an entry after these entries
abbrev pub judge_entry : List (List ℕ) → List ℕ → Option StreamWhy
judge_entry before entry = numbers_why (last_detector before) (numbers_of entry)

-- the first reason to refuse an entry of a line, from the left
abbrev pub entries_reason : List ℕ → Option StreamWhy
entries_reason line = first_refused judge_entry (entries_of line) []

-- an answer tells the reason to refuse, and is a success where there is none
abbrev pub IsJudged : {A : Type 0} → Option StreamWhy → Result A StreamWhy → Type 0
IsJudged reason (Ok x) = reason ≡ None
IsJudged reason (Err refused) = reason ≡ Some refused

-- the counts with those of an entry
abbrev pub with_entry : Counts → Option Numbers → Counts
with_entry counts None = counts
with_entry counts (Some n) = slice_set counts (n.0 - 1) (n.1, n.2)

-- the frame of a line whose entries are right; a detector without an entry has no front and no rear
unfoldable pub frame_of : List ℕ → Counts
frame_of line = fold (λ counts entry. with_entry counts (numbers_of entry)) (replicate 64 (0, 0)) (entries_of line)
