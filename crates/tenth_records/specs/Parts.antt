-- The parts of a record in which all is known, each with a picture for every tenth of a second.
use Rattle.std.specs.Prelude.{ℕ, ◌+◌, ◌-◌, Bool, true, false, List, [], ◌∷◌, ◌++◌, replicate}
use Rattle.sig_types.specs.Turns as turns
use Rattle.tenth_records.specs.declared.entry.Entry.{Entry}
use Rattle.tenth_records.specs.declared.entry.Shown.{Shown}
use Rattle.tenth_records.specs.declared.entry.Shown.TheVariants.{Picture, Unknown, End}

-- a part: the tenth in which it begins, and the picture of each of its tenths
pub record Part : Type 0 where
  pub first : ℕ
  pub pictures : List turns.Picture

-- so many times the picture that is shown, and what comes behind it; nothing where none is
abbrev pub shown_then : ℕ → Shown → List turns.Picture → List turns.Picture
shown_then n (Picture picture) rest = replicate n picture ++ rest
shown_then n Unknown rest = []
shown_then n End rest = []

-- the pictures from a time on up to the next cut or the end: each is shown up to the time of the entry behind it
unfoldable pub pictures_from : ℕ → Shown → List Entry → List turns.Picture
pictures_from at shown [] = []
pictures_from at shown (e ∷ es) = shown_then (e.at - at) shown (pictures_from e.at e.shown es)

-- whether a picture is shown
abbrev pub is_known : Shown → Bool
is_known (Picture picture) = true
is_known Unknown = false
is_known End = false

-- the part that begins with an entry, where none was before it
abbrev pub begun_by : Bool → ℕ → Shown → List Entry → List Part
begun_by true at shown es = []
begun_by false at (Picture picture) es = record { first = at; pictures = pictures_from at (Picture picture) es } ∷ []
begun_by false at Unknown es = []
begun_by false at End es = []

-- the parts that entries tell, the first of which is within a part or not
unfoldable pub parts_in : Bool → List Entry → List Part
parts_in inside [] = []
parts_in inside (e ∷ es) = begun_by inside e.at e.shown es ++ parts_in (is_known e.shown) es

-- the parts of a record
abbrev pub parts_of : List Entry → List Part
parts_of entries = parts_in false entries

-- of how many tenths nothing is known from a time on, up to the entry behind it
abbrev pub unknown_to : ℕ → Shown → List Entry → ℕ
unknown_to at (Picture picture) es = 0
unknown_to at Unknown [] = 0
unknown_to at Unknown (e ∷ es) = e.at - at
unknown_to at End es = 0

-- of how many tenths nothing is known
unfoldable pub unknown_in : List Entry → ℕ
unknown_in [] = 0
unknown_in (e ∷ es) = unknown_to e.at e.shown es + unknown_in es
