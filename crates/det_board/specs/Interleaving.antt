-- The interleavings of feeders and of the controller: events, and what they do to the words and to what the controller has
-- read. Nothing here speaks of the table.
use Rattle.std.specs.Prelude.{◌≡◌, ℕ, ◌+◌, ◌<◌, List, [], ◌∷◌, ◌==◌, if◌then◌else◌}

-- per detector the fronts and rears that stand in the words, and those that the controller has read
pub record Marks : Type 0 where
  pub fronts : ℕ → ℕ
  pub rears : ℕ → ℕ
  pub fronts_read : ℕ → ℕ
  pub rears_read : ℕ → ℕ

-- of a detector: a front, a rear, and the controller's load of its rears and of its fronts
pub data Event : Type 0 where
  front : ℕ → Event
  rear : ℕ → Event
  read_rears : ℕ → Event
  read_fronts : ℕ → Event

-- before the first event
abbrev pub no_marks : Marks
no_marks = record { fronts = λ _. 0; rears = λ _. 0; fronts_read = λ _. 0; rears_read = λ _. 0 }

-- the numbers f, with n at d
abbrev pub put : (ℕ → ℕ) → ℕ → ℕ → ℕ → ℕ
put f d n k = if k == d then n else f k

-- an event may happen; a rear only where the detector has fewer rears than fronts
abbrev pub May : Event → Marks → Type 0
May (front d) x = Unit {0}
May (rear d) x = x.rears d < x.fronts d
May (read_rears d) x = Unit {0}
May (read_fronts d) x = Unit {0}

-- what an event leaves
abbrev pub after : Event → Marks → Marks
after (front d) x = record x { fronts = put x.fronts d (x.fronts d + 1) }
after (rear d) x = record x { rears = put x.rears d (x.rears d + 1) }
after (read_rears d) x = record x { rears_read = put x.rears_read d (x.rears d) }
after (read_fronts d) x = record x { fronts_read = put x.fronts_read d (x.fronts d) }

-- the events may happen in this order, and lead from x to y
abbrev pub Leads : List Event → Marks → Marks → Type 0
Leads [] x y = y ≡ x
Leads (e ∷ es) x y = May e x × Leads es (after e x) y

-- some events lead from the no_marks state to x
abbrev pub Reached : Marks → Type 0
Reached x = (events : List Event) × Leads events no_marks x

-- the loads of one detector among the events, in order
abbrev pub reads_of : ℕ → List Event → List Event
reads_of d [] = []
reads_of d (front k ∷ es) = reads_of d es
reads_of d (rear k ∷ es) = reads_of d es
reads_of d (read_rears k ∷ es) = if k == d then read_rears k ∷ reads_of d es else reads_of d es
reads_of d (read_fronts k ∷ es) = if k == d then read_fronts k ∷ reads_of d es else reads_of d es

-- a take of this detector: its rears are loaded, and then its fronts, with any events of the feeders between
abbrev pub TakesOne : ℕ → List Event → Type 0
TakesOne d es = reads_of d es ≡ read_rears d ∷ read_fronts d ∷ []
