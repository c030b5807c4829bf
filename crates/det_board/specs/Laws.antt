-- Each kind of step of the board is one event of the interleaving, or none.
use Rattle.std.specs.Prelude.{◌≡◌, ◌≢◌, ℕ, suc, ◌+◌, ◌%◌, ◌^◌, ◌<◌, ◌≤◌, List, [], ◌∷◌, ◌++◌, length, Option, Some, None, slice_index, slice_index_or, slice_set}
use mathlib.Core.Option.{some}
use lib.ListN.{get_elem?}
use Rattle.atomic_table.specs.Table.{State, keeps, stepped}
use Rattle.det_board.specs.declared.view.View.{View}
use Rattle.det_board.specs.declared.view.View.TheVariants.{Tick, Feeder, Spent}
use Rattle.det_board.specs.Interleaving.{Marks, Event, front, rear, read_rears, read_fronts, May, after, Leads, Reached, TakesOne}
use Rattle.det_board.specs.Rule.{most_fronts, Keeps, marks_of, fronts_word, rears_word, loads_after}

-- words and views show these marks
abbrev pub Shows : ℕ → State (Unit {0}) View → Marks → Type 0
Shows detectors s m = (h : Keeps detectors s) × (marks_of s.words h.loads ≡ m)

-- from s to t the event happens
abbrev pub Steps : ℕ → Event → State (Unit {0}) View → State (Unit {0}) View → Type 0
Steps detectors e s t = (m : Marks) → Shows detectors s m → May e m × Shows detectors t (after e m)

-- from s to t no event happens
abbrev pub Moves : ℕ → State (Unit {0}) View → State (Unit {0}) View → Type 0
Moves detectors s t = (m : Marks) → Shows detectors s m → Shows detectors t m

-- the seat of this number has this view
abbrev pub Sits : State (Unit {0}) View → ℕ → View → Type 0
Sits s id v = get_elem? s.views id ≡ some v

-- the table after 1 was added to a word, and the seat's view became v
abbrev pub added : State (Unit {0}) View → ℕ → ℕ → View → State (Unit {0}) View
added s word id v = stepped s word ((slice_index s.words word + 1) % 2 ^ 64) id [] v keeps

-- the table after a word was loaded, and the seat's view became v
abbrev pub loaded : State (Unit {0}) View → ℕ → ℕ → View → State (Unit {0}) View
loaded s word id v = stepped s word (slice_index s.words word) id [] v keeps

-- a feeder's front is the event of its detector
abbrev pub FrontIsEvent : Type 0
FrontIsEvent = (detectors id d f r : ℕ) (s : State (Unit {0}) View)
    → Sits s id (Feeder d f r) → f < most_fronts → Steps detectors (front d) s (added s (fronts_word d) id (Feeder d (f + 1) r))

-- a feeder's rear is the event of its detector, and it may happen
abbrev pub RearIsEvent : Type 0
RearIsEvent = (detectors id d f r : ℕ) (s : State (Unit {0}) View)
    → Sits s id (Feeder d f r) → r < f → Steps detectors (rear d) s (added s (rears_word d) id (Feeder d f (r + 1)))

-- the load of a detector's rears word is that event
abbrev pub ReadRearsIsEvent : Type 0
ReadRearsIsEvent = (detectors id d dealt : ℕ) (loads : List (List ℕ)) (owned : List (Option (ℕ × ℕ))) (s : State (Unit {0}) View)
    → Sits s id (Tick dealt loads owned) → d < detectors
    → Steps detectors (read_rears d) s
    (loaded s (rears_word d) id (Tick dealt (loads_after loads (rears_word d) (slice_index s.words (rears_word d))) owned))

-- the load of a detector's fronts word is that event
abbrev pub ReadFrontsIsEvent : Type 0
ReadFrontsIsEvent = (detectors id d dealt : ℕ) (loads : List (List ℕ)) (owned : List (Option (ℕ × ℕ))) (s : State (Unit {0}) View)
    → Sits s id (Tick dealt loads owned) → d < detectors
    → Steps detectors (read_fronts d) s
    (loaded s (fronts_word d) id (Tick dealt (loads_after loads (fronts_word d) (slice_index s.words (fronts_word d))) owned))

-- a detector dealt to a feeder is no event
abbrev pub DealMoves : Type 0
DealMoves = (detectors id dealt f r : ℕ) (loads : List (List ℕ)) (owned : List (Option (ℕ × ℕ))) (s : State (Unit {0}) View)
    → Sits s id (Tick dealt loads owned) → slice_index_or owned dealt None ≡ Some (f, r)
    → Moves detectors s (record {
      words = s.words;
      homes = s.homes;
      views = slice_set s.views id (Tick (suc dealt) loads (slice_set owned dealt None)) ++ Feeder dealt f r ∷ [];
    })

-- a feeder's pass given back is no event
abbrev pub GiveBackMoves : Type 0
GiveBackMoves = (detectors id other dealt d f r : ℕ) (loads : List (List ℕ)) (owned : List (Option (ℕ × ℕ)))
    → (s : State (Unit {0}) View)
    → length owned ≡ detectors → Sits s id (Tick dealt loads owned) → other ≢ id → Sits s other (Feeder d f r)
    → Moves detectors s (record {
      words = s.words;
      homes = s.homes;
      views = slice_set (slice_set s.views id (Tick dealt loads (slice_set owned d (Some (f, r))))) other Spent;
    })

-- after a take a detector's rears read are at most its fronts read, and what was read never falls
abbrev pub TakesInOrder : Type 0
TakesInOrder = (d : ℕ) (es : List Event) (x y : Marks) → Reached x → TakesOne d es → Leads es x y
    → (y.rears_read d ≤ y.fronts_read d) × (x.rears_read d ≤ y.rears_read d) × (x.fronts_read d ≤ y.fronts_read d)
