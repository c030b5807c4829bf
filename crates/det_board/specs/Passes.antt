-- What a clause sees of the board and of its passes.
use Rattle.std.specs.Prelude.{◌≡◌, ℕ, ◌+◌, ◌-◌, ◌*◌, ◌<◌, ◌≤◌, List, [], ◌∷◌, ◌++◌, length, Some, None, slice_get, slice_index_or, slice_set, replicate}
use Rattle.atomic_table.specs.Table.{Me}
use Rattle.atomic_table.specs.Seated.{TableId}
use Rattle.sig_types.specs.Counts.{Counts}
use Rattle.det_board.specs.declared.view.View.{View}
use Rattle.det_board.specs.declared.view.View.TheVariants.{Tick, Feeder}
use Rattle.det_board.specs.Rule.{most_fronts, last_read, loads_after, fronts_word, rears_word, loads_of, owned_of, dealt_of, owned_by, IsTick}

-- which table it is, and how many detectors it has
pub record Boarded : Type 0 where
  pub table : TableId
  pub detectors : ℕ

-- a feeder's pass: of which table, the place of its detector, and its own counts
pub record Feeding : Type 0 where
  pub table : TableId
  pub place : ℕ
  pub fronts : ℕ
  pub rears : ℕ

-- the tick's pass: of which table, and the values that it loaded of each word
pub record Ticking : Type 0 where
  pub table : TableId
  pub loads : List (List ℕ)

-- the values that the tick loaded of a detector's fronts, in order
abbrev pub fronts_loads : Ticking → ℕ → List ℕ
fronts_loads t d = slice_index_or t.loads (fronts_word d) []

-- the values that the tick loaded of a detector's rears, in order
abbrev pub rears_loads : Ticking → ℕ → List ℕ
rears_loads t d = slice_index_or t.loads (rears_word d) []

-- the fronts of a detector that the tick read last
abbrev pub fronts_read : Ticking → ℕ → ℕ
fronts_read t d = last_read t.loads (fronts_word d)

-- the rears of a detector that the tick read last
abbrev pub rears_read : Ticking → ℕ → ℕ
rears_read t d = last_read t.loads (rears_word d)

-- the seat is a feeder's, with these counts
pub record IsFeeding (id : TableId) (me : Me (Unit {0}) View) (place fronts rears : ℕ) : Type 0 where
  pub view : me ≡ (Feeder place fronts rears, [])
  pub ordered : rears ≤ fronts
  pub bounded : fronts ≤ most_fronts
  pub in_range : place < 64
  pub on_board : 8 * place + 1 < id.words

-- the seat is the tick's, and the last values read stand in `read`
pub record IsTicking (id : TableId) (me : Me (Unit {0}) View) (totals : Counts) : Type 0 where
  pub view : me ≡ (Tick (dealt_of me.0) (loads_of me.0) (owned_of me.0), [])
  pub load_count : length (loads_of me.0) ≡ id.words
  pub owned_count : 8 * length (owned_of me.0) ≡ id.words
  pub size : length totals ≡ 64
  pub read : (d : ℕ) → d < 64 →
      slice_index_or totals d (0, 0)
      ≡ (last_read (loads_of me.0) (fronts_word d), last_read (loads_of me.0) (rears_word d))
  pub ordered : (d : ℕ) → d < 64 →
      (last_read (loads_of me.0) (rears_word d) ≤ last_read (loads_of me.0) (fronts_word d))
      × (last_read (loads_of me.0) (fronts_word d) ≤ most_fronts)

-- the fronts and rears of the detector at place d together
abbrev pub events_at : Counts → ℕ → ℕ
events_at counts d = (slice_index_or counts d (0, 0)).0 + (slice_index_or counts d (0, 0)).1

-- those of the four detectors from place d on
abbrev pub events_from : Counts → ℕ → ℕ
events_from counts d = events_at counts d + events_at counts (d + 1) + (events_at counts (d + 2) + events_at counts (d + 3))

-- each sum is that of the fronts and rears of four detectors, the first of which is at four times its place
pub record AreSums (counts : Counts) (sums : List ℕ) : Type 0 where
  pub size : length counts ≡ 64
  pub sums_count : length sums ≡ 16
  pub sum : (g : ℕ) → g < 16 → slice_index_or sums g 0 ≡ events_from counts (4 * g)

-- a detector may have these counts
abbrev pub AreCounts : ℕ × ℕ → Type 0
AreCounts c = (c.1 ≤ c.0) × (c.0 ≤ most_fronts)

-- what the counts c exceed those of the detector at place d
abbrev pub gain_of : Counts → ℕ → ℕ × ℕ → ℕ × ℕ
gain_of counts d c = (c.0 - (slice_index_or counts d (0, 0)).0, c.1 - (slice_index_or counts d (0, 0)).1)

-- the place is in that four: four f has the places 4 * f to 4 * f + 3
abbrev pub IsInFour : ℕ → ℕ → Type 0
IsInFour four place = (four < 16) × (4 * four ≤ place) × (place < 4 * four + 4)

-- the detector at place d, whose counts stand in `counts`, may now have the counts c
pub record GrowsTo (counts : Counts) (d : ℕ) (c : ℕ × ℕ) : Type 0 where
  pub inside : d < 64
  pub fronts : (slice_index_or counts d (0, 0)).0 ≤ c.0
  pub rears : (slice_index_or counts d (0, 0)).1 ≤ c.1
  pub ordered : c.1 ≤ c.0
  pub bounded : c.0 ≤ most_fronts

-- the tick's seat after it loaded both words of the detector at place d, first that of its rears; it found c
pub record LoadsOne (d : ℕ) (id : TableId) (me : Me (Unit {0}) View) (id' : TableId) (me' : Me (Unit {0}) View)
    (c : ℕ × ℕ) : Type 0 where
  pub table : id' ≡ id
  pub view : me' ≡ (
    Tick (dealt_of me.0) (loads_after (loads_after (loads_of me.0) (rears_word d) c.1) (fronts_word d) c.0)
        (owned_of me.0),
    [],
  )
  pub inside : 8 * d + 1 < length (loads_of me.0)
  pub fronts_grow : last_read (loads_of me.0) (fronts_word d) ≤ c.0
  pub rears_grow : last_read (loads_of me.0) (rears_word d) ≤ c.1
  pub ordered : c.1 ≤ c.0
  pub bounded : c.0 ≤ most_fronts

-- one value more of each word of the detector at place d: first of its rears, then of its fronts; g is what they gained
pub record ReadsOne (d : ℕ) (old new : Ticking) (g : ℕ × ℕ) : Type 0 where
  pub table : new.table ≡ old.table
  pub loads : new.loads
      ≡ loads_after (loads_after old.loads (rears_word d) (g.1 + rears_read old d)) (fronts_word d) (g.0 + fronts_read old d)
  pub inside : 8 * d + 1 < length old.loads
  pub ordered : g.1 + rears_read old d ≤ g.0 + fronts_read old d
  pub bounded : g.0 + fronts_read old d ≤ most_fronts

-- one value more of each word of the four detectors from place d on, one detector after the other; the frame has what they gained
pub record ReadsFour (d : ℕ) (old new : Ticking) (was now : Counts) : Type 0 where
  pub passes : Ticking × Ticking × Ticking
  pub gained : (ℕ × ℕ) × (ℕ × ℕ) × (ℕ × ℕ) × (ℕ × ℕ)
  pub one : ReadsOne d old passes.0 gained.0
  pub two : ReadsOne (d + 1) passes.0 passes.1 gained.1
  pub three : ReadsOne (d + 2) passes.1 passes.2 gained.2
  pub four : ReadsOne (d + 3) passes.2 new gained.3
  pub frame : now
      ≡ slice_set (slice_set (slice_set (slice_set was d gained.0) (d + 1) gained.1) (d + 2) gained.2) (d + 3) gained.3

-- the first n detectors are taken
pub record Taking (n : ℕ) (old new : Ticking) (frame : Counts) : Type 0 where
  pub table : new.table ≡ old.table
  pub count : length new.loads ≡ length old.loads
  pub fronts : (d : ℕ) → d < n → fronts_loads new d ≡ fronts_loads old d ++ fronts_read new d ∷ []
  pub rears : (d : ℕ) → d < n → rears_loads new d ≡ rears_loads old d ++ rears_read new d ∷ []
  pub left_fronts : (d : ℕ) → n ≤ d → fronts_loads new d ≡ fronts_loads old d
  pub left_rears : (d : ℕ) → n ≤ d → rears_loads new d ≡ rears_loads old d
  pub size : length frame ≡ 64
  pub gains : (d : ℕ) → d < n →
      ((slice_index_or frame d (0, 0)).0 + fronts_read old d ≡ fronts_read new d)
      × ((slice_index_or frame d (0, 0)).1 + rears_read old d ≡ rears_read new d)
  pub absent : (d : ℕ) → n ≤ d → slice_index_or frame d (0, 0) ≡ (0, 0)
  pub ordered : (d : ℕ) → d < n → (rears_read new d ≤ fronts_read new d) × (fronts_read new d ≤ most_fronts)

-- the tick's pass after a take by a board of `detectors` detectors: one value more of each word, and the frame is what they
-- gained
pub record Takes (detectors : ℕ) (old new : Ticking) (frame : Counts) : Type 0 where
  pub table : new.table ≡ old.table
  pub fronts : (d : ℕ) → d < detectors → fronts_loads new d ≡ fronts_loads old d ++ fronts_read new d ∷ []
  pub rears : (d : ℕ) → d < detectors → rears_loads new d ≡ rears_loads old d ++ rears_read new d ∷ []
  pub size : length frame ≡ 64
  pub gains : (d : ℕ) → d < detectors →
      ((slice_index_or frame d (0, 0)).0 + fronts_read old d ≡ fronts_read new d)
      × ((slice_index_or frame d (0, 0)).1 + rears_read old d ≡ rears_read new d)
  pub absent : (d : ℕ) → detectors ≤ d → slice_index_or frame d (0, 0) ≡ (0, 0)
  pub ordered : (d : ℕ) → d < detectors → (rears_read new d ≤ fronts_read new d) × (fronts_read new d ≤ most_fronts)

-- the passes of a board as it is made, in the order of the detectors
pub record IsOpening (detectors : ℕ) (board : Boarded) (feeders : List Feeding) (tick : Ticking) : Type 0 where
  pub detectors_are : board.detectors ≡ detectors
  pub count : length feeders ≡ detectors
  pub each : (k : ℕ) → k < detectors →
      slice_get feeders k ≡ Some (record { table = board.table; place = k; fronts = 0; rears = 0 })
  pub of_tick : tick.table ≡ board.table
  pub unread : (w : ℕ) → slice_index_or tick.loads w [] ≡ []

-- all passes of this board in some order: one of each detector
pub record AreAll (board : Boarded) (feeders : List Feeding) (tick : Ticking) : Type 0 where
  pub of_board : (k : ℕ) (p : Feeding) → slice_get feeders k ≡ Some p → p.table ≡ board.table
  pub each : (d : ℕ) → d < board.detectors → (k : ℕ) × (p : Feeding) × (slice_get feeders k ≡ Some p) × (p.place ≡ d)
  pub once : (k l : ℕ) (p q : Feeding) → slice_get feeders k ≡ Some p → slice_get feeders l ≡ Some q →
      p.place ≡ q.place → k ≡ l
  pub of_tick : tick.table ≡ board.table

-- the frame that is left: with what was read it makes each feeder's own counts
pub record Closes (board : Boarded) (feeders : List Feeding) (tick : Ticking) (frame : Counts) : Type 0 where
  pub size : length frame ≡ 64
  pub rest : (k : ℕ) (p : Feeding) → slice_get feeders k ≡ Some p →
      ((slice_index_or frame p.place (0, 0)).0 + fronts_read tick p.place ≡ p.fronts)
      × ((slice_index_or frame p.place (0, 0)).1 + rears_read tick p.place ≡ p.rears)
  pub absent : (d : ℕ) → board.detectors ≤ d → slice_index_or frame d (0, 0) ≡ (0, 0)
  pub ordered : (k : ℕ) (p : Feeding) → slice_get feeders k ≡ Some p → (p.rears ≤ p.fronts) × (p.fronts ≤ most_fronts)

-- the tick's seat while detectors are dealt: the first n are, the others are its own with no count
pub record Undealt (n detectors : ℕ) (me : Me (Unit {0}) View) : Type 0 where
  pub view : me ≡ (Tick n (replicate (8 * detectors) []) (owned_of me.0), [])
  pub owned_count : length (owned_of me.0) ≡ detectors
  pub rest : (d : ℕ) → n ≤ d → d < detectors → slice_index_or (owned_of me.0) d None ≡ Some (0, 0)

-- the tick's seat while passes are given back: it owns what the feeders from the n-th of the list on counted
pub record GivenBack (n detectors : ℕ) (feeders : List Feeding) (loads : List (List ℕ)) (me : Me (Unit {0}) View) : Type 0 where
  pub view : me ≡ (Tick (dealt_of me.0) loads (owned_of me.0), [])
  pub owned_count : length (owned_of me.0) ≡ detectors
  pub inside : (k : ℕ) (p : Feeding) → n ≤ k → slice_get feeders k ≡ Some p → p.place < detectors
  pub back : (k : ℕ) (p : Feeding) → n ≤ k → slice_get feeders k ≡ Some p →
      slice_index_or (owned_of me.0) p.place None ≡ Some (p.fronts, p.rears)

-- what the tick has read of the detectors that it owns is at most their counts
abbrev pub WithinCounts : ℕ → View → Type 0
WithinCounts detectors v =
    IsTick v → (d f r : ℕ) → d < detectors → owned_by v d ≡ Some (f, r) →
    (last_read (loads_of v) (fronts_word d) ≤ f) × (last_read (loads_of v) (rears_word d) ≤ r)
    × (r ≤ f) × (f ≤ most_fronts)
