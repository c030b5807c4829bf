-- What a status says of the seconds that were made and of what was written.
use Rattle.std.specs.Prelude.{◌≡◌, ℕ, ◌+◌, ◌≤◌, Bool, true, false, List, [], length, Option, Result, Ok, Err}
use Rattle.std.specs.Io.KnownBytes.{append_known}
use Rattle.sig_io.specs.Draft.{IsCut, Held, IsDraft}
use Rattle.sig_types.specs.Counts.{Counts}
use Rattle.sig_types.specs.Pass.{Logic}
use Rattle.sig_types.specs.Turns.{History}
use Rattle.signal_log.specs.Log.{records_text}
use Rattle.signal_log.specs.Laws.{ArePrintable}
use Rattle.controller.specs.declared.controller.Controller.{Controller}
use Rattle.controller.specs.Controls.{StandsFor, site_of, logic_of}
use Rattle.controller.specs.Past.{Site, Past}
use Rattle.controller.specs.Second.{past_of, run_from, record_pictures}
use Rattle.det_board.specs.Passes.{Ticking}
use Rattle.junction_run.specs.declared.status.Status.{Status}
use Rattle.junction_run.specs.declared.status.Status.TheVariants.{Done, Memory, Words, ReadFault, WriteFault, RefusedFile, RefusedLine, TooLong}
use Rattle.junction_live.specs.Play.{Loaded, NeverAhead, SameSums, NoMore}

-- the records of these frames after a past
abbrev pub log_of : Logic → Site → Past → List Counts → List ℕ
log_of logic site past made = records_text site.plan.names (run_from logic site past made)

-- the pictures of the seconds with these frames after a past
abbrev pub pictures_of : Logic → Site → Past → List Counts → History
pictures_of logic site past made = record_pictures (run_from logic site past made)

-- Of that many seconds those of these frames were made, with this status: all of them, and their records were written, or some,
-- and the records were cut.
pub data Written (seconds : ℕ) (logic : Logic) (site : Site) (past : Past) (made : List Counts) (old new : Option (List ℕ)) :
    Status → Type 0 where
  all_written : length made ≡ seconds → new ≡ append_known old (log_of logic site past made) →
      Written seconds logic site past made old new Done
  cut_off : length made ≤ seconds → (n : ℕ) → IsCut old new n (log_of logic site past made) →
      Written seconds logic site past made old new WriteFault

-- all seconds were made, and their records written
abbrev pub is_done : Status → Bool
is_done Done = true
is_done Memory = false
is_done Words = false
is_done ReadFault = false
is_done WriteFault = false
is_done RefusedFile = false
is_done RefusedLine = false
is_done TooLong = false

-- the controller has made no second
abbrev pub HasMadeNone : Controller → Type 0
HasMadeNone controller = (past : Past) × StandsFor controller past × (past.frames ≡ [])

-- of at most that many frames, which are what the tick's loads gained, the controller made the seconds
abbrev pub SecondsMade : ℕ → Status → Controller → Controller → Ticking → Option (List ℕ) → Option (List ℕ) → Type 0
SecondsMade seconds status start now tick old new =
    (made : List Counts) × Loaded tick made × (length made ≤ seconds)
    × ((past : Past) → StandsFor start past → past.frames ≡ [] →
    StandsFor now (past_of (logic_of start) (site_of start) past made)
    × Written seconds (logic_of start) (site_of start) past made old new status)

-- the same, and of the pictures of these seconds holds what `Given` says
abbrev pub SecondsGiven : (History → Type 0) → ℕ → Status → Controller → Controller → Ticking → Option (List ℕ) → Option (List ℕ) → Type 0
SecondsGiven Given seconds status start now tick old new =
    (made : List Counts) × Loaded tick made × (length made ≤ seconds)
    × ((past : Past) → StandsFor start past → past.frames ≡ [] →
    StandsFor now (past_of (logic_of start) (site_of start) past made)
    × Written seconds (logic_of start) (site_of start) past made old new status
    × Given (pictures_of (logic_of start) (site_of start) past made))

-- as `SecondsGiven`, with the records put into a draft; where it hasn't failed, all seconds were made
abbrev pub SecondsPut : (History → Type 0) → ℕ → Controller → Controller → Ticking → Held → Held → Option (List ℕ) → Option (List ℕ) → Type 0
SecondsPut Given seconds start now tick first later old new =
    (made : List Counts) × Loaded tick made × (length made ≤ seconds) × (later.failed ≡ false → length made ≡ seconds)
    × ((past : Past) → StandsFor start past → past.frames ≡ [] →
    StandsFor now (past_of (logic_of start) (site_of start) past made)
    × ((begin : Option (List ℕ)) → IsDraft begin old first [] →
    IsDraft begin new later (log_of (logic_of start) (site_of start) past made))
    × Given (pictures_of (logic_of start) (site_of start) past made))

-- a whole live run over these frames: each of their events is in one of the seconds, and none is ahead of its time; of the
-- pictures holds what `Given` says
abbrev pub Live : {A E : Type 0} → (A → History → Type 0) → Result A E → List Counts → Logic → Site → Past → Option (List ℕ) → Option (List ℕ) → Type 0
Live Given (Ok x) frames logic site past old new =
    (made : List Counts) × (length made ≡ length frames + 1) × ArePrintable made
    × (new ≡ append_known old (log_of logic site past made)) × NeverAhead made × SameSums frames made
    × Given x (pictures_of logic site past made)
Live Given (Err fault) frames logic site past old new =
    (made : List Counts) × (length made ≤ length frames + 1) × ((n : ℕ) × IsCut old new n (log_of logic site past made))
    × NeverAhead made × NoMore frames made

-- a live run of a controller that had made no second
abbrev pub IsLiveLog : {A E : Type 0} → (A → History → Type 0) → Result A E → List Counts → Controller → Option (List ℕ) → Option (List ℕ) → Type 0
IsLiveLog Given r frames start old new =
    (past : Past) → StandsFor start past → past.frames ≡ [] → Live Given r frames (logic_of start) (site_of start) past old new
