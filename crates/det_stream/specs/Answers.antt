-- What a reader of a detector file stands for, and what it answers.
use Rattle.std.specs.Prelude.{◌≡◌, ℕ, ◌≤◌, Bool, true, false, List, [], ◌∷◌, ◌++◌, length, map, take, drop, Option, Some, None, Result, Ok, Err}
use Rattle.std.specs.Str.Lines.{lines}
use Rattle.sig_types.specs.Counts.{AreFrames, Counts, Takes}
use Rattle.det_stream.specs.declared.lines.Lines.{Lines}
use Rattle.det_stream.specs.declared.refusal.StreamWhy.{StreamWhy}
use Rattle.det_stream.specs.declared.refusal.StreamRefusal.{StreamRefusal}
use Rattle.det_stream.specs.declared.refusal.StreamRefusal.TheVariants.{Memory, Fault, At}
use Rattle.sig_types.specs.FirstRefused.{refused_to}
use Rattle.det_stream.specs.Totals.{AreTotals}
use Rattle.det_stream.specs.Unread as unread
use Rattle.det_stream.specs.Unread.{unread_bytes, name_in}
use Rattle.det_stream.specs.Entries.{frame_of}
use Rattle.det_stream.specs.Stream.{stream_of, judge}

-- the name of the file
unfoldable pub name_of : Lines → List ℕ
name_of r = name_in r.reader

-- the frame that was given last
unfoldable pub frame_in : Lines → Counts
frame_in r = r.frame

-- how many frames were given
unfoldable pub second_of : Lines → ℕ
second_of r = r.second

-- no call has refused
unfoldable pub is_live : Lines → Bool
is_live r = r.live

-- the next line is read without asking the files: a whole line is held, or more bytes than a line may have
unfoldable pub is_ready : Lines → Bool
is_ready r = unread.is_ready r.reader

-- these frames were given: they are frames as a detector file has them, and the reader's numbers are theirs, whatever the
-- files tell
pub record HasGiven (r : Lines) (frames : List Counts) : Type 0 where
  pub count : r.second ≡ length frames
  pub are_frames : AreFrames frames
  pub totals_are : AreTotals r.totals frames

-- these frames were given
unfoldable pub Gave : Lines → List Counts → Type 0
Gave r frames = HasGiven r frames

-- these frames were given of a file with these bytes, and the rest of its lines is left
pub record HasRead (r : Lines) (bytes : List ℕ) (frames : List Counts) : Type 0 where
  pub gave : HasGiven r frames
  pub rest : lines (unread_bytes r.reader bytes) ≡ drop (length frames) (lines bytes)
  pub inside : length frames ≤ length (lines bytes)
  pub accepted : refused_to judge (lines bytes) [] (length frames) ≡ None
  pub frames_are : frames ≡ map frame_of (take (length frames) (lines bytes))

-- these frames were given of a file with these bytes
unfoldable pub Reads : Lines → List ℕ → List Counts → Type 0
Reads r bytes frames = HasRead r bytes frames

-- a file with these bytes has these frames, and then ends or is refused
pub record IsStream (bytes : List ℕ) (frames : List Counts) (refusal : Option (ℕ × StreamWhy)) : Type 0 where
  pub frames_are : (stream_of bytes).frames ≡ frames
  pub refusal_is : (stream_of bytes).refusal ≡ refusal

-- one frame more was given, and it can be taken after those before it
abbrev pub GaveOneMore : Lines → Lines → Type 0
GaveOneMore old new = (frames : List Counts) → Gave old frames →
    Gave new (frames ++ frame_in new ∷ []) × Takes frames (frame_in new)

-- what a call answers where these frames of the file were given before it
abbrev pub IsNext : List ℕ → List Counts → Lines → Result Bool StreamRefusal → Type 0
IsNext bytes frames new (Ok true) = Reads new bytes (frames ++ frame_in new ∷ [])
IsNext bytes frames new (Ok false) = IsStream bytes frames None × Reads new bytes frames
IsNext bytes frames new (Err Memory) = ⊥
IsNext bytes frames new (Err Fault) = Unit {0}
IsNext bytes frames new (Err (At line reason)) = IsStream bytes frames (Some (line, reason))

-- what a call answers, of a file with these bytes
abbrev pub AnswersNext : List ℕ → Lines → Lines → Result Bool StreamRefusal → Type 0
AnswersNext bytes old new result = (frames : List Counts) → Reads old bytes frames → IsNext bytes frames new result

-- what reading the whole file answers
abbrev pub IsReadAll : List ℕ → Result (List Counts) StreamRefusal → Type 0
IsReadAll bytes (Ok frames) = IsStream bytes frames None
IsReadAll bytes (Err Memory) = Unit {0}
IsReadAll bytes (Err Fault) = Unit {0}
IsReadAll bytes (Err (At line reason)) = (stream_of bytes).refusal ≡ Some (line, reason)
