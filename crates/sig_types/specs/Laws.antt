-- What follows from frames being those of a detector file.
use Rattle.std.specs.Prelude.{ℕ, ◌≤◌, List, [], ◌∷◌, ◌++◌, length, take}
use Rattle.sig_types.specs.Counts.{Counts, AreFrames, Takes}

-- the last of a file's frames can be taken after those before it
abbrev pub LastIsTaken : Type 0
LastIsTaken = (frames : List Counts) (frame : Counts) → AreFrames (frames ++ frame ∷ []) → Takes frames frame

-- the first frames of a file are frames of a file
abbrev pub FrontsAreFrames : Type 0
FrontsAreFrames = (frames : List Counts) (j : ℕ) → j ≤ length frames → AreFrames frames → AreFrames (take j frames)
