-- What holds of the frames of every file.
use Rattle.std.specs.Prelude.{ℕ, List}
use Rattle.sig_types.specs.Counts.{AreFrames}
use Rattle.det_stream.specs.Stream.{stream_of}

-- whatever a file holds, the lines before its first refused one are frames as a detector file has them
abbrev pub StreamsAreFrames : Type 0
StreamsAreFrames = (bytes : List ℕ) → AreFrames (stream_of bytes).frames
