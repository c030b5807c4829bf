use Rattle.det_stream.proofs.FramesKept.{streams_are_frames}
use Rattle.det_stream.proofs.laws.streams_are_frames.Goals as goal

pub returns : goal.returns
returns c = streams_are_frames
