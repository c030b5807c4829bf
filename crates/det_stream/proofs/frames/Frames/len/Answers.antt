use Rattle.std.proofs.Common.{length, map, sym, ap, ◌∙◌}
use Rattle.det_stream.proofs.BusyLemmas.{length-frames_of}
use Rattle.det_stream.proofs.frames.Frames.len.Goals as goal

pub returns : goal.returns
returns c = sym (length-frames_of (map (λ v. v.items) c.self.inside.detectors.items) c.self.inside.lines) ∙ ap length c.self.view_is
