use Rattle.std.proofs.Common.{[], length, map, slice_index_or, ap, ◌∙◌, arith}
use Rattle.det_stream.proofs.BusyLemmas.{is_frame, length-frames_of}
use Rattle.det_stream.proofs.frames.Frames.get.Goals as goal

pub returns : goal.returns
returns c =
    let detectors = map (λ v. v.items) c.self.inside.detectors.items in
    is_frame detectors c.self.inside.lines c.args.place c.loop-detector.frame
    (omega (arith, c.requires, length-frames_of detectors c.self.inside.lines, ap length c.self.view_is))
    c.self.invariant.size c.loop-detector.invariant.size (λ d low. c.loop-detector.invariant.done_so_far d (omega (arith, low, c.loop-detector-test.false)))
    ∙ ap (λ frames. slice_index_or frames c.args.place []) c.self.view_is
