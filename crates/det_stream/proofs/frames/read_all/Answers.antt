use Rattle.std.proofs.Common.{◌≡◌, ◌∙◌, ◌+◌, ap, map, List, [], ◌∷◌, ◌++◌, Ok, Err, ℕ, refl, arith, subst}
use Rattle.det_stream.specs.Answers.{Reads, IsReadAll, frame_in, name_of}
use Rattle.det_stream.specs.Busy.{KeepsLine, AreKept, frames_of}
use Rattle.det_stream.proofs.BusyLemmas.{frames_more, kept_more, kept_none, no_frames, small_counts}
use Rattle.det_stream.proofs.Steps.{gave_frames, all_refused}
use Rattle.det_stream.proofs.frames.read_all.Goals as goal

pub loop-detectors-init : goal.loop-detectors-init
loop-detectors-init g c =
    let detectors = map (λ v. v.items) c.in-Ok-no_lines.detectors.items in
    record {
      name = c.in-Ok.ensures.name;
      live = c.in-Ok.ensures.live;
      line = c.in-Ok.ensures.second;
      kept = kept_none detectors c.in-Ok-no_lines.ensures;
      gave = rw (no_frames detectors) c.in-Ok.ensures.gave;
      reads = λ file told. rw (no_frames detectors) (c.in-Ok.ensures.reads (file c.args.name.now));
      told = refl;
      later = omega arith;
    }

pub returns-in-Ok-false-clause-frames : goal.returns-in-Ok-false-clause-frames
returns-in-Ok-false-clause-frames g c = gave_frames c.loop-detectors.lines
    (frames_of (map (λ v. v.items) c.loop-detectors.detectors.items) c.loop-detectors.line) c.loop-detectors.invariant.gave

pub returns-in-Ok-false-clause-told : goal.returns-in-Ok-false-clause-told
returns-in-Ok-false-clause-told g c file told =
    let frames = frames_of (map (λ v. v.items) c.loop-detectors.detectors.items) c.loop-detectors.line in
    let read : Reads c.loop-detectors.lines (file (name_of c.loop-detectors.lines)) frames =
    rw c.loop-detectors.invariant.name (c.loop-detectors.invariant.reads file told) in
    let next = rw (c.in-Ok-false.field-0-test, c.loop-detectors.invariant.name)
    at (c.in-Ok-false.ensures.next file (c.loop-detectors.invariant.told ∙ told) frames read) in
    next.0

pub returns-in-Err-clause-told : goal.returns-in-Err-clause-told
returns-in-Err-clause-told g c file told =
    let frames = frames_of (map (λ v. v.items) c.loop-detectors.detectors.items) c.loop-detectors.line in
    let read : Reads c.loop-detectors.lines (file (name_of c.loop-detectors.lines)) frames =
    rw c.loop-detectors.invariant.name (c.loop-detectors.invariant.reads file told) in
    subst (λ (name : List ℕ). IsReadAll (file name) (Err c.in-Err.refusal)) c.loop-detectors.invariant.name
    (all_refused (file (name_of c.loop-detectors.lines)) frames c.next_frame.new.self c.in-Err.refusal
    (c.in-Err.ensures.next file (c.loop-detectors.invariant.told ∙ told) frames read))

pub keep_line-requires-clause-counts : goal.keep_line-requires-clause-counts
keep_line-requires-clause-counts g c =
    let frames = frames_of (map (λ v. v.items) c.loop-detectors.detectors.items) c.loop-detectors.line in
    let given = frame_in c.next_frame.new.self in
    let gave = c.in-Ok-true.ensures.gave (ap Ok c.in-Ok-true.field-0-test) frames c.loop-detectors.invariant.gave in
    rw c.frame.ensures (small_counts frames given (gave_frames c.next_frame.new.self (frames ++ given ∷ []) gave.0))

pub loop-detectors-preserved : goal.loop-detectors-preserved
loop-detectors-preserved g c =
    let line = c.loop-detectors.line in
    let old = map (λ v. v.items) c.loop-detectors.detectors.items in
    let new = map (λ v. v.items) c.keep_line.new.detectors.items in
    let frames = frames_of old line in
    let gave = c.in-Ok-true.ensures.gave (ap Ok c.in-Ok-true.field-0-test) frames c.loop-detectors.invariant.gave in
    let kept : AreKept line old = c.loop-detectors.invariant.kept in
    let keeps : KeepsLine line (frame_in c.next_frame.new.self) old new = rw c.frame.ensures at c.in-Ok-keep_line.ensures in
    let more : frames_of new (line + 1) ≡ frames ++ frame_in c.next_frame.new.self ∷ [] =
    frames_more line (frame_in c.next_frame.new.self) old new kept keeps gave.1.size in
    record {
      name = c.in-Ok-true.ensures.name ∙ c.loop-detectors.invariant.name;
      live = c.in-Ok-true.ensures.live;
      line = c.in-Ok-true.ensures.second (ap Ok c.in-Ok-true.field-0-test) ∙ ap (λ n. n + 1) c.loop-detectors.invariant.line;
      kept = kept_more line (frame_in c.next_frame.new.self) old new kept keeps gave.1.size;
      gave = rw more gave.0;
      reads = λ file told. (
          let read : Reads c.loop-detectors.lines (file (name_of c.loop-detectors.lines)) frames =
          rw c.loop-detectors.invariant.name (c.loop-detectors.invariant.reads file told) in
          let next = rw (c.in-Ok-true.field-0-test, c.loop-detectors.invariant.name)
          at (c.in-Ok-true.ensures.next file (c.loop-detectors.invariant.told ∙ told) frames read) in
          rw more next);
      told = c.in-Ok-true.ensures.contents_stay ∙ c.loop-detectors.invariant.told;
      later = omega (arith, c.in-Ok-true.ensures.later, c.loop-detectors.invariant.later);
    }
