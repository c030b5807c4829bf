use Rattle.det_stream.specs.Answers.{name_of}
use Rattle.det_stream.specs.Stream.{stream_of}
use Rattle.run_seconds.proofs.play.tell_all.Goals as goal

pub returns-clause-told : goal.returns-clause-told
returns-clause-told g c = λ first s none knew.
    let played = c.play-end.ensures.played first s none knew in (
      played.0,
      λ start text is. c.finish.ensures.written start _ (played.1.text start text is),
      played.2,
      λ file e. c.finish.ensures.played (stream_of (file (name_of c.args.lines.now))) played.0 (played.3 file e),
    )
