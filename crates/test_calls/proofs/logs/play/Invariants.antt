use Rattle.std.proofs.Common.{◌≡◌, true}
use Rattle.det_stream.specs.Answers.{is_live}
use Rattle.junction_calls.specs.Numbers.{IsPlaying}
use Rattle.test_calls.proofs.logs.play.Given as goal

abbrev pub invariant-loop : goal.invariant-loop
invariant-loop g l = record {
  live : is_live l.lines ≡ true;
  playing : IsPlaying l.handle.value;
}
