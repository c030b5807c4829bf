use Rattle.junction_calls.specs.Numbers.{IsPlaying}
use Rattle.test_told.proofs.driven.play.Given as goal

abbrev pub invariant-loop-line : goal.invariant-loop-line
invariant-loop-line l = IsPlaying l.handle.value
