use Rattle.std.proofs.Common.{◌≡◌}
use Rattle.junction_run.specs.Drawn.{after_frames, generator_of}
use Rattle.junction_run.proofs.Sampling.{Sampled}
use Rattle.junction_run.proofs.sample.sample_seconds.Given as goal

abbrev pub invariant-loop-second : goal.invariant-loop-second
invariant-loop-second l = record {
  sampled : Sampled l.fn.controller l.controller l.summary l.seed l.second;
  generator : l.generator ≡ after_frames l.second (generator_of l.seed);
}
