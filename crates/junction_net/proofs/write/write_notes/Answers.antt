use Rattle.std.proofs.Common.{◌∙◌, ℕ, List, ap, arith}
use Rattle.std.specs.Io.KnownBytes.{append_known}
use Rattle.junction_net.proofs.Texts.{notes_all}
use Rattle.junction_net.proofs.write.write_notes.Goals as goal

pub returns : goal.returns
returns g c = record {
  notes = λ clean. c.loop-job.invariant.0
      ∙ ap (λ (l : List ℕ). append_known (g.N.Sink.taken c.args.notes.now) l)
      (notes_all c.args.jobs.now c.loop-job.job-index (omega (arith, c.loop-job-test.false)));
}
