use Rattle.std.proofs.Common.{Err, refl, subst}
use Rattle.sig_io.specs.Seen.{seen}
use Rattle.report_seen.specs.declared.stop.Stop.TheVariants.{Words}
use Rattle.report_seen.specs.LostCall.{IsAnswerTo}
use Rattle.report_seen.proofs.SumsCalls.{no_read, no_write}
use Rattle.report_seen.proofs.lost_call.report_lost.Goals as goal

pub returns-in_default-clause-reported : goal.returns-in_default-clause-reported
returns-in_default-clause-reported g c = record {
  given = Err Words;
  answer = subst (λ asked. IsAnswerTo asked
      (seen (g.F.Files.told c.args.files.now) (g.F.Files.told c.args.files.now) (g.F.Files.faults c.args.files.now) (g.F.Files.faults c.args.files.now))
      (seen (g.O.Sink.taken c.args.out.now) (g.O.Sink.taken c.args.out.now) (g.O.Sink.faults c.args.out.now) (g.O.Sink.faults c.args.out.now)) (Err Words))
      c.in_default.ensures (refl, refl);
  status_is = refl;
  note = c.write_stop.ensures;
  read_fault = λ is. absurd (no_read (Err Words) refl is);
  write_fault = λ is. absurd (no_write (Err Words) refl is);
}
