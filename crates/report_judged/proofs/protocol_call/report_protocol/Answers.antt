use Rattle.std.proofs.Common.{Err, refl, subst}
use Rattle.sig_io.specs.Seen.{seen}
use Rattle.report_words.specs.declared.stop.JudgeStop.TheVariants.{Words}
use Rattle.report_judged.specs.ProtocolCall.{IsAnswerTo}
use Rattle.report_judged.proofs.protocol_call.report_protocol.Goals as goal

pub returns-in_default-clause-reported : goal.returns-in_default-clause-reported
returns-in_default-clause-reported g c = record {
  given = Err Words;
  answer = subst (λ asked. IsAnswerTo asked
      (seen (g.F.Files.told c.args.files.now) (g.F.Files.told c.args.files.now) (g.F.Files.faults c.args.files.now) (g.F.Files.faults c.args.files.now))
      (seen (g.O.Sink.taken c.args.out.now) (g.O.Sink.taken c.args.out.now) (g.O.Sink.faults c.args.out.now) (g.O.Sink.faults c.args.out.now)) (Err Words))
      c.in_default.ensures.form (refl, refl);
  status_is = refl;
  note = c.write_stop.ensures;
  read_fault = λ is. absurd is;
  write_fault = λ is. absurd is;
}
