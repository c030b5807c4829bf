use Rattle.std.proofs.Common.{Err, refl, sym, subst}
use Rattle.sig_io.specs.Seen.{seen}
use Rattle.report_words.specs.declared.stop.JudgeStop.TheVariants.{Words}
use Rattle.tenth_report.specs.declared.stop.RecordStop.TheVariants.{Judge}
use Rattle.tenth_report.specs.Calls.{IsAnswerTo}
use Rattle.tenth_report.proofs.call.report_record.Goals as goal

pub returns-in_default-clause-reported : goal.returns-in_default-clause-reported
returns-in_default-clause-reported g c = record {
  given = Err (Judge Words);
  answer = subst (λ asked. IsAnswerTo asked
      (seen (g.F.Files.told c.args.files.now) (g.F.Files.told c.args.files.now) (g.F.Files.faults c.args.files.now) (g.F.Files.faults c.args.files.now))
      (seen (g.O.Sink.taken c.args.out.now) (g.O.Sink.taken c.args.out.now) (g.O.Sink.faults c.args.out.now) (g.O.Sink.faults c.args.out.now)) (Err (Judge Words)))
      (sym c.in_default.ensures.form) (refl, refl);
  status_is = refl;
  note = c.write_note.ensures;
  read_fault = λ is. absurd is;
  write_fault = λ is. absurd is;
}
