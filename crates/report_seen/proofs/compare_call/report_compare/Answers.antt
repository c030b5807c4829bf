use Rattle.std.proofs.Common.{◌≡◌, Bool, Result, Err, refl, subst}
use Rattle.sig_io.specs.Seen.{seen}
use Rattle.report_words.specs.declared.stop.JudgeStop.{JudgeStop}
use Rattle.report_words.specs.declared.stop.JudgeStop.TheVariants.{Words, WriteFault}
use Rattle.report_seen.specs.CompareCall.{IsAnswerTo}
use Rattle.report_seen.proofs.compare_call.report_compare.Goals as goal

-- words that are no form are no write that failed
no_write : (given : Result Bool JudgeStop) → given ≡ Err Words → given ≡ Err WriteFault → ⊥
no_write given words fault = cc

pub returns-in_default-clause-reported : goal.returns-in_default-clause-reported
returns-in_default-clause-reported g c = record {
  given = Err Words;
  answer = subst (λ asked. IsAnswerTo asked
      (seen (g.F.Files.told c.args.files.now) (g.F.Files.told c.args.files.now) (g.F.Files.faults c.args.files.now) (g.F.Files.faults c.args.files.now))
      (seen (g.O.Sink.taken c.args.out.now) (g.O.Sink.taken c.args.out.now) (g.O.Sink.faults c.args.out.now) (g.O.Sink.faults c.args.out.now)) (Err Words))
      c.in_default.ensures (refl, refl);
  status_is = refl;
  note = c.write_stop.ensures;
  read_fault = λ is. absurd is;
  write_fault = λ is. absurd (no_write (Err Words) refl is);
}
