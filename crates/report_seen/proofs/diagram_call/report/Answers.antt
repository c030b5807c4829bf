use Rattle.std.proofs.Common.{Err, List, ℕ, refl, sym, subst, map, string_bytes, Global}
use Rattle.sig_io.specs.Seen.{seen}
use Rattle.report_seen.specs.DiagramCall.{IsAnswerTo}
use Rattle.report_seen.specs.DiagramForm.{Asked}
use Rattle.report_seen.proofs.DiagramCalls.{IsByWords, by_words}
use Rattle.report_seen.proofs.diagram_call.report.Goals as goal

pub returns-in-Err-clause-reported : goal.returns-in-Err-clause-reported
returns-in-Err-clause-reported g c =
    let words : List (List ℕ) = map (string_bytes {Z = Global}) c.args.words.now in
    let stop = c.in-Err.stop in
    let refused : IsByWords {A = Asked} (Err stop) = subst (IsByWords {A = Asked}) (sym c.in-Err.ensures.form) (by_words words) in
    record {
      given = Err stop;
      answer = subst (λ asked. IsAnswerTo asked
          (seen (g.F.Files.told c.args.files.now) (g.F.Files.told c.args.files.now) (g.F.Files.faults c.args.files.now) (g.F.Files.faults c.args.files.now))
          (seen (g.O.Sink.taken c.args.out.now) (g.O.Sink.taken c.args.out.now) (g.O.Sink.faults c.args.out.now) (g.O.Sink.faults c.args.out.now)) (Err stop))
          c.in-Err.ensures.form (refl, refl);
      status_is = c.status_of.ensures;
      note = c.write_stop.ensures;
      read_fault = λ is. absurd (subst (IsByWords {A = Unit {0}}) is refused);
      write_fault = λ is. absurd (subst (IsByWords {A = Unit {0}}) is refused);
    }
