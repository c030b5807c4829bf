use Rattle.std.proofs.Common.{Err, refl}
use Rattle.trace_call.specs.declared.stop.Stop.TheVariants.{Words}
use Rattle.trace_call.proofs.Ends.{words_no_read, words_no_write}
use Rattle.trace_call.proofs.call.trace.Goals as goal

pub returns-in-None-clause-traced : goal.returns-in-None-clause-traced
returns-in-None-clause-traced g c = record {
  given = Err Words;
  answer = rw c.in-None.ensures (refl, refl);
  status_is = refl;
  note = c.write_stop.ensures;
  read_fault = λ is. absurd (words_no_read is);
  write_fault = λ is. absurd (words_no_write is);
}
