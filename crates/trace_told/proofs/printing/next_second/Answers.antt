use Rattle.std.proofs.Common.{ap, arith}
use Rattle.sig_types.specs.declared.record.Record.{Record}
use Rattle.controller.specs.Controls.{StandsFor, last_record}
use Rattle.trace_told.proofs.printing.next_second.Goals as goal

pub overflow_add-result : goal.overflow_add-result
unfolding StandsFor last_record
overflow_add-result c = omega (arith, ap (λ (r : Record). r.second.0) c.last.ensures, c.requires.2.numbered, c.requires.3.few)

pub returns : goal.returns
unfolding StandsFor last_record
returns c = λ past stands. omega (arith, ap (λ (r : Record). r.second.0) c.last.ensures, stands.numbered, stands.seconds)
