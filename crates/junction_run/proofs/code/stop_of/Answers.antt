use Rattle.std.proofs.Common.{subst}
use Rattle.vap_code.specs.Codes.{code_in}
use Rattle.code_verify.specs.First.{RefusedBy}
use Rattle.junction_run.proofs.Texts.{unsound_text}
use Rattle.junction_run.proofs.code.stop_of.Goals as goal

pub returns-in-At-clause-refused : goal.returns-in-At-clause-refused
returns-in-At-clause-refused c = λ text read.
    unsound_text text (code_in c.args.code.now) c.in-At.why c.in-At.place c.instr_line.result read
    (subst (λ r. RefusedBy (code_in c.args.code.now) r) c.in-At.is c.requires.refused) c.instr_line.ensures
