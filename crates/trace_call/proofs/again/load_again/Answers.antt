use Rattle.trace_call.proofs.Taken.{code_is}
use Rattle.trace_call.proofs.again.load_again.Goals as goal

pub returns-in-Ok-compile-clause-code : goal.returns-in-Ok-compile-clause-code
returns-in-Ok-compile-clause-code g c = λ value. code_is c.args.checked.now c.in-Ok-compile.code value c.in-Ok-compile.ensures.layout
