use Rattle.std.proofs.Common.{sym, subst}
use Rattle.junction_run.specs.Form.{word_of}
use Rattle.junction_run.specs.FormWords.{source_in}
use Rattle.junction_run.specs.Sites.{IsSourceFile}
use Rattle.junction_run.proofs.load.take_source.Goals as goal

pub returns-in-Program-clause-code : goal.returns-in-Program-clause-code
returns-in-Program-clause-code g c = λ file e.
    subst (λ s. IsSourceFile (source_in s) (file (word_of (source_in s))) c.take_program.result) (sym c.in-Program.is) (c.take_program.ensures.program file e)

pub returns-in-Code-clause-code : goal.returns-in-Code-clause-code
returns-in-Code-clause-code g c = λ file e.
    subst (λ s. IsSourceFile (source_in s) (file (word_of (source_in s))) c.take_code.result) (sym c.in-Code.is) (c.take_code.ensures.code file e)
