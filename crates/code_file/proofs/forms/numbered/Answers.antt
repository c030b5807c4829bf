use Rattle.std.proofs.Common.{◌∙◌, sym, ap}
use Rattle.std.specs.Prelude.{is_some}
use Rattle.sig_types.specs.Text.{number_of}
use Rattle.code_file.specs.Reading.{find_word, number_words}
use Rattle.code_file.proofs.TestedForms.{numbered_is, numbered_fails}
use Rattle.code_file.proofs.forms.numbered.Goals as goal

pub returns-in-Some : goal.returns-in-Some
returns-in-Some c = numbered_is (find_word number_words c.args.word.now) (number_of c.args.rest.now) c.in-Ok.n c.in-Some.instr c.in-Ok.ensures.number
    c.in-Some.ensures

pub returns-in-Err : goal.returns-in-Err
returns-in-Err c =
    numbered_fails (find_word number_words c.args.word.now) (number_of c.args.rest.now) c.in-Err.why
    (ap is_some (sym c.number_instr.ensures) ∙ c.if-is_none.ensures) c.in-Err.ensures.number
