use Rattle.std.proofs.Common.{◌≤◌, ◌∙◌, ℕ, List, length, sym, subst}
use Rattle.junction_run.specs.Loading.{text_limit}
use Rattle.junction_run.specs.Programs.{ProgramIs}
use Rattle.junction_run.proofs.Texts.{unread_file, program_file}
use Rattle.junction_run.proofs.program.take_program.Goals as goal

pub returns-in-Err-clause-program : goal.returns-in-Err-clause-program
returns-in-Err-clause-program g c = λ file e.
    unread_file ProgramIs text_limit c.args.word.now (file c.args.word.now) c.in-Err.stop (c.in-Err.ensures.unread file e) c.in-Err.ensures.word

pub returns-clause-program : goal.returns-clause-program
returns-clause-program g c = λ file e.
    program_file c.args.word.now (file c.args.word.now) c.deref.result.now c.judge_program.result (c.deref.ensures.value ∙ c.in-Ok.ensures.bytes file e)
    (subst (λ (t : List ℕ). length t ≤ 1048576) (sym c.deref.ensures.value) c.in-Ok.ensures.within) c.judge_program.ensures.text c.judge_program.ensures.word
