use Rattle.std.proofs.Common.{◌≤◌, ◌∙◌, ◌≡◌, ℕ, List, length, sym, subst}
use Rattle.junction_run.specs.Loading.{text_limit}
use Rattle.junction_run.specs.Programs.{ProgramIs}
use Rattle.junction_run.proofs.Texts.{unread_file}
use Rattle.trace_call.proofs.Taken.{accepted_file, refused_file}
use Rattle.trace_call.proofs.program.take_program.Goals as goal

pub returns-in-Err-clause-program : goal.returns-in-Err-clause-program
returns-in-Err-clause-program g c = λ file e.
    unread_file ProgramIs text_limit c.args.word.now (file c.args.word.now) c.in-Err.stop (c.in-Err.ensures.unread file e) c.in-Err.ensures.word

pub returns-in-Ok-judge_program-clause-program : goal.returns-in-Ok-judge_program-clause-program
returns-in-Ok-judge_program-clause-program g c = λ file e.
    let same : c.deref.result.now ≡ file c.args.word.now = c.deref.ensures.value ∙ c.in-Ok.ensures.bytes file e in
    let short = subst (λ (t : List ℕ). length t ≤ 1048576) (sym c.deref.ensures.value) c.in-Ok.ensures.within in
    let is = c.in-Ok-judge_program.ensures.text in
    (accepted_file c.args.word.now (file c.args.word.now) c.deref.result.now _ _ same short is, c.in-Ok.ensures.bytes file e, is.value, is.runs, is.code_is)

pub returns-clause-program : goal.returns-clause-program
returns-clause-program g c = λ file e.
    let same : c.deref.result.now ≡ file c.args.word.now = c.deref.ensures.value ∙ c.in-Ok.ensures.bytes file e in
    let short = subst (λ (t : List ℕ). length t ≤ 1048576) (sym c.deref.ensures.value) c.in-Ok.ensures.within in
    refused_file c.args.word.now (file c.args.word.now) c.deref.result.now c.in-Err-judge_program.stop same short c.in-Err-judge_program.ensures.text
    c.in-Err-judge_program.ensures.word
