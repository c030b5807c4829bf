use Rattle.std.proofs.Common.{◌≤◌, ◌∙◌, ℕ, List, length, sym, subst}
use Rattle.junction_run.specs.Loading.{code_limit}
use Rattle.junction_run.specs.Codes.{CodeIs}
use Rattle.junction_run.proofs.Texts.{unread_file, code_file}
use Rattle.junction_run.proofs.code.take_code.Goals as goal

pub returns-in-Err-clause-code : goal.returns-in-Err-clause-code
returns-in-Err-clause-code g c = λ file e.
    unread_file CodeIs code_limit c.args.word.now (file c.args.word.now) c.in-Err.stop (c.in-Err.ensures.unread file e) c.in-Err.ensures.word

pub returns-clause-code : goal.returns-clause-code
returns-clause-code g c = λ file e.
    code_file c.args.word.now (file c.args.word.now) c.deref.result.now c.judge_code.result (c.deref.ensures.value ∙ c.in-Ok.ensures.bytes file e)
    (subst (λ (t : List ℕ). length t ≤ 2097152) (sym c.deref.ensures.value) c.in-Ok.ensures.within) c.judge_code.ensures.text c.judge_code.ensures.word
