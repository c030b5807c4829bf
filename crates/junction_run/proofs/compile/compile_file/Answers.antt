use Rattle.std.proofs.Common.{◌<◌, ◌∷◌, [], Ok, arith, refl}
use Rattle.code_file.specs.Text.{code_text}
use Rattle.junction_run.specs.Answer.{loaded_answer}
use Rattle.junction_run.specs.Form.{Compile}
use Rattle.junction_run.specs.Loading.{IsJudged, text_limit, Reached}
use Rattle.junction_run.specs.Programs.{ProgramIs}
use Rattle.junction_run.proofs.Agree.{compiled_text}
use Rattle.junction_run.proofs.Ends.{stopped_loading, no_write, no_line, among}
use Rattle.junction_run.proofs.compile.compile_file.Goals as goal

pub returns-in-Err-clause-ended : goal.returns-in-Err-clause-ended
returns-in-Err-clause-ended g c = λ file e.
    stopped_loading (IsJudged ProgramIs text_limit c.args.program.now (file c.args.program.now)) (loaded_answer (Compile c.args.program.now) file)
    (Reached (Compile c.args.program.now) file)
    c.in-Err.stop _ _ (c.in-Err.ensures.program file e) refl

pub returns-in-Err-clause-word : goal.returns-in-Err-clause-word
returns-in-Err-clause-word g c =
    let zeroth : 0 < 1 = omega arith in
    among (c.args.program.now ∷ []) c.args.program.now c.in-Err.stop (0, zeroth, refl) c.in-Err.ensures.word

pub returns-in-Err-clause-write : goal.returns-in-Err-clause-write
returns-in-Err-clause-write g c = λ is. absurd (no_write c.in-Err.stop is)

pub returns-in-Err-clause-line : goal.returns-in-Err-clause-line
returns-in-Err-clause-line g c = no_line c.in-Err.stop

pub returns-in-Ok-write_code-clause-ended : goal.returns-in-Ok-write_code-clause-ended
returns-in-Ok-write_code-clause-ended g c = λ file e.
    let taken = c.in-Ok.ensures.program file e in
    let compiled = compiled_text c.in-Ok.compiled taken.0 c.code.ensures.valid c.code_has_text.ensures.read taken.2 in
    (Ok taken.0, taken.1, refl, (code_text c.in-Ok.compiled, compiled, c.in-Ok-write_code.ensures.ok))

pub returns-clause-ended : goal.returns-clause-ended
returns-clause-ended g c = λ file e.
    let taken = c.in-Ok.ensures.program file e in
    let compiled = compiled_text c.in-Ok.compiled taken.0 c.code.ensures.valid c.code_has_text.ensures.read taken.2 in
    ((Ok taken.0, taken.1, code_text c.in-Ok.compiled, compiled, _, c.in-Err-write_code.ensures.fault), tt)
