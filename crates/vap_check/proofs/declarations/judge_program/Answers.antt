use Rattle.vap_ast.specs.Tree.{program_of}
use Rattle.vap_check.proofs.Agree.{all_on}
use Rattle.vap_check.proofs.declarations.judge_program.Goals as goal

pub returns : goal.returns
returns c =
    let arrays = rw c.deref.ensures.value at c.in_ok-judge_arrays.ensures in
    let above = rw c.deref-2.ensures.value at c.in_ok-judge_subs.ensures.above in
    let subs = rw c.deref-2.ensures.value at c.in_ok-judge_subs.ensures.found in
    all_on c.args.known.now (program_of c.args.program.now) c.requires.knows c.new-above.result.keys c.judge_subs.new.above.keys c.args.first.now
    c.judge_arrays.new.first c.judge_subs.new.first c.judge_body.new.first c.new-above.ensures.empty
    c.requires.consts arrays above subs c.in_ok-judge_body.ensures
