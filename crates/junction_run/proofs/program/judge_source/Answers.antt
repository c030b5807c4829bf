use Rattle.std.proofs.Common.{length, arith}
use Rattle.vap_lex.proofs.Lines.{lines_within}
use Rattle.junction_run.proofs.Texts.{checked_text}
use Rattle.junction_run.proofs.program.judge_source.Goals as goal

pub check_tree-requires : goal.check_tree-requires
check_tree-requires c =
    c.in-Ok-judge_tree.ensures.parsed 1048577 (lines_within (length c.args.text.now) 1048577 c.in-Ok.tokens (omega (arith, c.requires)) c.in-Ok.ensures.lines)

pub returns-in-Err-judge_tree-clause-text : goal.returns-in-Err-judge_tree-clause-text
returns-in-Err-judge_tree-clause-text c = c.in-Err-judge_tree.ensures.refused c.args.text.now c.in-Ok.ensures.tokens

pub returns-clause-text : goal.returns-clause-text
returns-clause-text c =
    checked_text c.check_tree.result c.args.text.now c.in-Ok.tokens c.in-Ok-judge_tree.program c.in-Ok.ensures.tokens c.in-Ok-judge_tree.ensures.tree
    c.check_tree.ensures.tree c.check_tree.ensures.accepted
    (c.check_tree.ensures.refused c.args.text.now c.in-Ok.tokens c.in-Ok.ensures.tokens c.in-Ok-judge_tree.ensures.tree)
