use Rattle.std.proofs.Common.{drop, take, ap, ◌∙◌}
use Rattle.pua_lines.proofs.CutWords.{no_word, first_word}
use Rattle.pua_lines.proofs.words.cut_word.Goals as goal

pub returns-then-is_empty : goal.returns-then-is_empty
returns-then-is_empty c =
    no_word c.args.keys c.args.line.now c.split_at.result.1.now
    (c.split_at.ensures.back ∙ ap (λ n. drop n c.args.line.now) c.gap.ensures.gap) c.if-is_empty.ensures

pub returns : goal.returns
returns c =
    first_word c.args.keys c.args.line.now c.split_at.result.1.now c.split_at-2.result.0.now c.split_at-2.result.1.now
    (c.split_at.ensures.back ∙ ap (λ n. drop n c.args.line.now) c.gap.ensures.gap) c.if-is_empty.ensures
    (c.split_at-2.ensures.front ∙ ap (λ n. take n c.split_at.result.1.now) c.word_size.ensures.size)
    (c.split_at-2.ensures.back ∙ ap (λ n. drop n c.split_at.result.1.now) c.word_size.ensures.size)
