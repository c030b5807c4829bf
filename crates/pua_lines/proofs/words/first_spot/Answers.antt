use Rattle.std.proofs.Common.{drop, ap, ◌∙◌}
use Rattle.pua_lines.proofs.CutWords.{spot_is}
use Rattle.pua_lines.proofs.words.first_spot.Goals as goal

pub returns : goal.returns
returns c =
    spot_is c.args.number c.gap-from.result c.word_size.result c.args.line.now c.split_at.result.1.now c.gap-from.ensures.gap
    (c.split_at.ensures.back ∙ ap (λ n. drop n c.args.line.now) c.gap-from.ensures.gap) c.word_size.ensures.size
