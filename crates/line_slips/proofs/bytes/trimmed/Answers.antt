use Rattle.std.proofs.Common.{ap, ◌∙◌}
use Rattle.std.proofs.lemmas.Str.Ascii.{trim_ascii_start_is}
use Rattle.line_slips.specs.Bytes.{trimmed, trimmed_end}
use Rattle.line_slips.proofs.bytes.trimmed.Goals as goal

pub returns : goal.returns
unfolding trimmed
returns c =
    c.trimmed_end.ensures
    ∙ ap trimmed_end (trim_ascii_start_is c.args.text.now c.trim_ascii_start.result.now c.trim_ascii_start.ensures.value)
