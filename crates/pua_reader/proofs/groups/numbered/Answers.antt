use Rattle.std.proofs.Common.{sym, ◌∙◌}
use Rattle.pua_reader.proofs.Puts.{out_of_range_why}
use Rattle.pua_reader.proofs.groups.numbered.Goals as goal

pub returns-in_default : goal.returns-in_default
returns-in_default c = λ n e.
    out_of_range_why c.args.groups.now c.args.name.now n (sym c.has_name.ensures ∙ c.if-has_name.false) c.requires.rising (sym c.in_default.is ∙ e)
