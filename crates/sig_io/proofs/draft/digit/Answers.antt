use Rattle.std.proofs.lemmas.Fmt.{decimal_digit}
use Rattle.sig_io.proofs.draft.digit.Goals as goal

pub returns : goal.returns
returns c = decimal_digit c.args.n c.requires
