use Rattle.std.proofs.Common.{[], refl}
use Rattle.sig_io.proofs.Drafts.{nothing}
use Rattle.trace_told.proofs.printing.see.Goals as goal

pub returns-clause-same_draft : goal.returns-clause-same_draft
returns-clause-same_draft g c =
    (c.second_seen.ensures.seen c.requires.0 c.requires.1 c.args.printing.now [] (refl, refl, refl, refl, refl, nothing)).0

pub returns-clause-same_out : goal.returns-clause-same_out
returns-clause-same_out g c =
    (c.second_seen.ensures.seen c.requires.0 c.requires.1 c.args.printing.now [] (refl, refl, refl, refl, refl, nothing)).1

pub returns-clause-puts : goal.returns-clause-puts
returns-clause-puts g c = λ past stands.
    (c.second_seen.ensures.seen past stands c.args.printing.now [] (refl, refl, refl, refl, refl, nothing)).5
