use Rattle.std.proofs.Common.{◌∙◌, sym}
use Rattle.run_seconds.proofs.Ends.{is_cut, played_begins, written_so}
use Rattle.run_seconds.proofs.play.finish.Goals as goal

pub returns-then-failed-clause-written : goal.returns-then-failed-clause-written
returns-then-failed-clause-written g c = λ start text is. is_cut start _ c.args.draft text (sym c.failed.ensures ∙ c.if-failed.true) is

pub returns-then-failed-clause-played : goal.returns-then-failed-clause-played
returns-then-failed-clause-played g c = λ stream frames is. played_begins c.args.end stream frames is

pub returns-in-Ok-clause-written : goal.returns-in-Ok-clause-written
returns-in-Ok-clause-written g c = λ start text is.
    written_so c.args.end c.args.draft.failed text start _ c.requires (sym c.failed.ensures ∙ c.if-failed.false) (c.in-Ok.ensures.ok start text is)

pub returns-in-Err-clause-written : goal.returns-in-Err-clause-written
returns-in-Err-clause-written g c = λ start text is. let at = c.in-Err.ensures.fault start text is in (at.n, at.cut)

pub returns-in-Err-clause-played : goal.returns-in-Err-clause-played
returns-in-Err-clause-played g c = λ stream frames is. played_begins c.args.end stream frames is
