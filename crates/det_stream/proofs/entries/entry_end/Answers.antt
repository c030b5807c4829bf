use Rattle.std.proofs.Common.{sym, ◌∙◌}
use Rattle.det_stream.proofs.ReadLemmas.{end_found, end_missing}
use Rattle.det_stream.proofs.entries.entry_end.Goals as goal

pub returns-in-Some-clause-end : goal.returns-in-Some-clause-end
returns-in-Some-clause-end c = end_found c.args.text.now c.in-Some.end (sym c.find_space.ensures ∙ c.in-Some.is)

pub returns-in-None-clause-end : goal.returns-in-None-clause-end
returns-in-None-clause-end c = end_missing c.args.text.now (sym c.find_space.ensures ∙ c.in-None.is)
