-- What a program is refused for, and all names of one that is accepted.
use Rattle.std.specs.Prelude.{◌≡◌, ◌≤◌, [], Option, None, Some}
use Rattle.sig_types.specs.Limits.{most_instrs}
use Rattle.vap_ast.specs.Syntax.{Program}
use Rattle.vap_check.specs.declared.judge.Judged.{Judged}
use Rattle.vap_check.specs.declared.judge.Judged.TheVariants.{Refused, Named}
use Rattle.vap_check.specs.declared.finding.Finding.{Finding}
use Rattle.vap_check.specs.Findings.{findings}
use Rattle.vap_check.specs.KeptNames.{KnowsAll}
use Rattle.vap_check.specs.Accepted.{Accepted, Refuses, passed, program_size}

-- a program is refused for this finding, or it is accepted and these are all of its names
abbrev pub IsJudged : Program → Judged → Type 0
IsJudged p (Refused f) = Refuses p f.line f.why
IsJudged p (Named names) = Accepted p × KnowsAll names p

-- a program in which nothing is wrong is refused for this finding, or passes no limit and is not too long
abbrev pub LimitIs : Program → Option Finding → Type 0
LimitIs p None = (passed p ≡ None) × (program_size p ≤ most_instrs)
LimitIs p (Some f) = findings p ≡ [] → Refuses p f.line f.why
